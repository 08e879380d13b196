-- What line 1 of a sheet says (document 01, "Sheets"): a kind of job, the order r, the number n of terms, and the
-- modulus p.
-- Assumes nothing.
use Rattle.std.specs.Prelude.{List, [], ◌∷◌, ℕ, ◌≤◌}
use Rattle.job.specs.declared.Kind.{Kind}
use Rattle.job.specs.declared.Kind.TheVariants.{System, Basis, Equation}
use Rattle.text.specs.Lines.{Form}
use Rattle.lines.specs.Forms.{shaped, numbered}
use Rattle.job.specs.declared.Header.{Header}

abbrev pub header : Kind → ℕ → ℕ → ℕ → Header
header kind r n p = record { kind = kind; r = r; n = n; p = p }

-- the bytes of `system`, `basis` and `equation`
unfoldable pub word_of : Kind → List ℕ
word_of System = 115 ∷ 121 ∷ 115 ∷ 116 ∷ 101 ∷ 109 ∷ []
word_of Basis = 98 ∷ 97 ∷ 115 ∷ 105 ∷ 115 ∷ []
word_of Equation = 101 ∷ 113 ∷ 117 ∷ 97 ∷ 116 ∷ 105 ∷ 111 ∷ 110 ∷ []

-- line 1: the fields that lead, and then r, N, p
abbrev pub header_form : List ℕ → Header → Form
header_form lead h = shaped 0 0 0 (numbered (numbered (numbered lead h.r) h.n) h.p)

-- each number of the header has at most 10 digits
pub record TenDigits (h : Header) : Type 0 where
  pub order : h.r ≤ 9999999999
  pub terms : h.n ≤ 9999999999
  pub modulus : h.p ≤ 9999999999
