-- Result sheets (document 01, "Sheets"), line by line. Line 1 is `result`, kind, r, N, p. Then come
--   system: `y i c_0 ..` for each row i from 1 to r;
--   basis: all `Y i j c_0 ..` lines, row by row, and then all `Z i j c_0 ..` lines;
--   equation: the one line `y 1 c_0 ..`.
-- Assumes nothing.
use Rattle.std.specs.Prelude.{◌≡◌, refl, ℕ, ◌-◌, ◌*◌, ◌/◌, ℤ, get_or, List, [], ◌∷◌, ◌++◌}
use mathlib.Core.List.{flatten}
use Rattle.job.specs.declared.Kind.{Kind}
use Rattle.job.specs.declared.Kind.TheVariants.{System, Basis, Equation}
use Rattle.text.specs.Decimal.{digits, digits_up_to}
use Rattle.text.specs.Class.{balanced}
use Rattle.text.specs.Lines.{Form, items, lines}
use Rattle.lines.specs.Forms.{shaped, row_forms, matrix_forms}
use Rattle.job.specs.declared.Header.{Header}
use Rattle.header.specs.Header.{header, word_of, header_form}

-- numbers c with -p < 2c <= p
abbrev pub balanced_form : ℕ → ℕ → List ℕ → Form
balanced_form p count = shaped count ((p - 1) / 2) (p / 2)

-- the bytes of `result`, a tab, and the kind's word
abbrev pub result_words : Kind → List ℕ
result_words kind = 114 ∷ 101 ∷ 115 ∷ 117 ∷ 108 ∷ 116 ∷ 9 ∷ word_of kind

-- the lines behind line 1, by the form of lines with the coefficients of a series. In bytes, `y` is 121, `Y` 89, `Z` 90
unfoldable pub result_lines : Kind → (List ℕ → Form) → ℕ → List Form
result_lines System series r = row_forms series (121 ∷ []) 1 r
result_lines Basis series r = matrix_forms series (89 ∷ []) r 1 r ++ matrix_forms series (90 ∷ []) r 1 r
result_lines Equation series r = row_forms series (121 ∷ []) 1 1

-- all lines of the result sheet with a header
unfoldable pub result_forms : Header → List Form
result_forms h = header_form (result_words h.kind) h ∷ result_lines h.kind (balanced_form h.p h.n) h.r

-- the words of y, or of Y and of Z
unfoldable pub result_counts : Kind → ℕ → ℕ → List ℕ
result_counts System r n = r * n ∷ []
result_counts Basis r n = r * r * n ∷ r * r * n ∷ []
result_counts Equation r n = n ∷ []

abbrev pub result_lengths : Header → List ℕ
result_lengths h = result_counts h.kind h.r h.n

-- the numbers of a result sheet: those of the words, one buffer after the other
abbrev pub result_numbers : ℕ → List (List ℕ) → ℕ → ℤ
result_numbers p lent k = balanced (get_or (flatten lent) k 0) p

-- the result sheet with a header, of the words of its buffers
abbrev pub result_text : Header → List (List ℕ) → List ℕ
result_text h lent = lines (result_forms h) (result_numbers h.p lent) 0

-- document 01's example: `result system 1 3 7`, `y 1 1 1 -3`
example : List ℕ
example =
    114 ∷ 101 ∷ 115 ∷ 117 ∷ 108 ∷ 116 ∷ 9 ∷ 115 ∷ 121 ∷ 115 ∷ 116 ∷ 101 ∷ 109 ∷ 9 ∷ 49 ∷ 9 ∷ 51 ∷ 9 ∷ 55 ∷ 10 ∷
    121 ∷ 9 ∷ 49 ∷ 9 ∷ 49 ∷ 9 ∷ 49 ∷ 9 ∷ 45 ∷ 51 ∷ 10 ∷ []

result_example : result_text (header System 1 3 7) ((1 ∷ 1 ∷ 4 ∷ []) ∷ []) ≡ example
unfolding example result_forms result_lines word_of row_forms lines items digits digits_up_to flatten
result_example = refl
