-- What reading line 1 finds: three numbers behind the fields that lead.
-- Assumes nothing.
use Rattle.std.specs.Prelude.{◌≡◌, List, [], ◌∷◌, ℕ, ◌<◌, ℤ, pos, drop, Option, Some, None}
use Rattle.job.specs.declared.Kind.{Kind}
use Rattle.text.specs.Lines.{Within, Begins}
use Rattle.cursor.specs.declared.Cursor.{Cursor}
use Rattle.lines.specs.Steps.{nth, Placed}
use Rattle.job.specs.declared.Header.{Header}
use Rattle.header.specs.Header.{header_form, TenDigits}

-- three numbers of at most 10 digits
pub record Tens (w : List ℤ) : Type 0 where
  pub small : (k : ℕ) → k < 3 → Within 0 9999999999 (nth w k)

-- the header of a kind and three numbers
pub record Named (kind : Kind) (w : List ℤ) (h : Header) : Type 0 where
  pub same : h.kind ≡ kind
  pub order : nth w 0 ≡ pos h.r
  pub terms : nth w 1 ≡ pos h.n
  pub modulus : nth w 2 ≡ pos h.p

-- the text begins with the header h behind the fields that lead, and c is the place behind that line
pub record Opens (lead s : List ℕ) (h : Header) (c : Cursor) : Type 0 where
  pub short : TenDigits h
  pub placed : Placed s c
  pub line : c.line ≡ 1
  pub field : c.field ≡ 0
  pub begins : (z : ℕ → ℤ) → Begins s (header_form lead h ∷ []) z 0 (drop c.byte s)

-- a header of one kind, or none
abbrev pub OpenedAs : Kind → List ℕ → List ℕ → Option (Header × Cursor) → Type 0
OpenedAs kind lead s (Some (h, c)) = (h.kind ≡ kind) × Opens lead s h c
OpenedAs kind lead s None =
    (h : Header) (z : ℕ → ℤ) (t : List ℕ) → TenDigits h → Begins s (header_form lead h ∷ []) z 0 t → ⊥
