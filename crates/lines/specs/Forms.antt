-- The forms of lines that sheets are made of: a line begins with fields that its place in the sheet decides, and these
-- are its head; then come its numbers.
-- Assumes nothing.
use Rattle.std.specs.Prelude.{List, [], ◌∷◌, ◌++◌, ℕ, zero, suc}
use Rattle.text.specs.Decimal.{digits}
use Rattle.text.specs.Lines.{Form}

-- a form by its numbers, from -low to high, and then its head
abbrev pub shaped : ℕ → ℕ → ℕ → List ℕ → Form
shaped count low high head = record { head = head; count = count; low = low; high = high }

-- a head with one more field, a number
abbrev pub numbered : List ℕ → ℕ → List ℕ
numbered head i = head ++ (9 ∷ digits i)

-- lines that begin `head i`, for so many i, from the given one on
unfoldable pub row_forms : (List ℕ → Form) → List ℕ → ℕ → ℕ → List Form
row_forms form head i zero = []
row_forms form head i (suc count) = form (numbered head i) ∷ row_forms form head (suc i) count

-- lines that begin `head i j`, row by row, for so many rows i, from the given one on, and for the columns j from 1
unfoldable pub matrix_forms : (List ℕ → Form) → List ℕ → ℕ → ℕ → ℕ → List Form
matrix_forms form head columns i zero = []
matrix_forms form head columns i (suc rows) =
    row_forms form (numbered head i) 1 columns ++ matrix_forms form head columns (suc i) rows
