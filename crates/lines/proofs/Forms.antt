-- Rows and matrices of lines: one row more at the end, and how many lines and numbers they have.
-- Assumes nothing.
use Rattle.std.proofs.Common.{◌≡◌, refl, sym, ap, ◌∙◌, List, [], ◌∷◌, ◌++◌, append_assoc, append-nil, ℕ, zero, suc}
use Rattle.std.proofs.Common.{◌+◌, ◌*◌, ◌<◌, suc-mul, zero-mul, arith, length}
use Rattle.text.specs.Lines.{Form, total}
use Rattle.text.proofs.Digits.{digits-small}
use Rattle.text.proofs.Lines.{total-append}
use Rattle.lines.specs.Forms.{shaped, numbered, row_forms, matrix_forms}

module _ (form : List ℕ → Form) (head : List ℕ) where
  pub rows_snoc
      : (i k : ℕ) → row_forms form head i (suc k) ≡ row_forms form head i k ++ (form (numbered head (i + k)) ∷ [])
  unfolding row_forms
  rows_snoc i zero = let e : i + 0 ≡ i = omega arith in rw e
  rows_snoc i (suc k) =
      let e : suc i + k ≡ i + suc k = omega arith in
      ap (λ (fs : List Form). form (numbered head i) ∷ fs) (rows_snoc (suc i) k) ∙ rw e

  pub length-rows : (i k : ℕ) → length (row_forms form head i k) ≡ k
  unfolding row_forms
  length-rows i zero = refl
  length-rows i (suc k) = ap suc (length-rows (suc i) k)

  pub matrix_snoc
      : (columns i k : ℕ)
      → matrix_forms form head columns i (suc k)
      ≡ matrix_forms form head columns i k ++ row_forms form (numbered head (i + k)) 1 columns
  unfolding matrix_forms
  matrix_snoc columns i zero =
      let e : i + 0 ≡ i = omega arith in
      append-nil (row_forms form (numbered head i) 1 columns) ∙ rw e
  matrix_snoc columns i (suc k) =
      let e : suc i + k ≡ i + suc k = omega arith in
      let first = row_forms form (numbered head i) 1 columns in
      ap (λ (fs : List Form). first ++ fs) (matrix_snoc columns (suc i) k)
      ∙ rw e (sym (append_assoc first (matrix_forms form head columns (suc i) k) _))

pub total-rows
    : (count low high : ℕ) (head : List ℕ) (i k : ℕ) → total (row_forms (shaped count low high) head i k) ≡ k * count
unfolding row_forms total
total-rows count low high head i zero = sym (zero-mul count)
total-rows count low high head i (suc k) = omega (arith, total-rows count low high head (suc i) k, suc-mul k count)

pub total-matrix
    : (count low high : ℕ) (head : List ℕ) (columns i k : ℕ)
    → total (matrix_forms (shaped count low high) head columns i k) ≡ k * (columns * count)
unfolding matrix_forms total
total-matrix count low high head columns i zero = sym (zero-mul (columns * count))
total-matrix count low high head columns i (suc k) =
    let form = shaped count low high in
    let row = row_forms form (numbered head i) 1 columns in
    let others = matrix_forms form head columns (suc i) k in
    omega (
      arith,
      total-append row others,
      total-rows count low high (numbered head i) 1 columns,
      total-matrix count low high head columns (suc i) k,
      suc-mul k (columns * count),
    )

-- the head of a word and one digit
pub word_digit : (word k : ℕ) → k < 9 → word ∷ 9 ∷ (49 + k) ∷ [] ≡ numbered (word ∷ []) (1 + k)
word_digit word k h =
    let e : 49 + k ≡ 48 + (1 + k) = omega arith in
    rw (digits-small (1 + k) (omega arith), e)
