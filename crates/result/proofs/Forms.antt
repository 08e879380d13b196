-- The text of rows and of matrices of lines: one row more at the end.
-- Assumes nothing.
use Rattle.std.proofs.Common.{◌≡◌, sym, ap, ◌∙◌, List, [], ◌∷◌, ◌++◌, append-nil, ℕ, suc, ◌+◌, ◌*◌, ℤ}
use Rattle.text.specs.Lines.{Form, line, lines}
use Rattle.text.proofs.Lines.{lines-append}
use Rattle.lines.specs.Forms.{shaped, numbered, row_forms, matrix_forms}
use Rattle.lines.proofs.Forms.{rows_snoc, matrix_snoc, total-rows, total-matrix}

lines-one : (f : Form) (z : ℕ → ℤ) (i : ℕ) → lines (f ∷ []) z i ≡ line f z i
unfolding lines
lines-one f z i = append-nil (line f z i)

module _ (n low high : ℕ) (z : ℕ → ℤ) (from : ℕ) (head : List ℕ) where
  pub rows_more
      : (i k : ℕ)
      → lines (row_forms (shaped n low high) head i k) z from
      ++ line (shaped n low high (numbered head (i + k))) z (from + k * n)
      ≡ lines (row_forms (shaped n low high) head i (suc k)) z from
  rows_more i k =
      let fs = row_forms (shaped n low high) head i k in
      let g = shaped n low high (numbered head (i + k)) in
      sym
      (ap (λ (gs : List Form). lines gs z from) (rows_snoc (shaped n low high) head i k)
      ∙ lines-append (g ∷ []) z fs from ∙ rw (total-rows n low high head i k, lines-one g z (from + k * n)))

  pub matrix_more
      : (columns i k : ℕ)
      → lines (matrix_forms (shaped n low high) head columns i k) z from
      ++ lines (row_forms (shaped n low high) (numbered head (i + k)) 1 columns) z (from + k * (columns * n))
      ≡ lines (matrix_forms (shaped n low high) head columns i (suc k)) z from
  matrix_more columns i k =
      let fs = matrix_forms (shaped n low high) head columns i k in
      let gs = row_forms (shaped n low high) (numbered head (i + k)) 1 columns in
      sym
      (ap (λ (hs : List Form). lines hs z from) (matrix_snoc (shaped n low high) head columns i k)
      ∙ lines-append gs z fs from ∙ rw (total-matrix n low high head columns i k))
