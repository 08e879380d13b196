-- Lines in blocks of the same shape, read one block after the other: the rows of a list, and the rows of a matrix.
-- Assumes nothing.
use Rattle.std.proofs.Common.{Result, ◌≡◌, sym, ap, subst, ◌∙◌, List, [], ◌∷◌, ◌++◌, ℕ, zero, suc, ◌+◌, ◌*◌, ◌<◌}
use Rattle.std.proofs.Common.{add-one, arith, ℤ}
use Rattle.std.proofs.Math.Decide.{ℕ_discrete}
use Rattle.text.specs.Lines.{Form, total}
use Rattle.cursor.specs.declared.Cursor.{Cursor}
use Rattle.lines.specs.declared.Numbers.{Numbers}
use Rattle.lines.specs.declared.BrokenLine.{BrokenLine}
use Rattle.lines.specs.Forms.{numbered, row_forms, matrix_forms}
use Rattle.lines.specs.Steps.{form_of, Passed, Breaks, Read}
use Rattle.lines.proofs.Forms.{rows_snoc, matrix_snoc, total-rows, total-matrix}
use Rattle.lines.proofs.Passes.{read_more, broken_first}

-- lines in blocks: F k is the first k blocks, and G k is the block behind them
module _ (F G : ℕ → List Form) (snoc : (k : ℕ) → F (suc k) ≡ F k ++ G k) where
  blocks_read
      : {s : List ℕ} {c d : Cursor} (k i : ℕ) {old mid : List ℤ} → Passed s c (F k) i old mid d
      → (new : List ℤ) (j : ℕ) → i + total (F k) ≡ j → (r : Result Cursor BrokenLine) → Read s d (G k) j mid new r
      → Read s c (F (k + 1)) i old new r
  blocks_read {s} {c} k i {old} p new j at r q =
      let e : F (k + 1) ≡ F k ++ G k = ap F (add-one k) ∙ snoc k in
      subst (λ (fs : List Form). Read s c fs i old new r) (sym e) (read_more p (G k) new j at r q)

  -- a line broken among the first k + 1 blocks is broken among more
  blocks-broken
      : {s : List ℕ} {c : Cursor} (k m i : ℕ) {old new : List ℤ} {number : ℕ} → k < m
      → Breaks s c (F (k + 1)) i old new number → Breaks s c (F m) i old new number
  blocks-broken k zero i l b = absurd (omega arith)
  blocks-broken {s} {c} k (suc m) i {old} {new} {number} l b = elim (ℕ_discrete k m) [
    | yes e ↦
        let same : k + 1 ≡ suc m = omega arith in
        subst (λ (j : ℕ). Breaks s c (F j) i old new number) same b
    | no e ↦
        subst (λ (fs : List Form). Breaks s c fs i old new number) (sym (snoc m))
        (broken_first (blocks-broken k m i (omega arith) b) (G m))
  ]

module _ (n : Numbers) (h : List ℕ) {s : List ℕ} {c : Cursor} {i : ℕ} {old : List ℤ} where
  -- the lines of rows
  module _ (first k : ℕ) where
    pub rows_next
        : {d : Cursor} {mid : List ℤ} → Passed s c (row_forms (form_of n) h first k) i old mid d
        → (new : List ℤ) (r : Result Cursor BrokenLine)
        → Read s d (form_of n (numbered h (first + k)) ∷ []) (i + k * n.count) mid new r
        → Read s c (row_forms (form_of n) h first (k + 1)) i old new r
    rows_next p new r q =
        let e = ap (λ (m : ℕ). i + m) (total-rows n.count n.low n.high h first k) in
        blocks_read (row_forms (form_of n) h first) (λ k. form_of n (numbered h (first + k)) ∷ [])
        (rows_snoc (form_of n) h first) k i p new (i + k * n.count) e r q

    pub rows-broken
        : (rows : ℕ) {new : List ℤ} {number : ℕ} → k < rows
        → Breaks s c (row_forms (form_of n) h first (k + 1)) i old new number
        → Breaks s c (row_forms (form_of n) h first rows) i old new number
    rows-broken rows l b =
        blocks-broken (row_forms (form_of n) h first) (λ k. form_of n (numbered h (first + k)) ∷ [])
        (rows_snoc (form_of n) h first) k rows i l b

  -- the lines of a matrix
  module _ (columns k : ℕ) where
    pub matrix_next
        : {d : Cursor} {mid : List ℤ} → Passed s c (matrix_forms (form_of n) h columns 1 k) i old mid d
        → (row : List ℕ) → row ≡ numbered h (1 + k) → (new : List ℤ) (r : Result Cursor BrokenLine)
        → Read s d (row_forms (form_of n) row 1 columns) (i + k * (columns * n.count)) mid new r
        → Read s c (matrix_forms (form_of n) h columns 1 (k + 1)) i old new r
    matrix_next p row head new r q =
        let e = ap (λ (m : ℕ). i + m) (total-matrix n.count n.low n.high h columns 1 k) in
        blocks_read (matrix_forms (form_of n) h columns 1) (λ k. row_forms (form_of n) (numbered h (1 + k)) 1 columns)
        (matrix_snoc (form_of n) h columns 1) k i p new (i + k * (columns * n.count)) e r (rw head at q)

    pub matrix-broken
        : (rows : ℕ) {new : List ℤ} {number : ℕ} → k < rows
        → Breaks s c (matrix_forms (form_of n) h columns 1 (k + 1)) i old new number
        → Breaks s c (matrix_forms (form_of n) h columns 1 rows) i old new number
    matrix-broken rows l b =
        blocks-broken (matrix_forms (form_of n) h columns 1) (λ k. row_forms (form_of n) (numbered h (1 + k)) 1 columns)
        (matrix_snoc (form_of n) h columns 1) k rows i l b
