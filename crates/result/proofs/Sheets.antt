-- The text of a whole result sheet: line 1, and then the lines of y, or those of Y and of Z.
-- Assumes nothing.
use Rattle.std.proofs.Common.{
  ◌≡◌,
  sym,
  ap,
  ◌∙◌,
  List,
  [],
  ◌∷◌,
  ◌++◌,
  append-nil,
  ℕ,
  ◌+◌,
  ◌*◌,
  arith,
  ℤ,
  length,
  get_or-append-add,
}
use mathlib.Core.List.{flatten}
use lib.ListN.{get_or-append}
use Rattle.job.specs.declared.Kind.{Kind}
use Rattle.job.specs.declared.Kind.TheVariants.{System, Basis, Equation}
use Rattle.text.specs.Class.{balanced}
use Rattle.text.specs.Lines.{Form, items, lines, total}
use Rattle.text.proofs.Lines.{lines-append}
use Rattle.lines.proofs.Forms.{total-matrix}
use Rattle.lines.specs.Forms.{row_forms, matrix_forms}
use Rattle.job.specs.declared.Header.{Header}
use Rattle.header.specs.Header.{header, header_form}
use Rattle.result.specs.ResultSheet.{
  balanced_form,
  result_words,
  result_lines,
  result_forms,
  result_numbers,
  result_text,
}
use Rattle.result.specs.Print.{number_at, Rows}
use Rattle.result.proofs.Shift.{Same, lines-shift}

-- line 1 and the lines behind it
header-lines
    : (lead : List ℕ) (h : Header) (fs : List Form) (z : ℕ → ℤ)
    → ((header_form lead h).head ++ (10 ∷ [])) ++ lines fs z 0 ≡ lines (header_form lead h ∷ fs) z 0
unfolding lines items
header-lines lead h fs z = let e : 0 + 0 ≡ 0 = omega arith in rw e

-- one list of forms behind another, each with the numbers of a buffer of its own
two_buffers
    : (p : ℕ) (y z : List ℕ) (fs gs : List Form) → total fs ≡ length y
    → lines fs (number_at p y) 0 ++ lines gs (number_at p z) 0 ≡ lines (fs ++ gs) (result_numbers p (y ∷ z ∷ [])) 0
unfolding flatten
two_buffers p y z fs gs e =
    let all = number_at p (y ++ (z ++ [])) in
    let first : Same (number_at p y) 0 all 0 (total fs) = record {
      at = λ j h. ap (λ (c : ℕ). balanced c p) (sym (get_or-append y (z ++ []) 0 (0 + j) (omega arith)));
    } in
    let second : Same (number_at p z) 0 all (0 + total fs) (total gs) = record {
      at = λ j h.
          let k : 0 + total fs + j ≡ length y + (0 + j) = omega arith in
          rw (k, get_or-append-add y (z ++ []) (0 + j) 0, append-nil);
    } in
    rw (lines-shift fs first, lines-shift gs second) (sym (lines-append gs all fs 0))

-- the lines of y
vector_lines
    : (kind : Kind) (series : List ℕ → Form) (r rows : ℕ) → Rows kind r rows
    → result_lines kind series r ≡ row_forms series (121 ∷ []) 1 rows
unfolding result_lines
vector_lines System series r rows e = rw e
vector_lines Basis series r rows e = absurd e
vector_lines Equation series r rows e = rw e

-- the sheet of y
pub vector_sheet
    : (kind : Kind) (r rows n p : ℕ) (y : List ℕ) → Rows kind r rows
    → let rest = row_forms (balanced_form p n) (121 ∷ []) 1 rows in
    ((header_form (result_words kind) (header kind r n p)).head ++ (10 ∷ [])) ++ lines rest (number_at p y) 0
    ≡ result_text (header kind r n p) (y ∷ [])
unfolding result_forms flatten
vector_sheet kind r rows n p y e =
    let rest = row_forms (balanced_form p n) (121 ∷ []) 1 rows in
    let numbers : result_numbers p (y ∷ []) ≡ number_at p y = ap (λ (s : List ℕ). number_at p s) (append-nil y) in
    rw (numbers, vector_lines kind (balanced_form p n) r rows e)
    (header-lines (result_words kind) (header kind r n p) rest (number_at p y))

-- the sheet of Y and Z
pub basis_sheet
    : (r n p : ℕ) (y z : List ℕ) → length y ≡ r * (r * n)
    → let first = matrix_forms (balanced_form p n) (89 ∷ []) r 1 r in
    let second = matrix_forms (balanced_form p n) (90 ∷ []) r 1 r in
    ((header_form (result_words Basis) (header Basis r n p)).head ++ (10 ∷ []))
    ++ (lines first (number_at p y) 0 ++ lines second (number_at p z) 0)
    ≡ result_text (header Basis r n p) (y ∷ z ∷ [])
unfolding result_forms result_lines
basis_sheet r n p y z e =
    let first = matrix_forms (balanced_form p n) (89 ∷ []) r 1 r in
    let second = matrix_forms (balanced_form p n) (90 ∷ []) r 1 r in
    let exact = total-matrix n _ _ (89 ∷ []) r 1 r ∙ sym e in
    rw (two_buffers p y z first second exact)
    (header-lines (result_words Basis) (header Basis r n p) (first ++ second) (result_numbers p (y ∷ z ∷ [])))
