-- `result::write_vector` meets its contract: each check speaks where those before it are silent, and where all are the
-- sheet is put.
-- Assumes nothing.
use Rattle.std.proofs.Common.{[], ◌∷◌, ◌*◌, ◌≤◌, Ok, arith}
use Rattle.std.proofs.lemmas.Result.{err_from_is_err_and}
use Rattle.refusal.specs.Checked.{Judged}
use Rattle.refusal.proofs.Products.{bounded_of}
use Rattle.result.proofs.Checks.{
  exact,
  small_refuses,
  exact_refuses,
  below_refuses,
  sheet_written,
  vector_exact,
  vector_below,
  vector_length,
  vector_whole,
}
use Rattle.result.proofs.Sizes.{limits, rows_few, vector_ready}
use Rattle.result.proofs.write_vector.Goals as goal
use Rattle.result.proofs.write_vector.Goals.{In_ok-check_small, In_ok-check_lengths}

pub returns-in_err-check_small : goal.returns-in_err-check_small
returns-in_err-check_small c =
    let p = err_from_is_err_and c.from_residual.result c.from_residual.ensures.1 in
    rw (p.1, p.2) (small_refuses _ _ _ c.in_err-check_small.ensures)

few : (c : In_ok-check_small) → (c.args.rows ≤ 8) × (c.args.rows * c.args.h.n ≤ 1024)
few c =
    let a = c.args in
    rows_few a.h.r a.h.n a.h.p c.in_ok-check_small.ensures.says a.h.kind a.rows c.requires

pub overflow_mul-count : goal.overflow_mul-count
overflow_mul-count c = omega (arith, few (goal.at.overflow_mul-count c).In_ok-check_small)

pub check_lengths-requires : goal.check_lengths-requires
check_lengths-requires c =
    let small = few (goal.at.check_lengths-requires c).In_ok-check_small in
    (omega arith, (omega arith, omega arith, bounded_of _ (omega arith)))

pub returns-in_err-check_lengths : goal.returns-in_err-check_lengths
returns-in_err-check_lengths c =
    let a = c.args in
    let back = c.from_residual-in_err-check_lengths in
    let p = err_from_is_err_and back.result back.ensures.1 in
    let said = vector_exact a.h.kind a.h.r a.h.n a.h.p a.y.now a.text.now a.rows
    c.requires c.in_err-check_lengths.ensures in
    rw (p.1, p.2) (exact_refuses _ _ _ c.in_ok-check_small.ensures said)

-- 5 is silent
long
    : (c : In_ok-check_lengths)
    → let a = c.args in
    Judged (exact a.h (a.y.now ∷ []) a.text.now) (Ok tt)
long c =
    let a = c.args in
    vector_exact a.h.kind a.h.r a.h.n a.h.p a.y.now a.text.now a.rows c.requires c.in_ok-check_lengths.ensures

pub overflow_cast-h : goal.overflow_cast-h
overflow_cast-h c =
    let a = c.args in
    omega (arith, (limits a.h.r a.h.n a.h.p c.in_ok-check_small.ensures.says).half)

pub check_buffer-requires : goal.check_buffer-requires
check_buffer-requires c =
    let a = c.args in
    let at = goal.at.check_buffer-requires c in
    let small = few at.In_ok-check_small in
    let same = vector_length a.h.kind a.h.r a.h.n a.h.p a.y.now a.text.now a.rows
    c.requires (long at.In_ok-check_lengths) in
    record { few = omega arith; within = omega arith }

pub returns-in_err-check_buffer : goal.returns-in_err-check_buffer
returns-in_err-check_buffer c =
    let a = c.args in
    let back = c.from_residual-in_err-check_buffer in
    let p = err_from_is_err_and back.result back.ensures.1 in
    let known = long (goal.at.returns-in_err-check_buffer c).In_ok-check_lengths in
    let said = vector_below a.h.kind a.h.r a.h.n a.h.p a.y.now a.text.now a.rows
    c.requires c.in_err-check_buffer.ensures in
    rw (p.1, p.2) (below_refuses _ _ _ c.in_ok-check_small.ensures known said)

pub put_vector-requires : goal.put_vector-requires
put_vector-requires c =
    let a = c.args in
    let known = long (goal.at.put_vector-requires c).In_ok-check_lengths in
    let same = vector_length a.h.kind a.h.r a.h.n a.h.p a.y.now a.text.now a.rows c.requires known in
    let whole = vector_whole a.h.kind a.h.r a.h.n a.h.p a.y.now a.text.now a.rows c.requires known in
    vector_ready a.h.r a.h.n a.h.p c.in_ok-check_small.ensures.says a.h.kind a.rows c.requires same whole
    c.in_ok-check_buffer.ensures.says

pub returns : goal.returns
returns c =
    let a = c.args in
    let known = long (goal.at.returns c).In_ok-check_lengths in
    let said = vector_below a.h.kind a.h.r a.h.n a.h.p a.y.now a.text.now a.rows
    c.requires c.in_ok-check_buffer.ensures in
    sheet_written _ _ _ c.in_ok-check_small.ensures known said c.put_vector.ensures
