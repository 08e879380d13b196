-- `result::write_basis` meets its contract: each check speaks where those before it are silent, and where all are the
-- sheet is put.
-- Assumes nothing.
use Rattle.std.proofs.Common.{refl, [], ◌∷◌, ◌*◌, ◌≤◌, Ok, arith}
use Rattle.std.proofs.lemmas.Result.{err_from_is_err_and}
use Rattle.job.specs.declared.Kind.TheVariants.{Basis}
use Rattle.refusal.specs.Checked.{Judged}
use Rattle.refusal.proofs.Products.{bounded_of}
use Rattle.header.specs.Header.{header}
use Rattle.result.proofs.Checks.{
  exact,
  small_refuses,
  exact_refuses,
  below_refuses,
  sheet_written,
  basis_exact,
  first_below,
  second_below,
  basis_first,
  basis_second,
  basis_whole,
}
use Rattle.result.proofs.Sizes.{limits, small, square, basis_ready}
use Rattle.result.proofs.write_basis.Goals as goal
use Rattle.result.proofs.write_basis.Goals.{In_ok-check_small, In_ok-check_lengths}

pub returns-in_err-check_small : goal.returns-in_err-check_small
returns-in_err-check_small c =
    let p = err_from_is_err_and c.from_residual.result c.from_residual.ensures.1 in
    rw (p.1, p.2) (small_refuses _ _ _ c.in_err-check_small.ensures)

few : (c : In_ok-check_small) → c.args.r * c.args.r * c.args.n ≤ 1024
few c = small c.args.r c.args.n c.args.p c.in_ok-check_small.ensures.says

pub overflow_mul-count : goal.overflow_mul-count
overflow_mul-count c =
    let a = c.args in
    omega (arith, square a.r a.n a.p c.in_ok-check_small.ensures.says)

pub overflow_mul-count-2 : goal.overflow_mul-count-2
overflow_mul-count-2 c = omega (arith, few c)

pub check_lengths-requires : goal.check_lengths-requires
check_lengths-requires c =
    let bound = few (goal.at.check_lengths-requires c).In_ok-check_small in
    (omega arith, (omega arith, omega arith, bounded_of _ (omega arith)))

pub returns-in_err-check_lengths : goal.returns-in_err-check_lengths
returns-in_err-check_lengths c =
    let a = c.args in
    let back = c.from_residual-in_err-check_lengths in
    let p = err_from_is_err_and back.result back.ensures.1 in
    let said = basis_exact a.r a.n a.p a.y.now a.z.now a.text.now c.in_err-check_lengths.ensures in
    rw (p.1, p.2) (exact_refuses _ _ _ c.in_ok-check_small.ensures said)

pub overflow_cast-q : goal.overflow_cast-q
overflow_cast-q c =
    let a = c.args in
    omega (arith, (limits a.r a.n a.p c.in_ok-check_small.ensures.says).half)

-- 5 is silent
long
    : (c : In_ok-check_lengths)
    → let a = c.args in
    Judged (exact (header Basis a.r a.n a.p) (a.y.now ∷ a.z.now ∷ []) a.text.now) (Ok tt)
long c = let a = c.args in basis_exact a.r a.n a.p a.y.now a.z.now a.text.now c.in_ok-check_lengths.ensures

pub check_buffer-requires : goal.check_buffer-requires
check_buffer-requires c =
    let a = c.args in
    let at = goal.at.check_buffer-requires c in
    let bound = few at.In_ok-check_small in
    let same = basis_first a.r a.n a.p a.y.now a.z.now a.text.now (long at.In_ok-check_lengths) in
    record { few = omega arith; within = omega arith }

pub returns-in_err-check_buffer : goal.returns-in_err-check_buffer
returns-in_err-check_buffer c =
    let a = c.args in
    let back = c.from_residual-in_err-check_buffer in
    let p = err_from_is_err_and back.result back.ensures.1 in
    let known = long (goal.at.returns-in_err-check_buffer c).In_ok-check_lengths in
    let said = first_below a.r a.n a.p a.y.now a.z.now a.text.now c.in_err-check_buffer.ensures in
    rw (p.1, p.2) (below_refuses _ _ _ c.in_ok-check_small.ensures known said)

pub check_buffer-requires-2 : goal.check_buffer-requires-2
check_buffer-requires-2 c =
    let a = c.args in
    let at = goal.at.check_buffer-requires-2 c in
    let bound = few at.In_ok-check_small in
    let same = basis_second a.r a.n a.p a.y.now a.z.now a.text.now (long at.In_ok-check_lengths) in
    record { few = omega arith; within = omega arith }

pub returns-in_err-check_buffer-2 : goal.returns-in_err-check_buffer-2
returns-in_err-check_buffer-2 c =
    let a = c.args in
    let back = c.from_residual-in_err-check_buffer-2 in
    let p = err_from_is_err_and back.result back.ensures.1 in
    let known = long (goal.at.returns-in_err-check_buffer-2 c).In_ok-check_lengths in
    let said =
    second_below a.r a.n a.p a.y.now a.z.now a.text.now c.in_ok-check_buffer.ensures c.in_err-check_buffer-2.ensures in
    rw (p.1, p.2) (below_refuses _ _ _ c.in_ok-check_small.ensures known said)

pub put_basis-requires : goal.put_basis-requires
put_basis-requires c =
    let a = c.args in
    let known = long (goal.at.put_basis-requires c).In_ok-check_lengths in
    let first = basis_first a.r a.n a.p a.y.now a.z.now a.text.now known in
    let second = basis_second a.r a.n a.p a.y.now a.z.now a.text.now known in
    let whole = basis_whole a.r a.n a.p a.y.now a.z.now a.text.now known in (
      refl,
      basis_ready a.r a.n a.p c.in_ok-check_small.ensures.says first second whole c.in_ok-check_buffer.ensures.says
          c.in_ok-check_buffer-2.ensures.says,
    )

pub returns : goal.returns
returns c =
    let a = c.args in
    let known = long (goal.at.returns c).In_ok-check_lengths in
    let said =
    second_below a.r a.n a.p a.y.now a.z.now a.text.now c.in_ok-check_buffer.ensures c.in_ok-check_buffer-2.ensures in
    sheet_written _ _ _ c.in_ok-check_small.ensures known said c.put_basis.ensures
