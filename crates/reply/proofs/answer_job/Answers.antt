-- `reply::answer_job` meets its contract: the parts that are handed over are there, and what is printed follows from
-- the outcome of the call.
-- Assumes nothing.
use Rattle.std.proofs.Common.{ap, arith, length-take}
use Rattle.std.proofs.lemmas.Result.{err_from_is_err_and}
use Rattle.job.specs.Refusal.{verdict_of}
use Rattle.body.proofs.Sizes.{sizes}
use Rattle.reply.proofs.Calls.{there}
use Rattle.reply.proofs.Answers.{job_refused, job-told}
use Rattle.reply.proofs.answer_job.Goals as goal

pub lengths_of-requires : goal.lengths_of-requires
lengths_of-requires c =
    let small = c.requires.small in
    (small.order, omega (arith, (sizes small).terms))

pub slice_bounds-three-end : goal.slice_bounds-three-end
slice_bounds-three-end c = omega (arith, there c.requires c.lengths_of.ensures)

pub slice_bounds-three-end-2 : goal.slice_bounds-three-end-2
slice_bounds-three-end-2 c =
    let s = there c.requires c.lengths_of.ensures in
    simp length-take (omega arith)

pub slice_bounds-four-end : goal.slice_bounds-four-end
slice_bounds-four-end c = omega (arith, there c.requires c.lengths_of.ensures)

pub slice_bounds-four-end-2 : goal.slice_bounds-four-end-2
slice_bounds-four-end-2 c =
    let s = there c.requires c.lengths_of.ensures in
    simp length-take (omega arith)

pub slice_bounds-solve-end : goal.slice_bounds-solve-end
slice_bounds-solve-end c =
    let s = there c.requires c.lengths_of.ensures in
    simp length-take (omega arith)

pub slice_bounds-solve-end-2 : goal.slice_bounds-solve-end-2
slice_bounds-solve-end-2 c =
    let s = there c.requires c.lengths_of.ensures in
    simp length-take (omega arith)

pub slice_bounds-solve-end-3 : goal.slice_bounds-solve-end-3
slice_bounds-solve-end-3 c = omega (arith, there c.requires c.lengths_of.ensures)

pub slice_bounds-solve-end-4 : goal.slice_bounds-solve-end-4
slice_bounds-solve-end-4 c =
    let s = there c.requires c.lengths_of.ensures in
    simp length-take (omega arith)

pub returns-in_err-solve : goal.returns-in_err-solve
returns-in_err-solve c =
    let p = err_from_is_err_and c.from_residual.result c.from_residual.ensures.1 in
    rw (p.1, p.2) (job_refused c.requires c.lengths_of.ensures (rw c.in_err-solve.was at c.solve.ensures))

pub returns : goal.returns
returns c =
    job-told c.requires c.lengths_of.ensures c.solve.ensures (ap verdict_of c.in_ok-solve.was) c.write.ensures
