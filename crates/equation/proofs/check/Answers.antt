-- `equation::check` meets its contract: what the checks of every call say, and then rule 8.
-- Assumes nothing.
use Rattle.std.proofs.Common.{arith}
use Rattle.std.proofs.lemmas.Result.{err_from_is_err_and}
use Rattle.job.specs.declared.Kind.TheVariants.{Equation}
use Rattle.job.specs.Job.{buffers, words}
use Rattle.job.proofs.Accepted.{Accepted, accepted}
use Rattle.refusal.specs.Checked.{job_of}
use Rattle.equation.proofs.Verdicts.{lead_inside, check_refused, check_zero, check_done}
use Rattle.equation.proofs.check.Goals as goal
use Rattle.equation.proofs.check.Goals.{In_ok-check_words}

pub returns-in_err-check_words : goal.returns-in_err-check_words
returns-in_err-check_words c =
    let s = c.args in
    let lent = buffers s.a.now s.b.now s.start.now s.y.now s.work.now in
    let p = err_from_is_err_and c.from_residual.result c.from_residual.ensures.1 in
    rw (p.1, p.2) (check_refused s.r s.n s.p lent c.in_err-check_words.ensures)

-- the checks accept the job
admitted : (c : In_ok-check_words)
    → let s = c.args in
    let lent = buffers s.a.now s.b.now s.start.now s.y.now s.work.now in
    Accepted words (job_of Equation s.r s.n s.p lent)
admitted c = accepted words _ c.in_ok-check_words.ensures.says

pub overflow_mul-lead : goal.overflow_mul-lead
overflow_mul-lead c = omega (arith, lead_inside (admitted c))

pub offset_bounds-a-lead : goal.offset_bounds-a-lead
offset_bounds-a-lead c = omega (arith, lead_inside (admitted c))

pub bounds-a-lead : goal.bounds-a-lead
bounds-a-lead c = omega (arith, lead_inside (admitted (goal.at.bounds-a-lead c).In_ok-check_words))

pub returns-then-a-lead-eq0 : goal.returns-then-a-lead-eq0
returns-then-a-lead-eq0 c =
    let s = c.args in
    let lent = buffers s.a.now s.b.now s.start.now s.y.now s.work.now in
    check_zero s.r s.n s.p lent c.in_ok-check_words.ensures c.if-a-lead-eq0.true

pub returns : goal.returns
returns c =
    let s = c.args in
    let lent = buffers s.a.now s.b.now s.start.now s.y.now s.work.now in
    check_done s.r s.n s.p lent c.in_ok-check_words.ensures c.if-a-lead-eq0.false
