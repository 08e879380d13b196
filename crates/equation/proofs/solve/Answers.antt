-- `equation::solve` meets its contract: what the checks refuse is refused, and an equation that they accept is solved
-- by whichever method.
-- Assumes nothing.
use Rattle.std.proofs.Common.{arith}
use Rattle.std.proofs.lemmas.Result.{err_from_is_err_and}
use Rattle.job.proofs.Says.{refusal_other}
use Rattle.job.specs.declared.Kind.TheVariants.{Equation}
use Rattle.job.specs.Job.{buffers}
use Rattle.job.proofs.Outcomes.{outcome_refused}
use Rattle.refusal.specs.Checked.{job_of}
use Rattle.equation.proofs.Verdicts.{Taken, call_modulus, call_ready, call_done}
use Rattle.equation.proofs.solve.Goals as goal
use Rattle.equation.proofs.solve.Goals.{In_ok-check}

pub returns-in_err-check : goal.returns-in_err-check
returns-in_err-check g c =
    let s = c.args in
    let p = err_from_is_err_and c.from_residual.result c.from_residual.ensures.1 in
    let lent = buffers s.a.now s.b.now s.start.now s.y.now s.work.now in
    rw (p.1, p.2)
    (outcome_refused {job = job_of Equation s.r s.n s.p lent} (refusal_other _) c.in_err-check.ensures.says)

-- neither the checks nor rule 8 refuse
admitted : (g : _) (c : In_ok-check g)
    → let s = c.args in
    Taken s.r s.n s.p s.a.now s.b.now s.start.now s.y.now s.work.now
admitted g c = record { says = c.in_ok-check.ensures.says }

pub overflow_cast-p : goal.overflow_cast-p
overflow_cast-p g c = omega (arith, (call_modulus (admitted g c)).half)

pub make_modulus-q-requires : goal.make_modulus-q-requires
make_modulus-q-requires g c = call_modulus (admitted g c)

pub run-requires : goal.run-requires
run-requires g c =
    call_ready (admitted g (goal.at.run-requires g c).In_ok-check) c.make_modulus-q.ensures

pub returns : goal.returns
returns g c =
    call_done (admitted g (goal.at.returns g c).In_ok-check) c.make_modulus-q.ensures c.run.auto.y
    c.run.auto.work c.run.ensures
