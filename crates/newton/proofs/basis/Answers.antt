-- `newton::basis` meets its contract: what the checks refuse is refused, a Y0 with no inverse too, and any other job
-- is run.
-- Assumes nothing.
use Rattle.std.proofs.Common.{◌≡◌, ◌∙◌, ℕ, true, false, is_ok, Ok, arith, rules}
use lib.ListN.{length-replicate}
use Rattle.std.proofs.lemmas.Result.{err_from_is_err_and}
use Rattle.job.specs.Job.{Job, buffers, words}
use Rattle.job.specs.declared.Kind.TheVariants.{Basis}
use Rattle.job.specs.declared.Refusal.TheVariants.{Singular}
use Rattle.job.proofs.Says.{refusal_other}
use Rattle.job.proofs.Accepted.{Accepted, accepted}
use Rattle.job.proofs.Outcomes.{checks_refused}
use Rattle.refusal.specs.Checked.{job_of}
use Rattle.newton.specs.Basis.{StartInverted}
use Rattle.newton.proofs.Outcomes.{ok_done, modulus_small, startable, basis_singular, ready, basis_done}
use Rattle.newton.proofs.basis.Goals as goal
use Rattle.newton.proofs.basis.Goals.{In_ok-check_words, In_ok-map_err}

pub returns-in_err-check_words : goal.returns-in_err-check_words
returns-in_err-check_words c =
    let p = err_from_is_err_and c.from_residual.result c.from_residual.ensures.1 in
    rw (p.1, p.2) (checks_refused (refusal_other _) c.in_err-check_words.ensures.says)

-- the job, once the checks have accepted it
jobAt : In_ok-check_words → Job
jobAt c =
    let s = c.args in
    job_of Basis s.r s.n s.p (buffers s.a.now s.y0.now s.y.now s.z.now s.work.now)

admitted : (c : In_ok-check_words) → Accepted words (jobAt c)
unfolding jobAt
admitted c = accepted words _ c.in_ok-check_words.ensures.says

pub overflow_cast-p : goal.overflow_cast-p
unfolding jobAt
overflow_cast-p c = omega (arith, (modulus_small (admitted c).limits).half)

pub invert_start-requires : goal.invert_start-requires
unfolding jobAt
invert_start-requires c = startable (admitted (goal.at.invert_start-requires c).In_ok-check_words)

pub returns-in_err-map_err : goal.returns-in_err-map_err
unfolding jobAt
returns-in_err-map_err c =
    let p = err_from_is_err_and c.from_residual-in_err-map_err.result c.from_residual-in_err-map_err.ensures.1 in
    let singular : c.in_err-map_err.field-0.0 ≡ Singular = search rules in
    let told = rw c.in_err-map_err.was at c.map_err.ensures.variant in
    let refused : is_ok c.invert_start.result ≡ false = cc told in
    rw (p.1, p.2, singular)
    (basis_singular (admitted (goal.at.returns-in_err-map_err c).In_ok-check_words) c.invert_start.ensures refused)

-- Y0 has an inverse, where the elimination is not refused
inverted : (c : In_ok-map_err) → let s = c.args in
    StartInverted s.p s.r s.y0.now c.invert_start.new.s (Ok tt)
inverted c =
    let told = rw c.in_ok-map_err.was at c.map_err.ensures.variant in
    let done : is_ok c.invert_start.result ≡ true = cc told in
    rw (ok_done c.invert_start.result done) at c.invert_start.ensures

pub overflow_cast-p-2 : goal.overflow_cast-p-2
unfolding jobAt
overflow_cast-p-2 c =
    omega (arith, (modulus_small (admitted (goal.at.overflow_cast-p-2 c).In_ok-check_words).limits).half)

pub make_modulus-q-requires : goal.make_modulus-q-requires
unfolding jobAt
make_modulus-q-requires c =
    modulus_small (admitted (goal.at.make_modulus-q-requires c).In_ok-check_words).limits

pub run_basis-requires : goal.run_basis-requires
unfolding jobAt
run_basis-requires c =
    let at = goal.at.run_basis-requires c in
    ready (admitted at.In_ok-check_words) (inverted at.In_ok-map_err)
    c.make_modulus-q.ensures (c.invert_start.auto.s ∙ length-replicate {A = ℕ} 128 0)

pub returns : goal.returns
unfolding jobAt
returns c =
    basis_done (admitted (goal.at.returns c).In_ok-check_words) (inverted (goal.at.returns c).In_ok-map_err)
    c.make_modulus-q.ensures c.run_basis.auto.y
    c.run_basis.auto.z c.run_basis.auto.work
    c.run_basis.ensures
