-- `refusal::check_small` meets its contract: what 1 to 4 refuse, and then 10; the product fits by the limits.
-- Assumes nothing.
use Rattle.std.proofs.Common.{arith}
use Rattle.std.proofs.lemmas.Result.{err_from_is_err_and}
use Rattle.job.specs.Refusal.{refusal_verdict}
use Rattle.job.specs.Rules.{size_rules}
use Rattle.job.proofs.Says.{says_none, says_here, says_past}
use Rattle.job.proofs.Accepted.{limits_of}
use Rattle.refusal.proofs.Judged.{judged_next, judged_stop}
use Rattle.refusal.proofs.Products.{square-small, matrix-small}
use Rattle.refusal.proofs.check_small.Goals as goal

pub returns-in_err-check_limits : goal.returns-in_err-check_limits
returns-in_err-check_limits c =
    let p = err_from_is_err_and c.from_residual.result c.from_residual.ensures.1 in
    rw (p.1, p.2) (judged_stop _ c.in_err-check_limits.ensures)

pub overflow_mul-r : goal.overflow_mul-r
overflow_mul-r c =
    let l = limits_of _ _ _ c.in_ok-check_limits.ensures.says in
    record { fits = omega (arith, square-small l.order) }

pub overflow_mul-r-2 : goal.overflow_mul-r-2
overflow_mul-r-2 c =
    let l = limits_of _ _ _ c.in_ok-check_limits.ensures.says in
    record { fits = omega (arith, matrix-small l.order l.terms) }

pub returns-then-r-n-gt1024 : goal.returns-then-r-n-gt1024
unfolding size_rules refusal_verdict
returns-then-r-n-gt1024 c =
    judged_next c.in_ok-check_limits.ensures (record { says = says_here _ _ c.if-r-n-gt1024.true })

pub returns : goal.returns
unfolding size_rules
returns c =
    judged_next c.in_ok-check_limits.ensures (record { says = says_past _ _ _ (λ more. omega arith) says_none })
