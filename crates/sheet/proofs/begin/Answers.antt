-- `sheet::begin` meets its contract: line 1, then its limits.
-- Assumes nothing.
use Rattle.std.proofs.Common.{sym, ◌∙◌}
use Rattle.std.proofs.lemmas.Result.{err_from_is_err_and}
use Rattle.sheet.proofs.Before.{opening_is, start_broken, start_limits, start_at}
use Rattle.sheet.proofs.begin.Goals as goal

pub returns-in_err-h : goal.returns-in_err-h
returns-in_err-h c =
    let p = err_from_is_err_and c.from_residual.result c.from_residual.ensures.1 in
    rw (p.1, p.2) (start_broken c.requires c.args.opening (sym c.ok_or.ensures.value ∙ c.in_err-h.was))

pub returns-in_err-check_small : goal.returns-in_err-check_small
returns-in_err-check_small c =
    let back = c.from_residual-in_err-check_small in
    let p = err_from_is_err_and back.result back.ensures.1 in
    let some = opening_is c.args.opening _ (sym c.ok_or.ensures.value ∙ c.in_ok-h.was) in
    rw (some, p.1, p.2) (start_limits c.requires c.in_err-check_small.ensures)

pub returns : goal.returns
returns c =
    let some = opening_is c.args.opening _ (sym c.ok_or.ensures.value ∙ c.in_ok-h.was) in
    rw some (start_at c.requires c.in_ok-check_small.ensures)
