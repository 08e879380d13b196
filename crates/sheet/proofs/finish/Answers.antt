-- `sheet::finish` meets its contract: the end of the text, or the line that is broken.
-- Assumes nothing.
use Rattle.std.proofs.lemmas.Result.{err_from_is_err_and}
use Rattle.sheet.proofs.Verdicts.{close_extra, close_whole, close_broken}
use Rattle.sheet.proofs.finish.Goals as goal

pub returns-in_err-d : goal.returns-in_err-d
returns-in_err-d c =
    let p = err_from_is_err_and c.from_residual.result c.from_residual.ensures.1 in
    rw (p.1, p.2) (close_broken c.in_err-d.was)

pub returns-then-d-s : goal.returns-then-d-s
returns-then-d-s c = close_extra c.in_ok-d.was c.if-d-s.true

pub returns : goal.returns
returns c = close_whole c.in_ok-d.was c.if-d-s.false
