-- `run` of `ByNewton` meets its contract: the system is placed and solved; the first unknown is handed over, and the
-- room cleared.
-- Assumes nothing.
use Rattle.equation.proofs.Newton.{newton_ran}
use Rattle.equation.proofs.ByNewtonMethod.run.Goals as goal

pub returns : goal.returns
returns c =
    let given = c.requires in
    newton_ran given.0 c.place.ensures c.solve_system.ensures c.hand_over.ensures.0
    c.hand_over.ensures.1
