-- `run` of `ByHalving` meets its contract: the room is cleared, gets the equation's system, and is solved; the first
-- unknown is handed over, and the room cleared again.
-- Assumes nothing.
use Rattle.equation.proofs.Halving.{ran}
use Rattle.equation.proofs.ByHalvingMethod.run.Goals as goal

pub returns : goal.returns
returns c =
    ran c.requires.0 c.clear.ensures c.translate.ensures c.spread.ensures
    c.solve_rows.ensures c.hand_over.ensures.0 c.hand_over.ensures.1
