-- `newton::spread` meets its contract: word by word. The loop's invariant is `Filled`.
-- Assumes nothing.
use Rattle.matrix.proofs.Written.{filled_done}
use Rattle.newton.proofs.Spreads.{spread_next}
use Rattle.newton.proofs.spread.Goals as goal

pub loop-e-preserved : goal.loop-e-preserved
loop-e-preserved c =
    spread_next c.requires c.loop-e.invariant c.loop-e-test.true
    c.copy.auto.dst
    c.copy.ensures

pub returns : goal.returns
returns c = filled_done c.loop-e.invariant c.loop-e-test.false
