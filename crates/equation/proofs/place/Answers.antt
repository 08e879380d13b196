-- `equation::place` meets its contract: the room is cleared, and gets the equation's system, two identities and the
-- start.
-- Assumes nothing.
use Rattle.std.proofs.Common.{arith}
use Rattle.equation.proofs.Newton.{placed}
use Rattle.equation.proofs.place.Goals as goal

pub returns : goal.returns
returns c =
    placed c.requires c.clear.ensures c.translate.ensures c.place_identity.ensures
    c.place_identity-2.ensures c.spread.ensures (omega (arith, c.spread.auto.w))
