-- `newton::run_system` meets its contract: the solution is found, copied out, and the room cleared.
-- Assumes nothing.
use Rattle.std.proofs.Common.{refl}
use Rattle.newton.proofs.Solutions.{system-handed}
use Rattle.newton.proofs.run_system.Goals as goal

pub returns : goal.returns
returns c =
    let given = c.requires in
    system-handed given.0 given.0.placeable.matrix c.find_solution.auto.w
    given.1 refl
    c.find_solution.ensures c.copy.auto.dst c.copy.ensures
    c.clear.ensures
