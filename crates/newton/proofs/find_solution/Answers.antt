-- `newton::find_solution` meets its contract: the room is filled, and the system is solved there.
-- Assumes nothing.
use Rattle.newton.proofs.Solutions.{system_started, system_placed}
use Rattle.newton.proofs.find_solution.Goals as goal

pub solve_system-requires : goal.solve_system-requires
solve_system-requires c =
    let given = c.requires in
    system_started given given.placeable.matrix c.place_matrix.auto.w
    c.place_matrix.ensures
    c.copy.auto.dst c.copy.ensures c.spread.auto.w
    c.spread.ensures

pub returns : goal.returns
returns c =
    let given = c.requires in
    system_placed given given.placeable.matrix c.place_matrix.auto.w
    c.place_matrix.ensures
    c.copy.auto.dst c.copy.ensures c.spread.auto.w
    c.spread.ensures
    c.solve_system.ensures
