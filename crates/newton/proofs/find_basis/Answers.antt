-- `newton::find_basis` meets its contract: the room is filled, and the rounds are made.
-- Assumes nothing.
use Rattle.newton.proofs.Places.{room_started, basis_placed}
use Rattle.newton.proofs.find_basis.Goals as goal

pub solve_basis-requires : goal.solve_basis-requires
solve_basis-requires c =
    let given = c.requires in
    room_started given c.clear.auto.w c.clear.ensures
    c.copy.auto.dst c.copy.ensures c.spread.auto.w
    c.spread.ensures
    c.spread-2.auto.w c.spread-2.ensures

pub returns : goal.returns
returns c =
    let given = c.requires in
    basis_placed given c.clear.auto.w c.clear.ensures
    c.copy.auto.dst c.copy.ensures c.spread.auto.w
    c.spread.ensures
    c.spread-2.auto.w c.spread-2.ensures
    c.solve_basis.ensures
