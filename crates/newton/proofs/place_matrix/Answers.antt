-- `newton::place_matrix` meets its contract: the room is cleared, and A and two identities are put in.
-- Assumes nothing.
use Rattle.newton.proofs.Matrices.{matrix_placed}
use Rattle.newton.proofs.place_matrix.Goals as goal

pub returns : goal.returns
returns c =
    let given = c.requires in
    matrix_placed given c.clear.auto.w c.clear.ensures
    c.copy.auto.dst c.copy.ensures c.place_identity.auto.w
    c.place_identity.ensures
    c.place_identity-2.ensures
