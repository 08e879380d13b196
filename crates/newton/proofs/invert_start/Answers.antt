-- `newton::invert_start` meets its contract: Y0 is copied, and then inverted.
-- Assumes nothing.
use Rattle.newton.proofs.Starts.{start_inverted}
use Rattle.newton.proofs.invert_start.Goals as goal

pub returns : goal.returns
returns c =
    start_inverted c.requires c.copy.ensures
    c.invert_matrix.ensures
