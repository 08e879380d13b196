-- `bytejobs::solve_bytes` meets its contract: a short work room is that of a short job, for which the short arrays are
-- long enough.
-- Assumes nothing.
use Rattle.std.proofs.Common.{arith}
use Rattle.bytejobs.proofs.Rooms.{sized_short}
use Rattle.bytejobs.proofs.solve_bytes.Goals as goal

pub solve_within-requires : goal.solve_within-requires
solve_within-requires c =
    (omega arith, omega arith, omega arith, sized_short c.requires c.if-room-le1024.true)
