-- `pealvixen::pealvixen_write_basis` meets its contract: a writer names no broken line.
-- Assumes nothing.
use Rattle.std.proofs.Common.{rules}
use Rattle.pealvixen.proofs.NoLine.{write_fits}
use Rattle.pealvixen.proofs.pealvixen_write_basis.Goals as goal

pub tell_written-requires : goal.tell_written-requires
tell_written-requires c = search (rules, write_fits)
