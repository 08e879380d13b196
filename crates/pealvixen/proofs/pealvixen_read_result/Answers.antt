-- `pealvixen::pealvixen_read_result` meets its contract: a broken line has room in its place.
-- Assumes nothing.
use Rattle.std.proofs.Common.{rules}
use Rattle.pealvixen.proofs.Few.{result_line_fits}
use Rattle.pealvixen.proofs.pealvixen_read_result.Goals as goal

pub tell-requires : goal.tell-requires
tell-requires c = search (rules, result_line_fits)
