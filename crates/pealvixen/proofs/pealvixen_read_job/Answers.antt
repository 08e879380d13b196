-- `pealvixen::pealvixen_read_job` meets its contract: a broken line has room in its place.
-- Assumes nothing.
use Rattle.std.proofs.Common.{rules}
use Rattle.pealvixen.proofs.Few.{job_line_fits}
use Rattle.pealvixen.proofs.pealvixen_read_job.Goals as goal

pub tell-requires : goal.tell-requires
tell-requires c = search (rules, job_line_fits)
