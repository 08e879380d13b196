-- `pealvixen::pealvixen_equation_newton` meets its contract: a job names no broken line.
-- Assumes nothing.
use Rattle.std.proofs.Common.{rules}
use Rattle.pealvixen.proofs.NoLine.{call_fits}
use Rattle.pealvixen.proofs.pealvixen_equation_newton.Goals as goal

pub pack-requires : goal.pack-requires
pack-requires c = search (rules, call_fits)
