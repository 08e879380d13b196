-- `body::measure` meets its contract, kind by kind; that no product wraps within the limits follows from `sizes`.
-- Assumes nothing.
use Rattle.std.proofs.Common.{rules}
use Rattle.job.specs.Job.{carried, lengths_of, read_count}
use Rattle.body.specs.JobLines.{read_lengths}
use Rattle.body.proofs.measure.Goals as goal

pub returns-in-System : goal.returns-in-System
unfolding read_lengths read_count lengths_of carried
returns-in-System c = search rules

pub returns-in-Basis : goal.returns-in-Basis
unfolding read_lengths read_count lengths_of carried
returns-in-Basis c = search rules

pub returns-in-Equation : goal.returns-in-Equation
unfolding read_lengths read_count lengths_of carried
returns-in-Equation c = search rules
