-- `refusal::word_at` meets its contract: the four bytes are read where the definition reads them.
-- Assumes nothing.
use Rattle.std.proofs.Common.{arith}
use Rattle.job.specs.Job.{word_at}
use Rattle.refusal.proofs.word_at.Goals as goal

pub returns : goal.returns
unfolding word_at
returns c = omega arith
