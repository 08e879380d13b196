-- `refusal::U32Cell::word_at` meets its contract: a word is its only cell.
-- Assumes nothing.
use Rattle.std.proofs.Common.{refl}
use Rattle.job.specs.Job.{word_at}
use Rattle.refusal.proofs.U32Cell.word_at.Goals as goal

pub returns : goal.returns
unfolding word_at
returns c = refl
