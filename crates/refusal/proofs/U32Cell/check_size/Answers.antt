-- `refusal::U32Cell::check_size` meets its contract: there is no 10 for words.
-- Assumes nothing.
use Rattle.job.specs.Rules.{size_rules}
use Rattle.refusal.proofs.Judged.{judged_last}
use Rattle.refusal.proofs.U32Cell.check_size.Goals as goal

pub returns : goal.returns
unfolding size_rules
returns c = judged_last c.check_limits.ensures
