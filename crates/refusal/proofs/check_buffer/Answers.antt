-- `refusal::check_buffer` meets its contract. The loop's invariant is `WordsPassed`.
-- Assumes nothing.
use Rattle.std.proofs.Common.{arith}
use Rattle.refusal.proofs.Words.{passed_next, passed_over, passed_all}
use Rattle.refusal.proofs.check_buffer.Goals as goal

pub returns-then-word_at-p : goal.returns-then-word_at-p
returns-then-word_at-p g c = passed_over c.loop-k.invariant c.loop-k-test.true (omega arith)

pub loop-k-preserved : goal.loop-k-preserved
loop-k-preserved g c = passed_next c.loop-k.invariant c.loop-k-test.true (omega arith)

pub returns : goal.returns
returns g c = passed_all c.loop-k.invariant c.loop-k-test.false
