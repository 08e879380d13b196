-- `refusal::check_lengths` meets its contract. The loop's invariant is `LengthsPassed`.
-- Assumes nothing.
use Rattle.std.proofs.Common.{arith}
use Rattle.refusal.proofs.Exact.{lengths_next, lengths_wrong, lengths_all}
use Rattle.refusal.proofs.check_lengths.Goals as goal

pub returns-then-are-i : goal.returns-then-are-i
returns-then-are-i g c =
    lengths_wrong c.loop-i.invariant (omega arith) (omega arith) c.if-are-i.true

pub loop-i-preserved : goal.loop-i-preserved
loop-i-preserved g c =
    lengths_next c.loop-i.invariant (omega arith) (omega arith) c.if-are-i.false

pub returns : goal.returns
returns g c = lengths_all c.loop-i.invariant (omega arith)
