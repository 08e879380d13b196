-- `octets::encode` meets its contract. The loop's invariant is `Turn`.
-- Assumes nothing.
use Rattle.octets.proofs.Bytes.{turn_next, turn_done}
use Rattle.octets.proofs.encode.Goals as goal

pub loop-j-preserved : goal.loop-j-preserved
loop-j-preserved c =
    turn_next c.loop-j.invariant c.loop-j-test.true c.put_word.auto.s
    c.put_word.ensures

pub returns : goal.returns
returns c = turn_done c.loop-j.invariant c.requires c.loop-j-test.false
