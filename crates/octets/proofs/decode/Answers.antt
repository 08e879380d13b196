-- `octets::decode` meets its contract. The loop's invariant is `Turn` of the crate room, for the run of all words that
-- is filled with the words of the bytes.
-- Assumes nothing.
use Rattle.std.proofs.Common.{sym, zero-add, arith}
use Rattle.octets.proofs.Bytes.{carries_of}
use Rattle.octets.proofs.decode.Goals as goal

pub returns : goal.returns
returns c =
    let at = c.loop-k in
    let long = c.requires in
    carries_of _ _ (omega (arith, long, at.invariant.len))
    (λ k l. sym (rw zero-add at (at.invariant.put.new k (omega (arith, at.invariant.len, c.loop-k-test.false)))))
