-- `result::put_bytes` meets its contract. The loop's invariant is `BytesPut`.
-- Assumes nothing.
use Rattle.std.proofs.Common.{◌≡◌, arith, length}
use Rattle.result.proofs.Turns.{bytes_none, bytes_room, bytes_next, bytes_all}
use Rattle.result.proofs.put_bytes.Goals as goal

pub loop-i-init : goal.loop-i-init
loop-i-init c = bytes_none c.requires

pub bounds-d-at : goal.bounds-d-at
bounds-d-at c = bytes_room c.loop-i.invariant c.requires (omega arith)

pub loop-i-preserved : goal.loop-i-preserved
loop-i-preserved c = bytes_next c.loop-i.invariant c.requires (omega arith)

pub returns : goal.returns
returns c =
    let all : length c.args.h.now ≡ c.loop-i.i = omega (arith, c.loop-i.invariant.within) in
    rw all (bytes_all c.loop-i.invariant (omega arith))
