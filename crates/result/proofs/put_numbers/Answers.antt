-- `result::put_numbers` meets its contract. The loop's invariant is `NumbersPut`.
-- Assumes nothing.
use Rattle.std.proofs.Common.{arith}
use Rattle.result.proofs.Turns.{numbers-none, numbers_room, numbers_next, numbers_all}
use Rattle.result.proofs.put_numbers.Goals as goal

pub loop-c-init : goal.loop-c-init
loop-c-init c = numbers-none c.requires

pub put_class-e-requires : goal.put_class-e-requires
put_class-e-requires c =
    let room = numbers_room c.requires c.loop-c.invariant (omega arith) in
    (omega arith, c.requires.below c.loop-c.c-index)

pub loop-c-preserved : goal.loop-c-preserved
loop-c-preserved c = numbers_next c.requires c.loop-c.invariant (omega arith) c.put_class-e.ensures

pub put_byte-requires : goal.put_byte-requires
put_byte-requires c =
    let room = numbers_room c.requires c.loop-c.invariant (omega arith) in
    omega arith

pub returns : goal.returns
returns c = numbers_all c.requires c.loop-c.invariant (omega arith) c.put_byte.ensures
