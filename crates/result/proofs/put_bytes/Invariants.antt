-- The invariant.
use Rattle.result.proofs.Turns.{BytesPut}
use Rattle.result.proofs.put_bytes.Given as goal

abbrev pub invariant-loop-i : goal.invariant-loop-i
invariant-loop-i l = BytesPut l.h l.at l.initial.d l.d l.i
