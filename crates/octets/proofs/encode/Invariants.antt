-- The invariant.
use Rattle.octets.proofs.Bytes.{Turn}
use Rattle.octets.proofs.encode.Given as goal

abbrev pub invariant-loop-j : goal.invariant-loop-j
invariant-loop-j l = Turn l.w l.initial.s l.s l.j
