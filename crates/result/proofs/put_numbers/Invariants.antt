-- The invariant.
use Rattle.result.proofs.Turns.{NumbersPut}
use Rattle.result.proofs.put_numbers.Given as goal

abbrev pub invariant-loop-c : goal.invariant-loop-c
invariant-loop-c l = NumbersPut l.p l.s l.at l.initial.d l.d l.e l.c-index
