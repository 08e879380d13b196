-- The invariant.
use Rattle.result.proofs.Turns.{MatrixPut}
use Rattle.result.proofs.put_matrix.Given as goal

abbrev pub invariant-loop-i : goal.invariant-loop-i
invariant-loop-i l = MatrixPut l.p l.s l.count l.order l.word l.at l.initial.d l.d l.e l.i
