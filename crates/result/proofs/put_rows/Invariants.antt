-- The invariant.
use Rattle.result.proofs.Turns.{RowsPut}
use Rattle.result.proofs.put_rows.Given as goal

abbrev pub invariant-loop-i : goal.invariant-loop-i
invariant-loop-i l = RowsPut l.p l.s l.count l.rows l.h l.at l.initial.d l.d l.e l.i
