-- The invariant.
use Rattle.equation.proofs.Row.{RowTurn}
use Rattle.equation.proofs.divide_row.Given as goal

abbrev pub invariant-loop-j : goal.invariant-loop-j
invariant-loop-j l = RowTurn l.q.p l.r l.n l.a l.row l.free l.initial.w l.w l.j
