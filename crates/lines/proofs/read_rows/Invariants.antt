-- The lines of the rows before k are passed.
use Rattle.lines.specs.Forms.{row_forms}
use Rattle.lines.specs.Steps.{form_of, Passed}
use Rattle.lines.proofs.read_rows.Given as goal

abbrev pub invariant-loop-k : goal.invariant-loop-k
invariant-loop-k l = Passed l.s l.initial.d (row_forms (form_of l.n) l.h l.first l.k) l.from l.initial.w l.w l.d
