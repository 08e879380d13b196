-- The lines of the rows before k are passed.
use Rattle.std.proofs.Common.{[], ◌∷◌}
use Rattle.lines.specs.Forms.{matrix_forms}
use Rattle.lines.specs.Steps.{form_of, Passed}
use Rattle.lines.proofs.read_matrix.Given as goal

abbrev pub invariant-loop-k : goal.invariant-loop-k
invariant-loop-k l =
    Passed l.s l.initial.d (matrix_forms (form_of l.n) (l.word ∷ []) l.columns 1 l.k) l.from l.initial.w l.w l.d
