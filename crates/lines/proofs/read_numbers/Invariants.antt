-- `Going` holds of the numbers before j.
use Rattle.std.proofs.Common.{[]}
use Rattle.lines.specs.Steps.{form_of}
use Rattle.lines.proofs.Going.{Going}
use Rattle.lines.proofs.read_numbers.Given as goal

abbrev pub invariant-loop-j : goal.invariant-loop-j
invariant-loop-j l = Going l.s l.c l.d (form_of l.n []) l.from l.j l.initial.w l.w
