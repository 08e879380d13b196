-- The invariant.
use Rattle.refusal.proofs.Exact.{LengthsPassed}
use Rattle.refusal.proofs.check_lengths.Given as goal

abbrev pub invariant-loop-i : goal.invariant-loop-i
invariant-loop-i g l = LengthsPassed l.cells l.should l.are l.i
