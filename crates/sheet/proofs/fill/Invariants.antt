-- The invariant.
use Rattle.lines.specs.Steps.{nth}
use Rattle.sheet.specs.Rooms.{Filled}
use Rattle.sheet.proofs.fill.Given as goal

abbrev pub invariant-loop-k : goal.invariant-loop-k
invariant-loop-k l = Filled l.p (nth l.w) 0 l.k l.initial.room l.room
