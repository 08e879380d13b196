-- The loop's invariant is `Turn`: the first j words of the run are filled.
-- Assumes nothing.
use Rattle.room.specs.Room.{words_back}
use Rattle.room.proofs.Runs.{Turn}
use Rattle.room.proofs.reverse_within.Given as goal

abbrev pub invariant-loop-j : goal.invariant-loop-j
invariant-loop-j l = Turn l.to l.n (words_back l.initial.w l.from l.n) l.initial.w l.w l.j
