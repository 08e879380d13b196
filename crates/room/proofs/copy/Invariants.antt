-- The loop's invariant is `Turn`: the first j words of the run are filled.
-- Assumes nothing.
use Rattle.room.specs.Room.{words_from}
use Rattle.room.proofs.Runs.{Turn}
use Rattle.room.proofs.copy.Given as goal

abbrev pub invariant-loop-j : goal.invariant-loop-j
invariant-loop-j l = Turn l.to l.n (words_from l.src l.from) l.initial.dst l.dst l.j
