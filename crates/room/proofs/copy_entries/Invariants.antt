-- The invariants.
use Rattle.room.specs.Room.{entries_from}
use Rattle.room.proofs.Entries.{EntryTurn}
use Rattle.room.proofs.copy_entries.Given as goal

abbrev pub invariant-loop-e : goal.invariant-loop-e
invariant-loop-e l = EntryTurn l.to l.entries l.n l.m (entries_from l.src l.from l.c) l.initial.dst l.dst l.e
