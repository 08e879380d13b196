-- `room::copy_entries` meets its contract: entry by entry. The loop's invariant is `EntryTurn`.
-- Assumes nothing.
use Rattle.std.proofs.Common.{refl}
use Rattle.room.proofs.Entries.{entries_next}
use Rattle.room.proofs.copy_entries.Goals as goal

pub loop-e-preserved : goal.loop-e-preserved
loop-e-preserved c =
    entries_next c.loop-e.invariant c.requires.apart c.loop-e-test.true
    c.copy.auto.dst c.copy.ensures (λ j. refl)
