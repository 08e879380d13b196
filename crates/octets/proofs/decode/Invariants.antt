-- The invariant.
use Rattle.std.proofs.Common.{length}
use Rattle.job.specs.Job.{bytes, word_at}
use Rattle.room.proofs.Runs.{Turn}
use Rattle.octets.proofs.decode.Given as goal

abbrev pub invariant-loop-k : goal.invariant-loop-k
invariant-loop-k l = Turn 0 (length l.initial.w) (word_at bytes l.s) l.initial.w l.w l.k
