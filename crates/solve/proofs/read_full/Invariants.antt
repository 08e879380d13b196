-- The part of the buffer that is filled holds what the input has given, and what is left of the buffer falls.
use Rattle.std.proofs.Common.{length, take, ◌-◌, ◌≤◌}
use Rattle.std.specs.Io.KnownBytes.{Consumes}
use Rattle.solve.proofs.read_full.Given as goal

abbrev pub invariant-loop-length : goal.invariant-loop-length
invariant-loop-length g l = record {
  within : l.length ≤ length l.buffer;
  given : Consumes (g.R.Read.remaining l.fn.input) (g.R.Read.remaining l.input) (take l.length l.buffer);
}

abbrev pub decreases-loop-length : goal.decreases-loop-length
decreases-loop-length g l = length l.initial.buffer - l.length
