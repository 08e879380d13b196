-- The answer as one number, for callers in other languages: number + 2^8 * first place + 2^32 * second place; 0 is
-- done.
-- Assumes nothing.
use Rattle.std.specs.Prelude.{◌≡◌, refl, ℕ, ◌+◌, ◌*◌}
use Rattle.job.specs.Refusal.{Verdict, done, refused, Answer, verdict_of}
use Rattle.job.specs.Job.{Job, Buffers, Handed}
use Rattle.job.specs.Outcome.{Outcome}

unfoldable pub packed : Verdict → ℕ
packed done = 0
packed (refused number first second) = number + 256 * first + 4294967296 * second

-- a word that is too large: buffer 2, index 3
packed_example : packed (refused 6 2 3) ≡ 12884902406
unfolding packed
packed_example = refl

-- what an exported job leaves: an outcome of the call, whose answer is packed into the number that comes back
pub record PackedOutcome (h : Handed) (job : Job) (code : ℕ) (after : Buffers) : Type 0 where
  pub answer : Answer
  pub outcome : Outcome h job answer after
  pub code_is : code ≡ packed (verdict_of answer)
