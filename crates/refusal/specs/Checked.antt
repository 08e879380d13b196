-- What the checks promise: an answer is the verdict of a list of rules, of all of a call's or of a part of them.
-- Assumes nothing.
use Rattle.std.specs.Prelude.{◌≡◌, refl, List, map, ℕ, ◌*◌, ◌≤◌, false, leb, length, get_or}
use Rattle.job.specs.declared.Kind.{Kind}
use Rattle.job.specs.declared.Kind.TheVariants.{Basis}
use Rattle.job.specs.Refusal.{Rule, Says, Answer, verdict_of}
use Rattle.job.specs.Job.{Job, Buffers, Handed, bytes, cells_of, read_count, lengths_of}
use Rattle.job.specs.Rules.{check_rules, length_rules}

-- an answer is the verdict of a list of rules
pub record Judged (rules : List Rule) (answer : Answer) : Type 0 where
  pub says : Says rules (verdict_of answer)

-- a job of its parts
abbrev pub job_of : Kind → ℕ → ℕ → ℕ → Buffers → Job
job_of kind r n p lent = record { kind = kind; r = r; n = n; p = p; lent = lent }

-- an answer is what the checks that every call makes first say of a job
abbrev pub Checked : Handed → Job → Answer → Type 0
Checked h job answer = Judged (check_rules h job) answer

-- no number of the list is over the words of the longest buffer of a job
pub record Bounded (l : List ℕ) : Type 0 where
  pub within : (k : ℕ) → get_or l k 0 ≤ 4194304

-- the words of each buffer
pub record Measured (kind : Kind) (r n : ℕ) (l : List ℕ) : Type 0 where
  pub exact : l ≡ lengths_of kind r n
  pub bounded : Bounded l

-- an answer is what the rules of lengths say of any buffers with these lengths
pub record Compared (cells : ℕ) (should are : List ℕ) (answer : Answer) : Type 0 where
  pub says
      : (h : Handed) (lent : List (List ℕ)) → cells ≡ cells_of h → are ≡ map length lent
      → Says (length_rules h 1 should lent) (verdict_of answer)

-- so many words can be read from a buffer
pub record Readable (h : Handed) (count : ℕ) (s : List ℕ) : Type 0 where
  pub few : count ≤ 4194304
  pub within : cells_of h * count ≤ length s

-- of bytes there are four to a word
handed_example : cells_of bytes ≡ 4
handed_example = refl

-- a basis reads no word of a third buffer
third_example : leb 3 (read_count Basis) ≡ false
unfolding read_count
third_example = refl
