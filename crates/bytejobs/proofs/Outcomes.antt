-- The outcome of a byte job from the answer of the job on words: a refusal leaves every cell, and a job that is done
-- has its results encoded and its work room cleared.
-- Assumes nothing.
use Rattle.std.proofs.Common.{◌≡◌, refl, List, map, ℕ, ◌≤◌, ◌<◌, arith, length}
use Rattle.room.specs.Room.{Zeros}
use Rattle.job.specs.declared.Kind.{Kind}
use Rattle.std.specs.Prelude.{Ok, Err}
use Rattle.job.specs.declared.Refusal.{Refusal}
use Rattle.job.specs.Refusal.{Answer}
use Rattle.job.specs.Job.{buffers, listed, bytes, read_count}
use Rattle.job.specs.Outcome.{Outcome}
use Rattle.refusal.specs.Checked.{job_of}
use Rattle.octets.specs.Octets.{Encoded, Fitting}
use Rattle.octets.proofs.Carry.{Decoded, outcome_kept, outcome_done}
use Rattle.bytejobs.specs.Solvers.{Answered}

module _ {kind : Kind} {r n p : ℕ} {one two three four five c d : List ℕ} {x : Answer}
    (fitting : Fitting kind r n (map length (listed (buffers one two three four five))))
    (answered : Answered kind r n p one two three c d x)
  where
    decoded : Decoded kind r n (buffers one two three four five) answered.lent
    decoded = record {
      fitting = fitting;
      one = answered.one_carried;
      two = answered.two_carried;
      three = answered.three_carried;
      four = answered.four_long;
      five = answered.five_long;
    }

module _ {kind : Kind} {r n p : ℕ} {one two three four five c d : List ℕ}
    (fitting : Fitting kind r n (map length (listed (buffers one two three four five))))
  where
    -- the job on words refused
    pub answered_refused : {x : Refusal} → Answered kind r n p one two three c d (Err x)
        → Outcome bytes (job_of kind r n p (buffers one two three four five)) (Err x) (buffers one two three four five)
    answered_refused answered = outcome_kept (decoded fitting answered) answered.outcome

    module _ (answered : Answered kind r n p one two three c d (Ok tt)) {four' five' : List ℕ}
        (four_long : length four' ≡ length four) (four_is : Encoded d four') (five_long : length five' ≡ length five)
        (five-is : Zeros five')
      where
        -- the third buffer is only read
        pub vector_done : 2 < read_count kind
            → Outcome bytes (job_of kind r n p (buffers one two three four five)) (Ok tt)
            (buffers one two three four' five')
        vector_done reads =
            outcome_done (decoded fitting answered) answered.outcome
            (record {
              one = refl;
              two = refl;
              three_read = λ _. refl;
              three_long = refl;
              three = λ writes. absurd (omega arith);
              four_long = four_long;
              four = rw answered.four_after four_is;
              cleared = record { len = five_long; zeros = five-is.zeros };
            })

        -- the third buffer is written too
        pub basis_done : read_count kind ≤ 2 → {three' : List ℕ} → length three' ≡ length three → Encoded c three'
            → Outcome bytes (job_of kind r n p (buffers one two three four five)) (Ok tt)
            (buffers one two three' four' five')
        basis_done writes three_long three-is =
            outcome_done (decoded fitting answered) answered.outcome
            (record {
              one = refl;
              two = refl;
              three_read = λ reads. absurd (omega arith);
              three_long = three_long;
              three = λ _. rw answered.three_after three-is;
              four_long = four_long;
              four = rw answered.four_after four_is;
              cleared = record { len = five_long; zeros = five-is.zeros };
            })
