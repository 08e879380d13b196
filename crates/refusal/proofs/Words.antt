-- A loop over the words of a buffer, handed over in whatever way: the rules of the words that it passed are silent, so
-- what the rules that are left say, all say. `WordsPassed` is the loop's invariant, with its laws: at the start, one
-- word on, at a word that is p or more, and at the end.
-- Assumes nothing.
use Rattle.std.proofs.Common.{◌≡◌, List, ℕ, suc, ◌+◌, ◌-◌, ◌≤◌, ◌<◌, add-one, arith, Ok, Err}
use native.Mathlib.Nat.{sub-zero}
use Rattle.job.specs.declared.Refusal.TheVariants.{Word}
use Rattle.job.specs.Refusal.{Verdict, refused, Says, refusal_verdict}
use Rattle.job.specs.Job.{Handed, word_at}
use Rattle.job.specs.Rules.{word_rules}
use Rattle.job.proofs.Says.{says_none, says_here, says_past}
use Rattle.refusal.specs.Checked.{Judged}

pub record WordsPassed (h : Handed) (p b : ℕ) (s : List ℕ) (count i : ℕ) : Type 0 where
  pub within : i ≤ count
  pub rest : (v : Verdict) → Says (word_rules h p b s i (count - i)) v → Says (word_rules h p b s 0 count) v

pub passed_start : (h : Handed) (p b : ℕ) (s : List ℕ) (count : ℕ) → WordsPassed h p b s count 0
passed_start h p b s count = record { within = omega arith; rest = λ v t. rw sub-zero at t }

module _ {h : Handed} {p b : ℕ} {s : List ℕ} {count i : ℕ} (passed : WordsPassed h p b s count i) where
  -- the rules that are left at i begin with the one of the word at i
  one_more : i < count → count - i ≡ suc (count - suc i)
  one_more more = omega arith

  pub passed_next : i < count → word_at h s i < p → WordsPassed h p b s count (i + 1)
  unfolding word_rules
  passed_next more below = record {
    within = omega arith;
    rest = λ v t. passed.rest v (rw (one_more more) (says_past _ _ v (λ over. omega arith) (rw add-one at t)));
  }

  pub passed_over : i < count → p ≤ word_at h s i → Judged (word_rules h p b s 0 count) (Err (Word b i))
  unfolding word_rules refusal_verdict
  passed_over more over = record { says = passed.rest (refused 6 b i) (rw (one_more more) (says_here _ _ over)) }

  pub passed_all : count ≤ i → Judged (word_rules h p b s 0 count) (Ok tt)
  unfolding word_rules
  passed_all all =
      let none : count - i ≡ 0 = omega arith in
      record { says = passed.rest _ (rw none says_none) }
