-- No rule of a call has the number 9, so no call answers `Form`.
-- Assumes nothing.
use Rattle.std.proofs.Common.{◌≡◌, ◌≢◌, inl, inr, List, [], ◌∷◌, ◌++◌, ℕ, zero, suc, arith, Err}
use Rattle.job.specs.declared.Kind.{Kind}
use Rattle.job.specs.declared.Kind.TheVariants.{System, Basis, Equation}
use Rattle.job.specs.declared.Refusal.TheVariants.{Form}
use Rattle.job.specs.Refusal.{refused, Rule, Says, refusal_verdict, Answer}
use Rattle.job.specs.Outcome.{Outcome}
use Rattle.job.specs.Job.{Job, Buffers, listed, Handed, words, bytes, lengths_of, read_count}
use Rattle.job.specs.Rules.{
  limit_rules,
  size_rules,
  length_rules,
  word_rules,
  read_rules,
  check_rules,
  kind_rules,
  call_rules,
}
use Rattle.job.proofs.Says.{refused_not_done}

-- no rule of the list has this number
unfoldable pub Without : ℕ → List Rule → Type 0
Without m [] = Unit {0}
Without m (r ∷ rs) = (r.number ≢ m) × Without m rs

pub without_both : (m : ℕ) (rs ss : List Rule) → Without m rs → Without m ss → Without m (rs ++ ss)
unfolding Without
without_both m [] ss v w = w
without_both m (r ∷ rs) ss v w = (v.0, without_both m rs ss v.1 w)

-- so it says no refusal of this number
pub without_says : (m : ℕ) (rs : List Rule) → Without m rs → (first second : ℕ) → ¬ Says rs (refused m first second)
unfolding Without Says
without_says m [] w a b s = refused_not_done m a b s
without_says m (r ∷ rs) w a b (inl s) =
    let e : refused m a b ≡ refused r.number r.first r.second = s.1 in
    w.0 (cc)
without_says m (r ∷ rs) w a b (inr s) = without_says m rs w.1 a b s.1

pub limits_without : (r n p : ℕ) → Without 9 (limit_rules r n p)
unfolding Without limit_rules
limits_without r n p = ((λ e. omega arith), ((λ e. omega arith), ((λ e. omega arith), ((λ e. omega arith), tt))))

pub size_without : (h : Handed) (r n : ℕ) → Without 9 (size_rules h r n)
unfolding Without size_rules
size_without words r n = tt
size_without bytes r n = ((λ e. omega arith), tt)

pub length_without : (h : Handed) (b : ℕ) (ls : List ℕ) (ss : List (List ℕ)) → Without 9 (length_rules h b ls ss)
unfolding Without length_rules
length_without h b [] ss = tt
length_without h b (l ∷ ls) [] = tt
length_without h b (l ∷ ls) (s ∷ ss) = ((λ e. omega arith), length_without h (suc b) ls ss)

word_without : (h : Handed) (p b : ℕ) (s : List ℕ) (k count : ℕ) → Without 9 (word_rules h p b s k count)
unfolding Without word_rules
word_without h p b s k zero = tt
word_without h p b s k (suc count) = ((λ e. omega arith), word_without h p b s (suc k) count)

pub read_without : (h : Handed) (p b m : ℕ) (ls : List ℕ) (ss : List (List ℕ)) → Without 9 (read_rules h p b m ls ss)
unfolding Without read_rules
read_without h p b zero ls ss = tt
read_without h p b (suc m) [] ss = tt
read_without h p b (suc m) (l ∷ ls) [] = tt
read_without h p b (suc m) (l ∷ ls) (s ∷ ss) =
    without_both 9 (word_rules h p b s 0 l) (read_rules h p (suc b) m ls ss) (word_without h p b s 0 l)
    (read_without h p (suc b) m ls ss)

kind_without : (h : Handed) (kind : Kind) (r n p : ℕ) (lent : Buffers) → Without 9 (kind_rules h kind r n p lent)
unfolding Without kind_rules
kind_without h System r n p lent = tt
kind_without h Basis r n p lent = ((λ e. omega arith), tt)
kind_without h Equation r n p lent = ((λ e. omega arith), tt)

call_without : (h : Handed) (job : Job) → Without 9 (call_rules h job)
unfolding call_rules check_rules
call_without h job =
    let r = job.r in
    let n = job.n in
    let p = job.p in
    let lengths = lengths_of job.kind r n in
    let lent = listed job.lent in
    let limits = without_both 9 _ (size_rules h r n) (limits_without r n p) (size_without h r n) in
    let exact = without_both 9 _ (length_rules h 1 lengths lent) limits (length_without h 1 lengths lent) in
    let reads = read_rules h p 1 (read_count job.kind) lengths lent in
    let checks = without_both 9 _ reads exact (read_without h p 1 (read_count job.kind) lengths lent) in
    without_both 9 _ (kind_rules h job.kind r n p job.lent) checks (kind_without h job.kind r n p job.lent)

-- so a call does not answer Form
pub call_no_line
    : {h : Handed} {job : Job} {answer : Answer} {after : Buffers} → Outcome h job answer after
    → (line : ℕ) → ¬ (answer ≡ Err (Form line))
unfolding refusal_verdict
call_no_line {h} {job} o line e = without_says 9 (call_rules h job) (call_without h job) line 0 (rw e at o.verdict)
