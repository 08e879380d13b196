-- The checks of a call one behind the other, handed over as words or as bytes: 1 to 4 and 10, then 5, and what 6 then
-- finds in the buffers that are read.
-- Assumes nothing.
use Rattle.std.proofs.Common.{
  ◌≡◌,
  refl,
  ap,
  ◌⊎◌,
  inl,
  inr,
  List,
  [],
  ◌++◌,
  map,
  ℕ,
  ◌*◌,
  ◌≤◌,
  length,
  get_or,
  Ok,
  Err,
  arith,
}
use Rattle.job.specs.declared.Kind.{Kind}
use Rattle.job.specs.declared.Kind.TheVariants.{System, Basis, Equation}
use Rattle.job.specs.declared.Refusal.{Refusal}
use Rattle.job.specs.Refusal.{Rule, Answer}
use Rattle.job.specs.Job.{Job, Buffers, listed, Handed, words, bytes, cells_of, lengths_of, read_count}
use Rattle.job.specs.Rules.{limit_rules, size_rules, length_rules, word_rules, read_rules, check_rules}
use Rattle.job.proofs.Says.{says_split}
use Rattle.job.proofs.Accepted.{Limits, Sized, limits_of, Sized-of}
use Rattle.refusal.specs.Checked.{Judged, Checked, Measured, Compared, Readable}
use Rattle.refusal.proofs.Judged.{judged_next, judged_stop, judged_last}

-- a word has at most four cells
pub cells_few : (h : Handed) → cells_of h ≤ 4
cells_few words = omega arith
cells_few bytes = omega arith

-- behind those of the first two buffers: the rules of the words of a third buffer s, where it is read
abbrev third_rules : Handed → ℕ → List ℕ → ℕ → Kind → List Rule
third_rules h p s count System = word_rules h p 3 s 0 count ++ []
third_rules h p s count Basis = []
third_rules h p s count Equation = word_rules h p 3 s 0 count ++ []

-- the rules of the words that are read, buffer by buffer
reads
    : (h : Handed) (kind : Kind) (r n p : ℕ) (lent : Buffers)
    → let l = lengths_of kind r n in
    read_rules h p 1 (read_count kind) l (listed lent)
    ≡ word_rules h p 1 lent.one 0 (get_or l 0 0)
    ++ (word_rules h p 2 lent.two 0 (get_or l 1 0) ++ third_rules h p lent.three (get_or l 2 0) kind)
unfolding read_rules read_count lengths_of
reads h System r n p lent = refl
reads h Basis r n p lent = refl
reads h Equation r n p lent = refl

-- 1 to 4 are silent
pub sizes_known
    : (h : Handed) {r n p : ℕ} → Judged (limit_rules r n p ++ size_rules h r n) (Ok tt) → Limits r n p
sizes_known h {r} {n} {p} j = limits_of r n p (says_split (limit_rules r n p) _ j.says).0

module _ (h : Handed) (job : Job) where
  -- 1 to 4 and 10
  abbrev sizes : List Rule
  sizes = limit_rules job.r job.n job.p ++ size_rules h job.r job.n

  -- 5
  abbrev pub exact : List Rule
  exact = length_rules h 1 (lengths_of job.kind job.r job.n) (listed job.lent)

  pub sizes_stop : {x : Refusal} → Judged sizes (Err x) → Checked h job (Err x)
  unfolding check_rules
  sizes_stop j = judged_stop _ (judged_stop exact j)

  -- what is said of the lengths
  pub lengths_judged
      : {l : List ℕ} {cells : ℕ} {are : List ℕ} {a : Answer} → Measured job.kind job.r job.n l
      → Compared cells l are a → cells ≡ cells_of h → are ≡ map length (listed job.lent) → Judged exact a
  lengths_judged measured compared e f = record {
    says = rw measured.exact at (compared.says h (listed job.lent) e f);
  }

  pub lengths_stop : {x : Refusal} → Judged sizes (Ok tt) → Judged exact (Err x) → Checked h job (Err x)
  unfolding check_rules
  lengths_stop silent j = judged_stop _ (judged_next silent j)

-- 1 to 5 are silent, and these are the lengths in words
pub record Passed (h : Handed) (job : Job) (l : List ℕ) : Type 0 where
  pub measured : Measured job.kind job.r job.n l
  pub small : Judged (sizes h job) (Ok tt)
  pub long : Judged (exact h job) (Ok tt)

module _ {h : Handed} {job : Job} {l : List ℕ} (passed : Passed h job l) where
  -- the words of the buffer at i of the five
  readable
      : (i : ℕ) (s : List ℕ) → length s ≡ cells_of h * get_or (lengths_of job.kind job.r job.n) i 0
      → Readable h (get_or l i 0) s
  readable i s len =
      let bound = passed.measured.bounded.within i in
      let same = ap (λ (m : List ℕ). cells_of h * get_or m i 0) passed.measured.exact in
      record { few = bound; within = omega arith }

  lengths : Sized h (lengths_of job.kind job.r job.n) job.lent
  lengths = Sized-of h job.kind job.r job.n job.lent passed.long.says

  pub read_one : Readable h (get_or l 0 0) job.lent.one
  read_one = readable 0 job.lent.one lengths.one

  pub read_two : Readable h (get_or l 1 0) job.lent.two
  read_two = readable 1 job.lent.two lengths.two

  pub read_three : Readable h (get_or l 2 0) job.lent.three
  read_three = readable 2 job.lent.three lengths.three

  -- the rules of the words of each buffer
  abbrev first : List Rule
  first = word_rules h job.p 1 job.lent.one 0 (get_or l 0 0)

  abbrev second : List Rule
  second = word_rules h job.p 2 job.lent.two 0 (get_or l 1 0)

  abbrev third : List Rule
  third = word_rules h job.p 3 job.lent.three 0 (get_or l 2 0)

  words_judged
      : {a : Answer} → Judged (first ++ (second ++ third_rules h job.p job.lent.three (get_or l 2 0) job.kind)) a
      → Checked h job a
  unfolding check_rules
  words_judged j =
      let same = reads h job.kind job.r job.n job.p job.lent in
      judged_next (judged_next passed.small passed.long) (rw same (rw passed.measured.exact at j))

  pub first_stop : {x : Refusal} → Judged first (Err x) → Checked h job (Err x)
  first_stop j = words_judged (judged_stop _ j)

  module _ (one : Judged first (Ok tt)) where
    pub second_stop : {x : Refusal} → Judged second (Err x) → Checked h job (Err x)
    second_stop j = words_judged (judged_next one (judged_stop _ j))

    module _ (two : Judged second (Ok tt)) where
      -- a basis: its third buffer is not read
      pub two_read : job.kind ≡ Basis → Checked h job (Ok tt)
      two_read e = words_judged (rw e (judged_next one (judged_last two)))

      pub third_judged
          : {a : Answer} → (job.kind ≡ System) ⊎ (job.kind ≡ Equation) → Judged third a → Checked h job a
      third_judged (inl e) j = words_judged (rw e (judged_next one (judged_next two (judged_last j))))
      third_judged (inr e) j = words_judged (rw e (judged_next one (judged_next two (judged_last j))))
