-- A job on words and the same job on the bytes that carry them, for every kind of job. Every word that is read is the
-- same, so every rule of words and of the kind is; limits are the same, and the size and the lengths are right. So the
-- verdict is the same, and the results that carry the words of the results are the series that is meant.
-- Assumes nothing.
use Rattle.std.proofs.Common.{◌≡◌, refl, sym, subst, List, ◌++◌, append_assoc, map, ℕ, zero, suc, ◌+◌, ◌*◌, ◌≤◌, ◌<◌}
use Rattle.std.proofs.Common.{arith, length, get_or}
use mathlib.Core.Path.{fun_ext}
use Rattle.job.specs.declared.Kind.{Kind}
use Rattle.job.specs.declared.Kind.TheVariants.{System, Basis, Equation}
use Rattle.std.specs.Prelude.{Ok, Err}
use Rattle.job.specs.declared.Refusal.{Refusal}
use Rattle.job.specs.Refusal.{Verdict, done, Rule, Says, Answer, refusal_verdict, verdict_of}
use Rattle.job.specs.Job.{Buffers, listed, Handed, words, bytes, word_at, series_at, matrix_at, lengths_of, read_count}
use Rattle.job.specs.Rules.{limit_rules, size_rules, length_rules, word_rules, read_rules}
use Rattle.job.specs.Rules.{check_rules, kind_rules, call_rules}
use Rattle.job.specs.Outcome.{Filled, Solved, Cleared, Outcome}
use Rattle.job.proofs.Says.{refused_not_done, says-append_done, says-append_other, refusal_other}
use Rattle.job.proofs.Accepted.{Sized, Accepted, accepted}
use Rattle.refusal.specs.Checked.{Checked, job_of}
use Rattle.octets.specs.Octets.{Carries, Encoded, Fitting}
use Rattle.octets.proofs.Verdicts.{says_swap, size_silent, lengths_silent}

-- the words of one buffer
module _ {s w : List ℕ} (carries : Carries s w) where
  word_same : word_at bytes s ≡ word_at words w
  word_same = fun_ext carries.word

  series_same : (c : ℕ) → series_at bytes c s ≡ series_at words c w
  unfolding series_at
  series_same c = fun_ext (λ k. fun_ext (λ e. carries.word (e * c + k)))

  matrix_same : (r c : ℕ) → matrix_at bytes r c s ≡ matrix_at words r c w
  unfolding matrix_at series_at
  matrix_same r c = fun_ext (λ k. fun_ext (λ i. fun_ext (λ j. carries.word ((i * r + j) * c + k))))

  word_rules-same : (p b k count : ℕ) → word_rules bytes p b s k count ≡ word_rules words p b w k count
  unfolding word_rules
  word_rules-same p b k zero = refl
  word_rules-same p b k (suc count) = rw (carries.word k, word_rules-same p b (suc k) count)

-- a buffer of results into which words of results were written
filled-carried : {p count : ℕ} {s s' w w' : List ℕ} → length s' ≡ length s → Encoded w' s'
    → Filled words p count w w' → Filled bytes p count s s'
filled-carried len encoded filled = record {
  len = len;
  cells = encoded.cells;
  below = λ k l. rw (encoded.carries.word k) (filled.below k l);
}

-- the lent bytes of a job carry the words of the first three buffers, and the other two have room for the rest
pub record Decoded (kind : Kind) (r n : ℕ) (s t : Buffers) : Type 0 where
  pub fitting : Fitting kind r n (map length (listed s))
  pub one : Carries s.one t.one
  pub two : Carries s.two t.two
  pub three : Carries s.three t.three
  pub four : length t.four ≡ get_or (lengths_of kind r n) 3 0
  pub five : length t.five ≡ get_or (lengths_of kind r n) 4 0

-- the bytes s became s': the results of t' were written, to the third buffer too where it is not only read, and the
-- work room was cleared
pub record Returned (kind : Kind) (s s' t' : Buffers) : Type 0 where
  pub one : s'.one ≡ s.one
  pub two : s'.two ≡ s.two
  pub three_read : 2 < read_count kind → s'.three ≡ s.three
  pub three_long : length s'.three ≡ length s.three
  pub three : read_count kind ≤ 2 → Encoded t'.three s'.three
  pub four_long : length s'.four ≡ length s.four
  pub four : Encoded t'.four s'.four
  pub cleared : Cleared s.five s'.five

-- the bytes of a fitting job have their lengths
fitting_sized : {kind : Kind} {r n : ℕ} {s : Buffers} → Fitting kind r n (map length (listed s))
    → Sized bytes (lengths_of kind r n) s
fitting_sized fitting = record {
  one = fitting.exact 0 (omega arith);
  two = fitting.exact 1 (omega arith);
  three = fitting.exact 2 (omega arith);
  four = fitting.exact 3 (omega arith);
  five = fitting.exact 4 (omega arith);
}

-- and a job that no check refused is a fitting one
sized_at : (lengths : List ℕ) {s : Buffers} → Sized bytes lengths s
    → (k : ℕ) → k < 5 → get_or (map length (listed s)) k 0 ≡ 4 * get_or lengths k 0
sized_at lengths sized zero l = sized.one
sized_at lengths sized (suc zero) l = sized.two
sized_at lengths sized (suc (suc zero)) l = sized.three
sized_at lengths sized (suc (suc (suc zero))) l = sized.four
sized_at lengths sized (suc (suc (suc (suc zero)))) l = sized.five
sized_at lengths sized (suc (suc (suc (suc (suc k))))) l = absurd (omega arith)

accepted_fitting : {kind : Kind} {r n p : ℕ} {s : Buffers} → Accepted bytes (job_of kind r n p s)
    → Fitting kind r n (map length (listed s))
accepted_fitting {kind} {r} {n} ok = record {
  small = record {
    order_least = ok.limits.order_least;
    order = ok.limits.order;
    terms_least = ok.limits.terms_least;
    size = ok.small refl;
  };
  exact = sized_at (lengths_of kind r n) ok.lengths;
}

-- what the checks answer to a job that does not fit is a refusal
pub outcome_unfit : {kind : Kind} {r n p : ℕ} {s : Buffers} {x : Answer} → ¬ Fitting kind r n (map length (listed s))
    → Checked bytes (job_of kind r n p s) x → Outcome bytes (job_of kind r n p s) x s
unfolding call_rules
outcome_unfit {kind} {r} {n} {p} {s} {x} unfit checked = record {
  verdict = says-append_other (check_rules bytes (job_of kind r n p s)) _ (verdict_of x) other checked.says;
  kept = λ number first second e. refl;
  solved = λ e. absurd (other e);
  cleared = λ e. absurd (other e);
}
  where
    other : ¬ (verdict_of x ≡ done)
    other e =
        let silent = subst (λ (v : Verdict). Says (check_rules bytes (job_of kind r n p s)) v) e checked.says in
        unfit (accepted_fitting (accepted bytes (job_of kind r n p s) silent))

-- 5 and 6 of a job
abbrev exact_rules : Handed → Kind → ℕ → ℕ → Buffers → List Rule
exact_rules h kind r n lent = length_rules h 1 (lengths_of kind r n) (listed lent)

abbrev words_read : Handed → Kind → ℕ → ℕ → ℕ → Buffers → List Rule
words_read h kind r n p lent = read_rules h p 1 (read_count kind) (lengths_of kind r n) (listed lent)

-- the rules of the words that are read, and of the kind, are the same
reads_same : (kind : Kind) {r n : ℕ} (p : ℕ) {s t : Buffers} → Decoded kind r n s t
    → words_read bytes kind r n p s ≡ words_read words kind r n p t
unfolding read_rules read_count lengths_of
reads_same System p d = rw (word_rules-same d.one, word_rules-same d.two, word_rules-same d.three)
reads_same Basis p d = rw (word_rules-same d.one, word_rules-same d.two)
reads_same Equation p d = rw (word_rules-same d.one, word_rules-same d.two, word_rules-same d.three)

kinds_same : (kind : Kind) {r n : ℕ} (p : ℕ) {s t : Buffers} → Decoded kind r n s t
    → kind_rules bytes kind r n p s ≡ kind_rules words kind r n p t
unfolding kind_rules
kinds_same System p d = refl
kinds_same Basis p d = rw (matrix_same d.two)
kinds_same Equation p d = rw (series_same d.one)

-- the results carry the series that is meant
solved_carried : (kind : Kind) {r n : ℕ} (p : ℕ) {s s' t t' : Buffers} → Decoded kind r n s t → Returned kind s s' t'
    → Solved words kind r n p t t' → Solved bytes kind r n p s s'
unfolding Solved read_count
solved_carried System p d back f = (
  back.one,
  back.two,
  back.three_read (omega arith),
  filled-carried back.four_long back.four f.3,
  rw (matrix_same d.one, series_same d.two, word_same d.three, series_same back.four.carries) f.4,
)
solved_carried Basis p d back f = (
  back.one,
  back.two,
  filled-carried back.three_long (back.three (omega arith)) f.2,
  filled-carried back.four_long back.four f.3,
  rw (
    matrix_same d.one,
    matrix_same d.two,
    matrix_same (back.three (omega arith)).carries,
    matrix_same back.four.carries,
  ) f.4,
)
solved_carried Equation p d back f = (
  back.one,
  back.two,
  back.three_read (omega arith),
  filled-carried back.four_long back.four f.3,
  rw (series_same d.one, word_same d.two, word_same d.three, word_same back.four.carries) f.4,
)

-- the lists of rules of a call, in other brackets
regroup : (l z e d k : List Rule) → (((l ++ z) ++ e) ++ d) ++ k ≡ l ++ ((z ++ e) ++ (d ++ k))
regroup l z e d k = simp append_assoc

-- 10 and 5 are silent
shape_silent : (h : Handed) (kind : Kind) (r n : ℕ) (lent : Buffers) → r * r * n ≤ 1024
    → Sized h (lengths_of kind r n) lent → Says (size_rules h r n ++ exact_rules h kind r n lent) done
shape_silent h kind r n lent small sized =
    says-append_done (size_rules h r n) _ done (size_silent h r n small) (lengths_silent h kind r n lent sized)

module _ {kind : Kind} {r n : ℕ} {s t : Buffers} (decoded : Decoded kind r n s t) where
  words_sized : Sized words (lengths_of kind r n) t
  words_sized =
      let b = fitting_sized {s = s} decoded.fitting in
      record {
        one = omega (arith, b.one, decoded.one.long);
        two = omega (arith, b.two, decoded.two.long);
        three = omega (arith, b.three, decoded.three.long);
        four = omega (arith, decoded.four);
        five = omega (arith, decoded.five);
      }

  -- the verdict is the same
  verdict-carried : (p : ℕ) (v : Verdict) → Says (call_rules words (job_of kind r n p t)) v
      → Says (call_rules bytes (job_of kind r n p s)) v
  unfolding call_rules check_rules
  verdict-carried p v says =
      let small = decoded.fitting.small.size in
      let limits = limit_rules r n p in
      let of_words = words_read words kind r n p t ++ kind_rules words kind r n p t in
      let shape-words = size_rules words r n ++ exact_rules words kind r n t in
      let shape-bytes = size_rules bytes r n ++ exact_rules bytes kind r n s in
      rw (regroup, reads_same kind p decoded, kinds_same kind p decoded)
      (says_swap limits shape-words shape-bytes of_words v (shape_silent words kind r n t small words_sized)
      (shape_silent bytes kind r n s small (fitting_sized {s = s} decoded.fitting)) (rw regroup at says))

  -- the words job refused: nothing was written
  pub outcome_kept : {p : ℕ} {x : Refusal} {t' : Buffers} → Outcome words (job_of kind r n p t) (Err x) t'
      → Outcome bytes (job_of kind r n p s) (Err x) s
  outcome_kept {p} {x} o = record {
    verdict = verdict-carried p (refusal_verdict x) o.verdict;
    kept = λ number first second e. refl;
    solved = λ e. absurd (refusal_other x e);
    cleared = λ e. absurd (refusal_other x e);
  }

  -- the words job is done, and its results were written
  pub outcome_done : {p : ℕ} {s' t' : Buffers} → Outcome words (job_of kind r n p t) (Ok tt) t'
      → Returned kind s s' t' → Outcome bytes (job_of kind r n p s) (Ok tt) s'
  outcome_done {p} o back = record {
    verdict = verdict-carried p done o.verdict;
    kept = λ number first second h. absurd (refused_not_done number first second (sym h));
    solved = λ h. solved_carried kind p decoded back (o.solved refl);
    cleared = λ h. back.cleared;
  }
