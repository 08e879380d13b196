-- The verdict on a call and its outcome: the checks and then rule 8; an accepted call has buffers that can be run, and
-- one that was run is done.
-- Assumes nothing.
use Rattle.std.proofs.Common.{◌≡◌, refl, sym, subst, ◌∙◌, ◌≢◌, List, ℕ, ◌*◌, ◌<◌, ◌≤◌, add-zero, mul-le-mul}
use Rattle.std.proofs.Common.{mul-le-mul_left, arith, length, get_or, Ok, Err}
use Rattle.residue.specs.declared.Modulus.{Modulus}
use Rattle.residue.specs.Sums.{SmallModulus, IsModulus}
use Rattle.job.specs.declared.Refusal.{Refusal}
use Rattle.job.specs.declared.Refusal.TheVariants.{LeadingZero}
use Rattle.job.specs.declared.Kind.TheVariants.{Equation}
use Rattle.job.specs.Refusal.{done, Says, refusal_verdict}
use Rattle.job.specs.Job.{Buffers, buffers, words, word_at, series_at, carried, room_of, lengths_of, read_count}
use Rattle.job.specs.Rules.{check_rules, kind_rules, call_rules}
use Rattle.job.specs.Outcome.{Solved, Outcome}
use Rattle.job.proofs.Says.{says_none, says_here, says_past, says_head, says_split}
use Rattle.job.proofs.Accepted.{Accepted, accepted}
use Rattle.job.proofs.Outcomes.{outcome_done, words_below, words-filled}
use Rattle.refusal.specs.Checked.{Checked, Judged, job_of}
use Rattle.refusal.proofs.Judged.{judged_next, judged_stop}
use Rattle.newton.proofs.Outcomes.{modulus_small}
use Rattle.equation.specs.Equation.{Ready, Ran}

module _ (r n p : ℕ) (lent : Buffers) where
  -- the first coefficient of a_r
  abbrev lead_of : ℕ
  lead_of = get_or lent.one (r * n) 0

  lead_place : series_at words (carried Equation n) lent.one 0 r ≡ lead_of
  unfolding series_at word_at carried
  lead_place = rw add-zero

  -- the checks refuse
  pub check_refused : {x : Refusal} → Checked words (job_of Equation r n p lent) (Err x)
      → Judged (call_rules words (job_of Equation r n p lent)) (Err x)
  unfolding call_rules
  check_refused checked = judged_stop (kind_rules words Equation r n p lent) checked

  module _ (checked : Checked words (job_of Equation r n p lent) (Ok tt)) where
    -- the checks do not, and rule 8 does
    pub check_zero : lead_of ≡ 0 → Judged (call_rules words (job_of Equation r n p lent)) (Err LeadingZero)
    unfolding call_rules kind_rules refusal_verdict
    check_zero zero = judged_next checked (record { says = says_here _ _ (lead_place ∙ zero) })

    -- neither does
    pub check_done : lead_of ≢ 0 → Judged (call_rules words (job_of Equation r n p lent)) (Ok tt)
    unfolding call_rules kind_rules
    check_done some =
        judged_next checked (record { says = says_past _ _ done (λ z. some (sym lead_place ∙ z)) says_none })

-- an accepted call
module _ {r n p : ℕ} {a b start y w : List ℕ} (given : Accepted words (job_of Equation r n p (buffers a b start y w)))
  where
    -- the order, the place of the first coefficient of a_r, and the words of a
    pub lead_inside : (r ≤ r * n) × (r * n ≤ 32768) × (r * n < length a)
    unfolding lengths_of carried
    lead_inside = (
      omega (arith, mul-le-mul_left r given.limits.terms_least),
      mul-le-mul given.limits.order given.limits.terms,
      omega (arith, given.lengths.one, given.limits.terms_least),
    )

    start_length : length start ≡ r
    unfolding lengths_of
    start_length = omega (arith, given.lengths.three)

    ready : {q : Modulus} → IsModulus q p → get_or a (r * n) 0 ≢ 0 → Ready q r n a b start w
    unfolding lengths_of carried room_of read_count word_at
    ready {q} modulus lead = record {
      modulus = subst (λ (x : ℕ). IsModulus q x) (sym modulus.self) modulus;
      prime = rw modulus.self given.limits.prime;
      order_least = given.limits.order_least;
      order = given.limits.order;
      terms_least = given.limits.terms_least;
      terms = given.limits.terms;
      few = rw modulus.self given.limits.few;
      one = omega (arith, given.lengths.one);
      two = omega (arith, given.lengths.two);
      three = start_length;
      room = omega (arith, given.lengths.five);
      below_one = rw modulus.self given.one.below;
      below_two = rw modulus.self given.two.below;
      below_three =
          rw modulus.self
          (words_below (modulus_small given.limits).some start_length (given.three (omega arith)));
      lead = lead;
    }

-- a call that neither the checks nor rule 8 refuse
pub record Taken (r n p : ℕ) (a b start y w : List ℕ) : Type 0 where
  pub says : Says (call_rules words (job_of Equation r n p (buffers a b start y w))) done

module _ {r n p : ℕ} {a b start y w : List ℕ} (taken : Taken r n p a b start y w) where
  call_accepted : Accepted words (job_of Equation r n p (buffers a b start y w))
  unfolding call_rules
  call_accepted =
      accepted words _ (says_split (check_rules words (job_of Equation r n p (buffers a b start y w))) _ taken.says).0

  pub call_modulus : SmallModulus p
  call_modulus = modulus_small call_accepted.limits

  result_length : length y ≡ n
  unfolding lengths_of
  result_length = omega (arith, call_accepted.lengths.four)

  pub call_ready : {q : Modulus} → IsModulus q p → Ready q r n a b start w × (length y ≡ n)
  unfolding call_rules kind_rules
  call_ready modulus =
      let own = (says_split (check_rules words (job_of Equation r n p (buffers a b start y w))) _ taken.says).1 in (
        ready call_accepted modulus (λ z. says_head _ _ own (lead_place r n p (buffers a b start y w) ∙ z)),
        result_length,
      )

  pub call_done : {q : Modulus} {y' w' : List ℕ} → IsModulus q p → length y' ≡ length y → length w' ≡ length w
      → Ran q.p r n a b start y' w'
      → Outcome words (job_of Equation r n p (buffers a b start y w)) (Ok tt) (buffers a b start y' w')
  unfolding Solved carried series_at word_at
  call_done modulus leny lenw h =
      let half = call_accepted.limits.half in
      let filled = words-filled half result_length leny (λ k l. rw modulus.self at (h.below k l)) in
      outcome_done taken.says (refl, refl, refl, filled, rw modulus.self at h.series)
      (record { len = lenw; zeros = h.cleared.zeros })
