-- The limits of order, terms and modulus, one behind the other: what is answered where the first that fails is known,
-- and where none fails.
-- Assumes nothing.
use Rattle.std.proofs.Common.{ℕ, ◌≤◌, ◌<◌, ◌⊎◌, inl, inr, ⊎_elim, Ok, Err, arith}
use native.Mathlib.Decide.{dec_lt}
use Rattle.algebra.specs.Numbers.{Prime}
use Rattle.job.specs.declared.Refusal.TheVariants.{Order, Terms, Modulus, TermsOverModulus}
use Rattle.job.specs.Refusal.{refusal_verdict}
use Rattle.job.specs.Rules.{Outside, limit_rules}
use Rattle.job.proofs.Says.{says_none, says_here, says_past}
use Rattle.refusal.specs.Checked.{Judged}

-- x is among low .. high
abbrev pub Among : ℕ → ℕ → ℕ → Type 0
Among low high x = (low ≤ x) × (x ≤ high)

outside : {low high x : ℕ} → ¬ Among low high x → Outside low high x
outside {low} {high} {x} n =
    elim (dec_lt x low) [
      | yes l ↦ record { apart = inl l }
      | no l ↦ elim (dec_lt high x) [ yes m ↦ record { apart = inr m } | no m ↦ absurd (n (omega arith)) ]
    ]

not_outside : {low high x : ℕ} → Among low high x → ¬ Outside low high x
not_outside a o = ⊎_elim (λ l. omega arith) (λ l. omega arith) o.apart

module _ (r n p : ℕ) where
  pub order_wrong : ¬ Among 1 8 r → Judged (limit_rules r n p) (Err Order)
  unfolding limit_rules refusal_verdict
  order_wrong order = record { says = says_here _ _ (outside order) }

  module _ (order : Among 1 8 r) where
    pub terms_wrong : ¬ Among 1 4096 n → Judged (limit_rules r n p) (Err Terms)
    unfolding limit_rules refusal_verdict
    terms_wrong terms = record { says = says_past _ _ _ (not_outside order) (says_here _ _ (outside terms)) }

    module _ (terms : Among 1 4096 n) where
      no_modulus : Outside 2 2147483647 p ⊎ (¬ Prime p) → Judged (limit_rules r n p) (Err Modulus)
      unfolding limit_rules refusal_verdict
      no_modulus wrong = record {
        says = says_past _ _ _ (not_outside order) (says_past _ _ _ (not_outside terms) (says_here _ _ wrong));
      }

      pub modulus_outside : ¬ Among 2 2147483647 p → Judged (limit_rules r n p) (Err Modulus)
      modulus_outside range = no_modulus (inl (outside range))

      pub modulus_no_prime : ¬ Prime p → Judged (limit_rules r n p) (Err Modulus)
      modulus_no_prime none = no_modulus (inr none)

      module _ (range : Among 2 2147483647 p) (prime : Prime p) where
        modulus : ¬ (Outside 2 2147483647 p ⊎ (¬ Prime p))
        modulus wrong = ⊎_elim (not_outside range) (λ q. q prime) wrong

        pub terms_over : p < n → Judged (limit_rules r n p) (Err TermsOverModulus)
        unfolding limit_rules refusal_verdict
        terms_over over = record {
          says =
              says_past _ _ _ (not_outside order)
              (says_past _ _ _ (not_outside terms) (says_past _ _ _ modulus (says_here _ _ over)));
        }

        pub limits_kept : n ≤ p → Judged (limit_rules r n p) (Ok tt)
        unfolding limit_rules
        limits_kept few = record {
          says =
              says_past _ _ _ (not_outside order)
              (says_past _ _ _ (not_outside terms)
              (says_past _ _ _ modulus (says_past _ _ _ (λ over. omega arith) says_none)));
        }
