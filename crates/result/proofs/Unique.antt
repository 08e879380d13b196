-- Two outcomes of a writer for one input coincide: the answers are the same, and so are the texts afterwards.
-- Assumes nothing.
use Rattle.std.proofs.Common.{◌≡◌, refl, sym, ap, ◌∙◌, List, ℕ, Result, Ok, Err}
use Rattle.job.specs.declared.Refusal.{Refusal}
use Rattle.job.specs.Refusal.{Verdict, done, refused, verdict_of}
use Rattle.job.proofs.Says.{refused_not_done, says_unique}
use Rattle.job.proofs.Unique.{refusal_same}
use Rattle.job.specs.declared.Header.{Header}
use Rattle.result.specs.Write.{write_rules, WriteOutcome}

-- two refusals with one number and the same places are the same answer
err_same : (v w : Result ℕ Refusal) → ¬ (verdict_of v ≡ done) → verdict_of v ≡ verdict_of w → v ≡ w
err_same (Ok l) w q e = absurd (q refl)
err_same (Err x) (Ok l) q e = absurd (q e)
err_same (Err x) (Err y) q e = ap Err (refusal_same x y e)

module _ {h : Header} {lent : List (List ℕ)} {text : List ℕ} {v w : Result ℕ Refusal} {s t : List ℕ}
    (a : WriteOutcome h lent text v s) (b : WriteOutcome h lent text w t) where
  same-verdict : verdict_of v ≡ verdict_of w
  same-verdict = says_unique (write_rules h lent text) a.verdict b.verdict

  by_verdict_lem : (d : Verdict) → verdict_of v ≡ d → (v ≡ w) × (s ≡ t)
  by_verdict_lem done e =
      let x = a.brought e in
      let y = b.brought (sym same-verdict ∙ e) in
      (x ∙ sym y, (a.written _ x).is ∙ sym (b.written _ y).is)
  by_verdict_lem (refused number first second) e = (
    err_same v w (λ d. refused_not_done number first second (sym e ∙ d)) same-verdict,
    a.kept number first second e ∙ sym (b.kept number first second (sym same-verdict ∙ e)),
  )

  pub outcome_unique : (v ≡ w) × (s ≡ t)
  outcome_unique = by_verdict_lem (verdict_of v) refl
