-- The outcome of a reader of sheets: what a header that nothing refuses says of its numbers, what is left behind its
-- lines, and the parts put together.
-- Assumes nothing.
use Rattle.std.proofs.Common.{◌≡◌, refl, sym, subst, List, ◌∷◌, ◌++◌, ℕ, ◌-◌, arith, ℤ, length, Result, Ok, Err}
use Rattle.job.specs.declared.Kind.{Kind}
use Rattle.job.specs.declared.Kind.TheVariants.{System, Basis, Equation}
use Rattle.job.specs.declared.Refusal.{Refusal}
use Rattle.job.specs.Refusal.{done, Says, refusal_verdict, verdict_of}
use Rattle.job.specs.Job.{carried, bytes}
use Rattle.job.specs.Rules.{limit_rules, size_rules}
use Rattle.job.proofs.Says.{refused_not_done, refusal_other, says_tail, says_split, says-append_done, says-append_other}
use Rattle.job.proofs.Accepted.{Limits, limits_of, small_of}
use Rattle.text.specs.Lines.{Form}
use Rattle.cursor.specs.declared.Cursor.{Cursor}
use Rattle.lines.specs.Steps.{form_of}
use Rattle.job.specs.declared.Header.{Header}
use Rattle.body.specs.declared.Lengths.{Lengths}
use Rattle.header.specs.Header.{word_of, header_form}
use Rattle.sheet.specs.Sheet.{Sheet}
use Rattle.body.specs.JobLines.{job_lines}
use Rattle.sheet.specs.JobSheet.{job_forms}
use Rattle.sheet.specs.Rules.{room_rules, open_rules, line_rules, sheet_rules}
use Rattle.sheet.specs.Rooms.{FilledAll}
use Rattle.sheet.specs.Read.{ReadOutcome}
use Rattle.body.specs.Parts.{Small, Measured}
use Rattle.sheet.specs.Parts.{Led, Started, Entered, Roomy, Fillable, Finished}
use Rattle.body.proofs.Totals.{signed_numbers}
use Rattle.body.proofs.Sizes.{lengths_fit}
use Rattle.sheet.proofs.Before.{opens_keeps}
use Rattle.sheet.proofs.Verdicts.{sheet_says}

-- a series carries as many coefficients as there are terms
pub carried_all : (kind : Kind) (n : ℕ) → carried kind n ≡ n
unfolding carried
carried_all System n = refl
carried_all Basis n = refl
carried_all Equation n = refl

-- the lines of a job sheet
pub job_forms_lem : (h : Header)
    → job_forms h
    ≡ header_form (word_of h.kind) h
    ∷ job_lines h.kind (form_of (signed_numbers h.n)) (form_of (signed_numbers h.r)) h.r
unfolding job_forms
job_forms_lem h = rw (carried_all h.kind h.n)

pub job_led : Led job_forms word_of
unfolding job_forms
job_led = record { first = λ h. refl }

-- limits that nothing refuses
module _ (r n p : ℕ) (s : Says (limit_rules r n p ++ size_rules bytes r n) done) where
  both : Says (limit_rules r n p) done × Says (size_rules bytes r n) done
  both = says_split (limit_rules r n p) (size_rules bytes r n) s

  pub limited_limits : Limits r n p
  limited_limits = limits_of r n p both.0

  pub limited-small : Small r n
  limited-small =
      let l = limited_limits in
      record {
        order_least = l.order_least;
        order = l.order;
        terms_least = l.terms_least;
        product = small_of r n both.1;
      }

-- a header that nothing refuses
module _ {forms : Header → List Form} {lead : Kind → List ℕ} {s : List ℕ} {h : Header} {c : Cursor}
    (q : Entered forms lead s h c) where
  silent : Says (limit_rules h.r h.n h.p ++ size_rules bytes h.r h.n) done
  unfolding open_rules
  silent = says_tail _ _ (says_tail _ _ q.says)

  pub entered_limits : Limits h.r h.n h.p
  entered_limits = limited_limits h.r h.n h.p silent

  pub entered_small : Small h.r h.n
  entered_small = limited-small h.r h.n h.p silent

  pub entered_fillable : {l : Lengths} {w : List ℤ} {one two three : List ℕ} → Measured h.kind h.r h.n l
      → length w ≡ 3080 → Roomy one two three → Fillable h.p w l one two three
  entered_fillable {l} m e o =
      let f = lengths_fit h.kind h.r h.n l entered_small m in
      record {
        modulus = omega (arith, entered_limits.prime.two);
        numbers = omega (arith, f.all);
        first = omega (arith, f.one, o.first);
        second = omega (arith, f.two, o.second);
        third = omega (arith, f.three, o.third);
      }

module _ {forms : Header → List Form} {lengths : Header → List ℕ} {s : List ℕ} where
  -- behind the lines
  module _ {h : Header} {rooms : List (List ℕ)} where
    pub finished_broken : {x : Refusal} → Says (line_rules forms s h 2 (length (forms h) - 1)) (refusal_verdict x)
        → Finished forms lengths s h rooms (Err x) rooms
    finished_broken {x} v = record {
      verdict = v;
      kept = λ a b d e. refl;
      taken = λ e. absurd (refusal_other x e);
    }

    pub finished_done : {z : ℕ → ℤ} {after : List (List ℕ)} → Sheet forms s h z
        → FilledAll h.p z 0 (lengths h) rooms after → Finished forms lengths s h rooms (Ok h) after
    finished_done {z} a f = record {
      verdict = sheet_says forms s h a 2 (length (forms h) - 1);
      kept = λ number first second e. absurd (refused_not_done number first second (sym e));
      taken = λ e. record { header = h; brought = refl; numbers = z; sheet = a; filled = f };
    }

  -- the outcome, by what stops the reader
  module _ {rooms : List (List ℕ)} where
    pub outcome_rooms : {x : Refusal} → Says (room_rules rooms) (refusal_verdict x)
        → ReadOutcome forms lengths s rooms (Err x) rooms
    unfolding sheet_rules
    outcome_rooms {x} r = record {
      verdict = λ h l.
          let v = refusal_verdict x in
          let other = refusal_other x in
          let lines = line_rules forms s h 2 (length (forms h) - 1) in
          let first = says-append_other (room_rules rooms) (open_rules forms s h) v other r in
          says-append_other (room_rules rooms ++ open_rules forms s h) lines v other first;
      kept = λ a b c e. refl;
      taken = λ e. absurd (refusal_other x e);
    }

    module _ (lead : Kind → List ℕ) (r : Says (room_rules rooms) done) where
      pub outcome_stop : {x : Refusal} → Started forms lead s (Err x) → ReadOutcome forms lengths s rooms (Err x) rooms
      unfolding sheet_rules
      outcome_stop {x} q = record {
        verdict = λ h l.
            let v = refusal_verdict x in
            let lines = line_rules forms s h 2 (length (forms h) - 1) in
            let first = says-append_done (room_rules rooms) (open_rules forms s h) v r (q h l) in
            says-append_other (room_rules rooms ++ open_rules forms s h) lines v (refusal_other x) first;
        kept = λ a b c e. refl;
        taken = λ e. absurd (refusal_other x e);
      }

      pub outcome_taken : {h : Header} {c : Cursor} {x : Result Header Refusal} {after : List (List ℕ)} → Led forms lead
          → Entered forms lead s h c → Finished forms lengths s h rooms x after
          → ReadOutcome forms lengths s rooms x after
      unfolding sheet_rules
      outcome_taken {h} {c} {x} {after} led q f = record {
        verdict = λ g l. subst (λ (k : Header). Says (sheet_rules forms s rooms k) (verdict_of x))
            (l.same h (opens_keeps led s q.opens)) said;
        kept = f.kept;
        taken = f.taken;
      }
        where
          said : Says (sheet_rules forms s rooms h) (verdict_of x)
          said =
              let lines = line_rules forms s h 2 (length (forms h) - 1) in
              let first = says-append_done (room_rules rooms) (open_rules forms s h) done r q.says in
              says-append_done (room_rules rooms ++ open_rules forms s h) lines (verdict_of x) first f.verdict
