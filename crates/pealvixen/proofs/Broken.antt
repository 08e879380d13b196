-- A broken line's number is small, so that it has room in its place of the packed number: a sheet whose limits are
-- kept has at most 130 lines, and no other is read behind line 1.
-- Assumes nothing.
use Rattle.std.proofs.Common.{
  ◌≡◌,
  ◌⊎◌,
  inl,
  inr,
  List,
  [],
  ◌∷◌,
  ◌++◌,
  ℕ,
  zero,
  suc,
  ◌+◌,
  ◌-◌,
  ◌≤◌,
  arith,
  length,
  replicate,
  Err,
}
use native.Mathlib.Decide.{dec_lt}
use Rattle.job.specs.declared.Kind.TheVariants.{System}
use Rattle.job.specs.declared.Refusal.TheVariants.{Form as FormRefusal}
use Rattle.job.specs.Refusal.{Verdict, done, refused, Rule, Says, refusal_verdict}
use Rattle.job.specs.Job.{words, bytes}
use Rattle.job.specs.Rules.{limit_rules}
use Rattle.job.proofs.Says.{says_none, says_tail, says_split, refused_not_done}
use Rattle.job.proofs.Accepted.{Limits, limits_of}
use Rattle.job.proofs.NoLine.{without_both, without_says, limits_without, size_without, length_without}
use Rattle.text.specs.Lines.{Form}
use Rattle.job.specs.declared.Header.{Header}
use Rattle.header.specs.Header.{header}
use Rattle.sheet.specs.Sheet.{Keeps, FirstLine}
use Rattle.sheet.specs.Rules.{room_rules, open_rules, line_rules, sheet_rules}
use Rattle.sheet.specs.Read.{ReadOutcome}

-- what two lists say together: the first refuses, or it is silent and the second speaks
says_cases : (rs ss : List Rule) (v : Verdict) → Says (rs ++ ss) v → Says rs v ⊎ (Says rs done × Says ss v)
unfolding Says
says_cases [] ss v s = inr (says_none, s)
says_cases (r ∷ rs) ss v (inl s) = inl (inl s)
says_cases (r ∷ rs) ss v (inr s) = elim (says_cases rs ss v s.1) [
  | inl t ↦ inl (inr (s.0, t))
  | inr t ↦ inr (inr (s.0, t.0), t.1)
]

module _ (forms : Header → List Form) (s : List ℕ) where
  -- the rules of lines from k on
  lines_near : (h : Header) (line k count : ℕ) → Says (line_rules forms s h k count) (refused 9 line 0)
      → line ≤ k + count
  unfolding Says line_rules
  lines_near h line k zero (inl t) = let e : line ≡ k = (let q = t.1 in cc) in omega arith
  lines_near h line k zero (inr t) = absurd (refused_not_done 9 line 0 t.1)
  lines_near h line k (suc count) (inl t) = let e : line ≡ k = (let q = t.1 in cc) in omega arith
  lines_near h line k (suc count) (inr t) = omega (arith, lines_near h line (suc k) count t.1)

  -- the rules of line 1 and of the limits
  opened_near : (h : Header) (line : ℕ) → Says (open_rules forms s h) (refused 9 line 0) → line ≤ 132
  unfolding Says open_rules
  opened_near h line (inl u) = absurd (let q = u.1 in let e : ◌≡◌ {A = ℕ} 9 10 = cc in omega arith)
  opened_near h line (inr u) = elim u.1 [
    | inl v ↦ let e : line ≡ 1 = (let q = v.1 in cc) in omega arith
    | inr v ↦ absurd (without_says 9 _
        (without_both 9 _ _ (limits_without h.r h.n h.p) (size_without bytes h.r h.n)) line 0 v.1)
  ]

  opened_limits : (h : Header) → Says (open_rules forms s h) done → Limits h.r h.n h.p
  unfolding open_rules
  opened_limits h u =
      let inner = says_tail _ _ (says_tail _ _ u) in
      limits_of h.r h.n h.p (says_split (limit_rules h.r h.n h.p) _ inner).0

  module _ (few : (h : Header) → Limits h.r h.n h.p → length (forms h) ≤ 130) (rooms : List (List ℕ)) where
    -- all rules of a reader
    rules_near : (h : Header) (line : ℕ) → Says (sheet_rules forms s rooms h) (refused 9 line 0) → line ≤ 132
    unfolding sheet_rules room_rules
    rules_near h line said = elim (says_cases (room_rules rooms ++ open_rules forms s h) _ _ said) [
      | inl t ↦ elim (says_cases (room_rules rooms) (open_rules forms s h) _ t) [
        | inl u ↦ absurd (without_says 9 _ (length_without words 1 (replicate (length rooms) 2048) rooms) line 0 u)
        | inr u ↦ opened_near h line u.1
      ]
      | inr t ↦
          let passed = (says_split (room_rules rooms) (open_rules forms s h) t.0).1 in
          omega (arith, few h (opened_limits h passed), lines_near h line 2 (length (forms h) - 1) t.1)
    ]

    -- whether the text has a header or not
    pub broken_near : (decides : (g h : Header) → Keeps forms s g 1 → Keeps forms s h 1 → g ≡ h)
        {lengths : Header → List ℕ} {line : ℕ} {after : List (List ℕ)}
        → ReadOutcome forms lengths s rooms (Err (FormRefusal line)) after → line ≤ 132
    unfolding refusal_verdict
    broken_near decides {line = line} f = elim (dec_lt line 133) [
      | yes l ↦ omega arith
      | no q ↦
          let near : (h : Header) → FirstLine forms s h → line ≤ 132 = λ h l. rules_near h line (f.verdict h l) in
          let far : ¬ (line ≤ 132) = λ l. q (omega arith) in
          let none : (h : Header) → ¬ Keeps forms s h 1 =
          λ h k. far (near h (record { same = λ g l. decides g h l k })) in
          absurd (far (near (header System 0 0 0) (record { same = λ g k. absurd (none g k) })))
    ]
