-- Which rule of the remaining lines decides: a sheet is silent at each; of lines read behind line 1, the first that is
-- broken; and where all stand and the text goes on, the line behind them.
-- Assumes nothing.
use Rattle.std.proofs.Common.{
  ◌≡◌,
  sym,
  ap,
  subst,
  List,
  [],
  ◌∷◌,
  ℕ,
  zero,
  suc,
  ◌+◌,
  ◌-◌,
  ◌<◌,
  ◌≤◌,
  arith,
  ℤ,
  length,
  take,
  drop,
  take-append-drop,
  drop_of_length-le,
  length-drop,
  take-take,
  Result,
  Ok,
  Err,
}
use lib.Seq.{take-length}
use Rattle.job.specs.Refusal.{done, refused, Says, refusal_verdict}
use Rattle.job.proofs.Says.{says_none, says_here, says_past}
use Rattle.text.specs.Lines.{Form, total, Begins}
use Rattle.text.proofs.Lines.{begins_append, begins_split, begins_rest, begins_same, begins_as}
use Rattle.cursor.specs.declared.Cursor.{Cursor}
use Rattle.job.specs.declared.Refusal.TheVariants.{Form as FormRefusal}
use Rattle.lines.specs.Steps.{nth, Passed, Breaks, Read}
use Rattle.lines.specs.declared.BrokenLine.{BrokenLine}
use Rattle.job.specs.declared.Header.{Header}
use Rattle.header.specs.Header.{header_form}
use Rattle.sheet.specs.Sheet.{Sheet, Keeps}
use Rattle.sheet.specs.Rules.{line_rules}
use Rattle.sheet.specs.Parts.{Inside, Closing}
use Rattle.header.specs.Opened.{Opens}

-- a text that begins with some lines begins with the first of them
begins_first : {s t : List ℕ} {z : ℕ → ℤ} {i : ℕ} (k : ℕ) (fs : List Form) → Begins s fs z i t
    → (u : List ℕ) × Begins s (take k fs) z i u
begins_first k fs b = (_, begins_split (take k fs) (drop k fs) (begins_as (sym (take-append-drop k fs)) b))

module _ (forms : Header → List Form) (s : List ℕ) (h : Header) where
  -- the rules from line k on, of which m are silent
  lines_say : (k count m : ℕ) → m < count → ((j : ℕ) → j < m → Keeps forms s h (k + j)) → ¬ Keeps forms s h (k + m)
      → Says (line_rules forms s h k count) (refused 9 (k + m) 0)
  unfolding line_rules
  lines_say k zero m l keeps none = absurd (omega arith)
  lines_say k (suc count) zero l keeps none =
      let e : k + 0 ≡ k = omega arith in
      rw e (says_here _ _ (rw e at none))
  lines_say k (suc count) (suc m) l keeps none =
      let e : k + 0 ≡ k = omega arith in
      let f : (j : ℕ) → suc k + j ≡ k + suc j = λ j. omega arith in
      let here = rw e at (keeps 0 (omega arith)) in
      let rest = lines_say (suc k) count m (omega arith)
      (λ j q. subst (λ (i : ℕ). Keeps forms s h i) (sym (f j)) (keeps (suc j) (omega arith)))
      (subst (λ (i : ℕ). ¬ Keeps forms s h i) (sym (f m)) none) in
      says_past _ _ _ (λ q. q here)
      (subst (λ (i : ℕ). Says (line_rules forms s h (suc k) count) (refused 9 i 0)) (f m) rest)

  -- or all but the last
  lines_extra : (k count : ℕ) → ((j : ℕ) → j < count → Keeps forms s h (k + j)) → ((z : ℕ → ℤ) → ¬ Sheet forms s h z)
      → Says (line_rules forms s h k count) (refused 9 (k + count) 0)
  unfolding line_rules
  lines_extra k zero keeps none = let e : k + 0 ≡ k = omega arith in rw e (says_here _ _ none)
  lines_extra k (suc count) keeps none =
      let e : k + 0 ≡ k = omega arith in
      let f : (j : ℕ) → suc k + j ≡ k + suc j = λ j. omega arith in
      let here = rw e at (keeps 0 (omega arith)) in
      let rest = lines_extra (suc k) count
      (λ j q. subst (λ (i : ℕ). Keeps forms s h i) (sym (f j)) (keeps (suc j) (omega arith))) none in
      says_past _ _ _ (λ q. q here)
      (subst (λ (i : ℕ). Says (line_rules forms s h (suc k) count) (refused 9 i 0)) (f count) rest)

  -- a sheet is refused by none
  pub sheet_says : {z : ℕ → ℤ} → Sheet forms s h z → (k count : ℕ) → Says (line_rules forms s h k count) done
  unfolding line_rules
  sheet_says {z} a k zero = says_past _ _ _ (λ q. q z a) says_none
  sheet_says {z} a k (suc count) = says_past _ _ _ (λ q. q kept) (sheet_says a (suc k) count)
    where
      kept : Keeps forms s h k
      kept =
          let first = begins_first k (forms h) a.whole in
          record { short = a.short; numbers = z; rest = first.0; begins = first.1 }

-- lines fs read behind line 1
module _ (forms : Header → List Form) {lead s : List ℕ} {h : Header} {c : Cursor} {fs : List Form}
    (o : Opens lead s h c) (e : forms h ≡ header_form lead h ∷ fs) where
  -- line 1 and further lines
  joined : {gs : List Form} {z : ℕ → ℤ} {t : List ℕ} → Begins (drop c.byte s) gs z 0 t
      → Begins s (header_form lead h ∷ gs) z 0 t
  unfolding total
  joined {z = z} b = begins_append (o.begins z) b

  behind : (gs : List Form) {z : ℕ → ℤ} {t : List ℕ} → Begins s (header_form lead h ∷ gs) z 0 t
      → Begins (drop c.byte s) gs z 0 t
  unfolding total
  behind gs {z} b = begins_rest gs (o.begins z) b

  keeps : (k m : ℕ) → k ≤ m → (z : ℕ → ℤ) (t : List ℕ) → Begins (drop c.byte s) (take m fs) z 0 t
      → Keeps forms s h (suc k)
  keeps k m l z t b =
      let some = begins_first k (take m fs) b in
      let begins = joined (begins_as (take-take k m fs l) some.1) in
      record { short = o.short; numbers = z; rest = some.0; begins = rw e begins }

  pub broken-says : {old new : List ℤ} {number : ℕ} → Breaks s c fs 0 old new number
      → Says (line_rules forms s h 2 (length (forms h) - 1)) (refused 9 number 0)
  broken-says {new = new} {number = number} b =
      let m = b.before in
      let count : length (forms h) - 1 ≡ length fs = rw e (omega arith) in
      let place : 2 + m ≡ number = omega (arith, b.line, o.line) in
      let none : ¬ Keeps forms s h (2 + m) = λ k.
      let j : 2 + m ≡ suc (suc m) = omega arith in
      b.none k.numbers k.rest (behind (take (suc m) fs) (rw (j, e) at k.begins)) in
      rw (count, sym place)
      (lines_say forms s h 2 (length fs) m b.within
      (λ j l. let q : suc (suc j) ≡ 2 + j = omega arith in
      subst (λ (i : ℕ). Keeps forms s h i) q (keeps (suc j) m l (nth new) b.rest b.begins)) none)

  module _ {old new : List ℤ} {d : Cursor} (p : Passed s c fs 0 old new d) where
    extra_says : d.byte < length s
        → Says (line_rules forms s h 2 (length (forms h) - 1)) (refused 9 (d.line + 1) 0)
    extra_says l =
        let count : length (forms h) - 1 ≡ length fs = rw e (omega arith) in
        let place : 2 + length fs ≡ d.line + 1 = omega (arith, p.line, o.line) in
        let all = begins_as (sym (take-length fs)) p.begins in
        rw (count, sym place)
        (lines_extra forms s h 2 (length fs)
        (λ j q. let f : suc (suc j) ≡ 2 + j = omega arith in
        subst (λ (i : ℕ). Keeps forms s h i) f (keeps (suc j) (length fs) q (nth new) (drop d.byte s) all))
        (λ z a.
        let rest = (begins_same p.begins (behind fs (rw e at a.whole))).1 in
        omega (arith, ap length rest, length-drop d.byte s)))

    whole_sheet : length s ≤ d.byte → Sheet forms s h (nth new)
    whole_sheet l =
        let none : drop d.byte s ≡ [] = drop_of_length-le s {i = d.byte} l in
        record { short = o.short; whole = rw e (joined (rw none at p.begins)) }

-- what was read is within the text
pub read_inside : (s : List ℕ) (c : Cursor) (fs : List Form) (old new : List ℤ) (t : Result Cursor BrokenLine)
    → Read s c fs 0 old new t → Inside s t
read_inside s c fs old new (Ok d) r = r.placed
read_inside s c fs old new (Err b) r = tt

-- what was read, for every sort
module _ {s : List ℕ} {t : Result Cursor BrokenLine} where
  pub close_extra : {d : Cursor} → t ≡ Ok d → d.byte < length s → Closing s t (Err (FormRefusal (d.line + 1)))
  unfolding refusal_verdict
  close_extra e l = record {
    bodied = λ forms lead h c fs old new o q r.
        extra_says forms o q (subst (λ (x : Result Cursor BrokenLine). Read s c fs 0 old new x) e r) l;
  }

  pub close_whole : {d : Cursor} → t ≡ Ok d → length s ≤ d.byte → Closing s t (Ok tt)
  close_whole e l = record {
    bodied = λ forms lead h c fs old new o q r.
        whole_sheet forms o q (subst (λ (x : Result Cursor BrokenLine). Read s c fs 0 old new x) e r) l;
  }

  pub close_broken : {b : BrokenLine} → t ≡ Err b → Closing s t (Err (FormRefusal b.line))
  unfolding refusal_verdict
  close_broken e = record {
    bodied = λ forms lead h c fs old new o q r.
        broken-says forms o q (subst (λ (x : Result Cursor BrokenLine). Read s c fs 0 old new x) e r);
  }
