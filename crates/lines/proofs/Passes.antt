-- Lines passed, and the first that is broken: one line; no line; lines behind lines; a line whose head was passed.
-- Assumes nothing.
use Rattle.std.proofs.Common.{Result, Ok, Err, ◌≡◌, refl, sym, ap, subst, ◌∙◌, List, [], ◌∷◌, ◌++◌, append_assoc}
use Rattle.std.proofs.Common.{append-nil, ℕ, suc, ◌+◌, ◌<◌, ◌≤◌, arith, ℤ, length, take, drop, length-append}
use mathlib.Core.List.{append_cancel_left}
use Rattle.std.proofs.Math.Seq.{take-append-le, take-append-add}
use Rattle.text.specs.Lines.{Form, Within, items, line, lines, total, Ranged, Begins}
use Rattle.text.proofs.Lines.{Agree, begins_append, begins_rest, begins_ext, begins_as}
use Rattle.cursor.specs.declared.Cursor.{Cursor}
use Rattle.lines.specs.declared.Numbers.{Numbers}
use Rattle.lines.specs.declared.BrokenLine.{BrokenLine}
use Rattle.lines.specs.Steps.{nth, form_of, Placed, Past, Passed, Breaks, Read}

-- a text that begins with one line
begins_one
    : (s : List ℕ) (f : Form) (z : ℕ → ℤ) (i : ℕ) (t : List ℕ)
    → ((j : ℕ) → j < f.count → Within f.low f.high (z (i + j))) → s ≡ line f z i ++ t → Begins s (f ∷ []) z i t
unfolding lines Ranged
begins_one s f z i t r e = record {
  ranged = (r, tt);
  text = e ∙ ap (λ (u : List ℕ). u ++ t) (sym (append-nil (line f z i)));
}

one_text : {s : List ℕ} {f : Form} {z : ℕ → ℤ} {i : ℕ} {t : List ℕ} → Begins s (f ∷ []) z i t → s ≡ line f z i ++ t
unfolding lines
one_text {f = f} {z = z} {i = i} {t = t} b = b.text ∙ ap (λ (u : List ℕ). u ++ t) (append-nil (line f z i))

one_range
    : {s : List ℕ} {f : Form} {z : ℕ → ℤ} {i : ℕ} {t : List ℕ} → Begins s (f ∷ []) z i t
    → (j : ℕ) → j < f.count → Within f.low f.high (z (i + j))
unfolding Ranged
one_range b = b.ranged.0

-- a text begins with no lines
begins_none : (s : List ℕ) (z : ℕ → ℤ) (i : ℕ) → Begins s [] z i s
unfolding lines Ranged
begins_none s z i = record { ranged = tt; text = refl }

module _ (s : List ℕ) (c : Cursor) (f : Form) (i : ℕ) (old new : List ℤ)
    (kept : (k : ℕ) → k < i → nth new k ≡ nth old k)
  where
    -- one line, at whose end d is
    pub line_passed
        : (d : Cursor) → Placed s d → c.byte ≤ d.byte → d.line ≡ c.line + 1 → d.field ≡ 0 → length new ≡ length old
        → ((j : ℕ) → j < f.count → Within f.low f.high (nth new (i + j)))
        → drop c.byte s ≡ line f (nth new) i ++ drop d.byte s → Passed s c (f ∷ []) i old new d
    line_passed d p o l z long r e = record {
      placed = p;
      order = o;
      line = l;
      field = z;
      long = long;
      kept = kept;
      begins = begins_one (drop c.byte s) f (nth new) i (drop d.byte s) r e;
    }

    -- or no such line
    pub line-broken
        : ((z : ℕ → ℤ) (t : List ℕ) → ((j : ℕ) → j < f.count → Within f.low f.high (z (i + j)))
        → drop c.byte s ≡ line f z i ++ t → ⊥)
        → Breaks s c (f ∷ []) i old new (c.line + 1)
    line-broken none = record {
      before = 0;
      line = refl;
      within = omega arith;
      kept = kept;
      rest = drop c.byte s;
      begins = begins_none (drop c.byte s) (nth new) i;
      none = λ z t b. none z t (one_range b) (one_text b);
    }

-- where one line is broken, it does not stand
pub broken-one
    : {s : List ℕ} {c : Cursor} {f : Form} {i : ℕ} {old new : List ℤ} {number : ℕ}
    → Breaks s c (f ∷ []) i old new number → (z : ℕ → ℤ) (t : List ℕ) → Begins (drop c.byte s) (f ∷ []) z i t → ⊥
broken-one {f = f} q z t b =
    let only : 0 ≡ q.before = omega (arith, q.within) in
    let first = ap (λ (k : ℕ). take (suc k) (f ∷ [])) only in
    q.none z t (begins_as first b)

pub Passed-none
    : (s : List ℕ) (c : Cursor) (i : ℕ) (old : List ℤ) → Placed s c → c.field ≡ 0 → Passed s c [] i old old c
Passed-none s c i old p z = record {
  placed = p;
  order = omega arith;
  line = omega arith;
  field = z;
  long = refl;
  kept = λ k h. refl;
  begins = begins_none (drop c.byte s) (nth old) i;
}

-- numbers that are kept below an index are the same before it
agree_kept
    : (mid new : List ℤ) (i m : ℕ) → ((k : ℕ) → k < i + m → nth new k ≡ nth mid k) → Agree (nth mid) (nth new) i m
agree_kept mid new i m kept = record { at = λ j h. sym (kept (i + j) (omega arith)) }

-- other lines behind lines
module _ {s : List ℕ} {c d : Cursor} {fs : List Form} {i : ℕ} {old mid : List ℤ} (p : Passed s c fs i old mid d)
    (gs : List Form) (new : List ℤ) where
  kept_both
      : ((k : ℕ) → k < i + total fs → nth new k ≡ nth mid k) → (k : ℕ) → k < i → nth new k ≡ nth old k
  kept_both kept k h = kept k (omega arith) ∙ p.kept k h

  first_lines
      : ((k : ℕ) → k < i + total fs → nth new k ≡ nth mid k)
      → Begins (drop c.byte s) fs (nth new) i (drop d.byte s)
  first_lines kept = begins_ext (agree_kept mid new i (total fs) kept) p.begins

  pub passed_more : (e : Cursor) → Passed s d gs (i + total fs) mid new e → Passed s c (fs ++ gs) i old new e
  passed_more e q = record {
    placed = q.placed;
    order = omega (arith, p.order, q.order);
    line = omega (arith, p.line, q.line, length-append fs gs);
    field = q.field;
    long = q.long ∙ p.long;
    kept = kept_both q.kept;
    begins = begins_append (first_lines q.kept) q.begins;
  }

  pub passed_broken
      : (number : ℕ) → Breaks s d gs (i + total fs) mid new number → Breaks s c (fs ++ gs) i old new number
  passed_broken number q =
      let k = length fs + q.before in
      let e : suc k ≡ length fs + suc q.before = omega arith in
      let some = take-append-add fs gs q.before in
      let more : take (suc k) (fs ++ gs) ≡ fs ++ take (suc q.before) gs =
      ap (λ (m : ℕ). take m (fs ++ gs)) e ∙ take-append-add fs gs (suc q.before) in
      record {
        before = k;
        line = omega (arith, p.line, q.line);
        within = omega (arith, q.within, length-append fs gs);
        kept = kept_both q.kept;
        rest = q.rest;
        begins = rw some (begins_append (first_lines q.kept) q.begins);
        none = λ z t b. q.none z t (begins_rest (take (suc q.before) gs) p.begins (rw more at b));
      }

-- a line broken among lines that others follow
pub broken_first
    : {s : List ℕ} {c : Cursor} {fs : List Form} {i : ℕ} {old new : List ℤ} {number : ℕ}
    → Breaks s c fs i old new number → (gs : List Form) → Breaks s c (fs ++ gs) i old new number
broken_first {fs = fs} b gs =
    let some = take-append-le b.before fs gs (omega (arith, b.within)) in
    let more = take-append-le (suc b.before) fs gs b.within in
    record {
      before = b.before;
      line = b.line;
      within = omega (arith, b.within, length-append fs gs);
      kept = b.kept;
      rest = b.rest;
      begins = rw some b.begins;
      none = λ z t q. b.none z t (rw more at q);
    }

-- lines read, and then others, whose numbers are stored from the index j on
pub read_more
    : {s : List ℕ} {c d : Cursor} {fs : List Form} {i : ℕ} {old mid : List ℤ} → Passed s c fs i old mid d
    → (gs : List Form) (new : List ℤ) (j : ℕ) → i + total fs ≡ j → (r : Result Cursor BrokenLine)
    → Read s d gs j mid new r
    → Read s c (fs ++ gs) i old new r
read_more {s} {d = d} {mid = mid} p gs new j e (Ok b) q =
    passed_more p gs new b (subst (λ (k : ℕ). Passed s d gs k mid new b) (sym e) q)
read_more {s} {d = d} {mid = mid} p gs new j e (Err b) q =
    passed_broken p gs new b.line (subst (λ (k : ℕ). Breaks s d gs k mid new b.line) (sym e) q)

-- a line whose first bytes h were passed, and whose head has the bytes `tail` behind them
module _ {s : List ℕ} {c d : Cursor} {h : List ℕ} (p : Past s c h d) (n : Numbers) (tail whole : List ℕ)
    (e : whole ≡ h ++ tail) (i : ℕ) (old new : List ℤ) where
  cut : (z : ℕ → ℤ) (t : List ℕ) → line (form_of n whole) z i ++ t ≡ h ++ (line (form_of n tail) z i ++ t)
  cut z t = rw e (simp append_assoc)

  pub headed_read
      : (r : Result Cursor BrokenLine) → Read s d (form_of n tail ∷ []) i old new r
      → Read s c (form_of n whole ∷ []) i old new r
  headed_read (Ok b) q =
      line_passed s c (form_of n whole) i old new q.kept b q.placed (omega (arith, p.byte, q.order))
      (omega (arith, q.line, p.line)) q.field q.long (one_range q.begins)
      (p.text ∙ ap (λ (t : List ℕ). h ++ t) (one_text q.begins) ∙ sym (cut (nth new) (drop b.byte s)))
  headed_read (Err b) q =
      let same : c.line + 1 ≡ b.line = omega (arith, q.line, q.within, p.line) in
      subst (λ (k : ℕ). Breaks s c (form_of n whole ∷ []) i old new k) same
      (line-broken s c (form_of n whole) i old new q.kept (λ z t r w.
      let behind = append_cancel_left h _ _ (sym p.text ∙ w ∙ cut z t) in
      broken-one q z t (begins_one (drop d.byte s) (form_of n tail) z i t r behind)))

-- no line whose head begins with h stands where h does not
pub headless_broken
    : (s : List ℕ) (c : Cursor) (n : Numbers) (h tail whole : List ℕ) → whole ≡ h ++ tail → (i : ℕ) (old : List ℤ)
    → ((t : List ℕ) → drop c.byte s ≡ h ++ t → ⊥) → Breaks s c (form_of n whole ∷ []) i old old (c.line + 1)
headless_broken s c n h tail whole e i old miss =
    let f = form_of n whole in
    line-broken s c f i old old (λ k l. refl) (λ z t r q.
    let rest = items z i f.count ++ (10 ∷ []) in
    miss (tail ++ (rest ++ t)) (q ∙ append_assoc whole rest t ∙ rw e (append_assoc h tail (rest ++ t))))
