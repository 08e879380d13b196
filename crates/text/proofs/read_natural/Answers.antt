-- `text::read_natural` meets its contract. The loop's invariant: what is read so far are the digits of n, and whatever
-- number the whole field writes, the rest of the field takes n there.
-- Assumes nothing.
use Rattle.std.proofs.Common.{◌≡◌, ℕ, get_or, ◌*◌, ◌-◌, ◌≤◌, ◌∷◌, refl, ◌∙◌, [], append-nil, suc, ◌<◌, ◌+◌, arith}
use Rattle.std.proofs.Common.{add-one, length, drop, drop_of_length-le}
use Rattle.std.proofs.lemmas.Slice.Eq.{starts_is}
use Rattle.std.proofs.lemmas.Bool.Decides.{Decides-eqb}
use Rattle.text.specs.Decimal.{digits}
use Rattle.text.proofs.Digits.{spelled, Ahead, ahead, Goes-step, take_digit, no_zero, lead, counted}
use Rattle.text.proofs.read_natural.Goals as goal
use Rattle.text.proofs.read_natural.Goals.{In-loop-b}
use Rattle.text.proofs.read_natural.Goals.{else-f-gt1-via-then-f-gt1+else-starts_with, else-f-gt1-via-else-f-gt1}

pub returns-then-starts_with : goal.returns-then-starts_with
returns-then-starts_with c = λ x h e.
    let starts = starts_is Decides-eqb c.args.f.now (48 ∷ []) _ c.starts_with.ensures.value in
    no_zero c.args.f.now x (omega arith) (starts.0 c.if-starts_with.true) e

pub loop-b-init : goal.loop-b-init
loop-b-init c =
    record {
      most = omega arith;
      none = λ e. refl;
      read = λ h. absurd (omega arith);
      goes = λ x e. spelled c.args.f.now x e;
    }

-- what a number's digits would have at this byte
next : (c : In-loop-b) (x : ℕ) → c.args.f.now ≡ digits x
    → Ahead c.loop-b.b-index c.loop-b.n (get_or c.args.f.now c.loop-b.b-index 0) x
next c x e = ahead c.args.f.now c.loop-b.b-index c.loop-b-test.true c.loop-b.n _ x refl (c.loop-b.invariant.goes x e)

pub returns-then-not-is_ascii_digit : goal.returns-then-not-is_ascii_digit
returns-then-not-is_ascii_digit c = λ x h e.
    let known = next (goal.at.returns-then-not-is_ascii_digit c).In-loop-b x e in
    omega (arith, known.low, known.high, c.if-not-is_ascii_digit.ensures.cases)

pub returns-in_err-checked_mul : goal.returns-in_err-checked_mul
returns-in_err-checked_mul c =
    rw c.from_residual.ensures (λ x h e.
    let known = next (goal.at.returns-in_err-checked_mul c).In-loop-b x e in
    omega (arith, known.most, c.in_err-checked_mul.ensures))

pub returns-in_err-n : goal.returns-in_err-n
returns-in_err-n c =
    rw c.from_residual-in_err-n.ensures (λ x h e.
    let known = next (goal.at.returns-in_err-n c).In-loop-b x e in
    omega (arith, known.most, c.in_err-n.ensures, c.in_ok-checked_mul.ensures))

pub returns-then-n-most : goal.returns-then-n-most
returns-then-n-most c = λ x h e.
    let known = next (goal.at.returns-then-n-most c).In-loop-b x e in
    omega (arith, known.most, c.in_ok-n.ensures, c.in_ok-checked_mul.ensures)

pub loop-b-preserved : goal.loop-b-preserved
loop-b-preserved c =
    let l = c.loop-b in
    let i = l.b-index in
    let f = c.args.f.now in
    let h : i < length f = c.loop-b-test.true in
    let e : i + 1 ≡ suc i = add-one i in
    let above : 0 < i → 0 < l.n = elim c.else-f-gt1.branch [
      | else-f-gt1-via-then-f-gt1+else-starts_with w ↦
          let starts = starts_is Decides-eqb f (48 ∷ []) _ w.starts_with.ensures.value in
          lead f i l.n (λ t q. let h = starts.1 t q in absurd (cc w.if-starts_with.false)) l.invariant.read
      | else-f-gt1-via-else-f-gt1 w ↦ λ p. omega (arith, w.if-f-gt1.false)
    ] in
    let b = get_or f i 0 in
    let digit = c.if-not-is_ascii_digit.ensures.cases in
    let low : 48 ≤ b = omega (arith, digit) in
    let high : b ≤ 57 = omega (arith, digit) in
    let n : c.in_ok-n.n ≡ l.n * 10 + (b - 48) = omega (arith, c.in_ok-n.ensures, c.in_ok-checked_mul.ensures) in
    record {
      most = omega arith;
      none = λ z. absurd (omega arith);
      read = λ z. rw (e, n) (take_digit f i h l.n above l.invariant.none low high l.invariant.read);
      goes = λ x q. rw (e, n) (Goes-step f i h l.n x (l.invariant.goes x q)).3;
    }

pub returns : goal.returns
returns c =
    let f = c.args.f.now in
    let l = c.loop-b in
    let none : drop l.b-index f ≡ [] = drop_of_length-le f {i = l.b-index} (omega arith) in
    let all : 0 < length f → f ≡ digits l.n = λ h. l.invariant.read (omega arith) ∙ rw none (append-nil (digits l.n)) in
    rw (c.then_some.ensures, c.is_empty.ensures) (counted f c.args.most l.n all l.invariant.most)
