-- Which rule decides before the lines behind line 1 are read: rooms, bytes, line 1, limits.
-- Assumes nothing.
use Rattle.std.proofs.Common.{
  ◌≡◌,
  refl,
  sym,
  subst,
  List,
  [],
  ◌∷◌,
  ◌++◌,
  ℕ,
  ◌<◌,
  ◌≤◌,
  arith,
  pos,
  length,
  Option,
  Some,
  None,
  Result,
  Ok,
  Err,
  ok_or,
}
use Rattle.job.specs.declared.Kind.{Kind}
use Rattle.job.specs.declared.Kind.TheVariants.{System, Basis, Equation}
use Rattle.job.specs.declared.Refusal.{Refusal}
use Rattle.job.specs.declared.Refusal.TheVariants.{Form as FormRefusal, Large}
use Rattle.job.specs.Refusal.{Verdict, done, Says, refusal_verdict}
use Rattle.job.specs.Job.{words, bytes}
use Rattle.job.specs.Rules.{limit_rules, size_rules}
use Rattle.job.proofs.Says.{says_here, says_past}
use Rattle.job.proofs.Accepted.{length_of_lem}
use Rattle.refusal.specs.Checked.{Judged}
use Rattle.text.specs.Lines.{Form, Begins}
use Rattle.text.proofs.Lines.{begins_as}
use Rattle.cursor.specs.declared.Cursor.{Cursor}
use Rattle.job.specs.declared.Header.{Header}
use Rattle.header.specs.Header.{header_form}
use Rattle.sheet.specs.Sheet.{Keeps}
use Rattle.sheet.specs.Rules.{room_rules, open_rules}
use Rattle.header.specs.Opened.{Opens, OpenedAs}
use Rattle.sheet.specs.Parts.{Roomy, Led, Opened, OpenedKinds, Started, Starting}

-- rooms that nothing refuses
pub rooms_roomy : (one two three : List ℕ) → Says (room_rules (one ∷ two ∷ three ∷ [])) done → Roomy one two three
unfolding room_rules
rooms_roomy one two three s = record {
  first = length_of_lem words 1 _ _ s 0 (omega arith) (omega arith);
  second = length_of_lem words 1 _ _ s 1 (omega arith) (omega arith);
  third = length_of_lem words 1 _ _ s 2 (omega arith) (omega arith);
}

-- a header found for one kind
opened_is : (forms : Header → List Form) (lead : Kind → List ℕ) (s : List ℕ) (kind : Kind) (h : Header) (c : Cursor)
    → OpenedAs kind (lead kind) s (Some (h, c)) → Opened forms lead s (Some (h, c))
opened_is forms lead s kind h c o = subst (λ (k : Kind). Opens (lead k) s h c) (sym o.0) o.1

-- line 1 is the header behind the fields that lead
module _ {forms : Header → List Form} {lead : Kind → List ℕ} (led : Led forms lead) (s : List ℕ) where
  -- line 1 of a sheet, and a header there
  keeps_header : {h : Header} (k : Keeps forms s h 1)
      → Begins s (header_form (lead h.kind) h ∷ []) k.numbers 0 k.rest
  keeps_header {h} k = begins_as (led.first h) k.begins

  pub opens_keeps : {h : Header} {c : Cursor} → Opens (lead h.kind) s h c → Keeps forms s h 1
  opens_keeps {h} o = record {
    short = o.short;
    numbers = λ k. pos 0;
    rest = _;
    begins = begins_as (sym (led.first h)) (o.begins (λ k. pos 0));
  }

  -- a header of the last kind, or none of any
  opened_last : OpenedAs System (lead System) s None → OpenedAs Basis (lead Basis) s None
      → (r : Option (Header × Cursor)) → OpenedAs Equation (lead Equation) s r → Opened forms lead s r
  opened_last a b (Some (h, c)) o = opened_is forms lead s Equation h c o
  opened_last a b None o = λ h k. none h k h.kind refl
    where
      none : (h : Header) → Keeps forms s h 1 → (kind : Kind) → h.kind ≡ kind → ⊥
      none h k System e = a h k.numbers k.rest k.short (rw e at (keeps_header k))
      none h k Basis e = b h k.numbers k.rest k.short (rw e at (keeps_header k))
      none h k Equation e = o h k.numbers k.rest k.short (rw e at (keeps_header k))

  -- behind a header
  module _ (short : length s ≤ 65536) {h : Header} {c : Cursor} (o : Opens (lead h.kind) s h c) where
    opens_say : (v : Verdict) → Says (limit_rules h.r h.n h.p ++ size_rules bytes h.r h.n) v
        → Says (open_rules forms s h) v
    unfolding open_rules
    opens_say v j = says_past _ _ _ (λ q. omega arith) (says_past _ _ _ (λ q. q (opens_keeps o)) j)

    limits_stop
        : {x : Refusal} → Judged (limit_rules h.r h.n h.p ++ size_rules bytes h.r h.n) (Err x)
        → Started forms lead s (Err x)
    limits_stop {x} j = λ g l.
        subst (λ (k : Header). Says (open_rules forms s k) (refusal_verdict x)) (l.same h (opens_keeps o))
        (opens_say (refusal_verdict x) j.says)

    limits_done
        : Judged (limit_rules h.r h.n h.p ++ size_rules bytes h.r h.n) (Ok tt) → Started forms lead s (Ok (h, c))
    limits_done j = record { opens = o; says = opens_say done j.says }

-- the header of the first kind that has one, or none, for every sort with these first fields
module _ {system basis equation s : List ℕ} where
  module _ {h : Header} {c : Cursor} where
    pub kinds_first : OpenedAs System system s (Some (h, c)) → OpenedKinds system basis equation s (Some (h, c))
    kinds_first o = record { opened = λ forms lead led x y z. opened_is forms lead s System h c (rw x o) }

    pub kinds_second : OpenedAs Basis basis s (Some (h, c)) → OpenedKinds system basis equation s (Some (h, c))
    kinds_second o = record { opened = λ forms lead led x y z. opened_is forms lead s Basis h c (rw y o) }

  pub kinds_last : {r : Option (Header × Cursor)} → OpenedAs System system s None → OpenedAs Basis basis s None
      → OpenedAs Equation equation s r → OpenedKinds system basis equation s r
  kinds_last {r} a b o =
      record { opened = λ forms lead led x y z. opened_last led s (rw x a) (rw y b) r (rw z o) }

-- what line 1 and its limits say, of one sort
pub kinds_started
    : {forms : Header → List Form} {lead : Kind → List ℕ} {s : List ℕ} {o : Option (Header × Cursor)}
    {x : Result (Header × Cursor) Refusal} → Led forms lead
    → OpenedKinds (lead System) (lead Basis) (lead Equation) s o → Starting s o x → Started forms lead s x
kinds_started led opened begun = begun.started _ _ led (opened.opened _ _ led refl refl refl)

-- too many bytes
pub start_large : {forms : Header → List Form} (lead : Kind → List ℕ) {s : List ℕ} → 65536 < length s
    → Started forms lead s (Err Large)
unfolding open_rules refusal_verdict
start_large lead h = λ g l. says_here _ _ h

-- the opening of line 1, where there is one
pub opening_is : (o : Option (Header × Cursor)) (x : Refusal) {q : Header × Cursor} → ok_or o x ≡ Ok q → o ≡ Some q
opening_is (Some r) x e = cc
opening_is None x e = cc

-- line 1, limits, for every sort
module _ {s : List ℕ} (short : length s ≤ 65536) where
  pub start_broken : (o : Option (Header × Cursor)) {x : Refusal} → ok_or o (FormRefusal 1) ≡ Err x
      → Starting s o (Err x)
  unfolding open_rules refusal_verdict
  start_broken (Some q) e = cc
  start_broken None {x} e =
      let q : FormRefusal 1 ≡ x = cc in
      rw (← q) (record {
        started = λ forms lead led x g l. says_past _ _ _ (λ q. omega arith) (says_here _ _ (x g));
      })

  module _ {h : Header} {c : Cursor} where
    pub start_limits
        : {x : Refusal} → Judged (limit_rules h.r h.n h.p ++ size_rules bytes h.r h.n) (Err x)
        → Starting s (Some (h, c)) (Err x)
    start_limits j = record { started = λ forms lead led x. limits_stop led s short x j }

    pub start_at
        : Judged (limit_rules h.r h.n h.p ++ size_rules bytes h.r h.n) (Ok tt)
        → Starting s (Some (h, c)) (Ok (h, c))
    start_at j = record { started = λ forms lead led x. limits_done led s short x j }
