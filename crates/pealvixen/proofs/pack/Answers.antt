-- `pealvixen::pack` meets its contract: the number and the places of the answer, joined. They have room there, since a
-- first place fits a byte, but for a broken line's number, which is small.
-- Assumes nothing.
use Rattle.std.proofs.Common.{◌≡◌, refl, sym, ap, ◌∙◌, ℕ, ◌<◌, ◌≤◌, arith, Result, Err}
use Rattle.job.specs.declared.Refusal.{Refusal}
use Rattle.job.specs.declared.Refusal.TheVariants.{Form}
use Rattle.job.specs.Refusal.{Answer, Verdict, done, refused, refusal_verdict, verdict_of}
use Rattle.job.proofs.Unique.{refusal_same}
use Rattle.result.specs.declared.Places.{Places}
use Rattle.result.specs.Print.{places_of}
use Rattle.pealvixen.specs.Packing.{packed}
use Rattle.pealvixen.specs.Steps.{LineFits}
use Rattle.pealvixen.proofs.pack.Goals as goal

packed_places : (v : Verdict) → let q = places_of v in packed v ≡ packed (refused q.0 q.1 q.2)
unfolding places_of packed
packed_places done = refl
packed_places (refused number first second) = refl

-- a first place is below 2^24
first_near
    : {A : Type 0} {answer : Result A Refusal} {refusal : Refusal} {told : Answer} {first : ℕ} → LineFits answer
    → answer ≡ Err refusal → told ≡ Err refusal
    → ((most : ℕ) → 256 ≤ most → ((line : ℕ) → told ≡ Err (Form line) → line < most) → first < most)
    → first < 16777216
first_near {refusal = refusal} fits is same near =
    near 16777216 (omega arith)
    (λ line e.
    let verdicts = ap (λ (a : Answer). verdict_of a) (sym same ∙ e) in
    fits.small line (is ∙ ap Err (refusal_same refusal (Form line) verdicts)))

pub join-requires : goal.join-requires
join-requires g c = first_near c.requires c.in-Err.is refl c.place-number.ensures.near

pub returns-in-Ok : goal.returns-in-Ok
unfolding packed
returns-in-Ok g c = rw c.in-Ok.is

pub returns-in-Err : goal.returns-in-Err
returns-in-Err g c =
    let places = ap (λ (q : Places). packed (refused q.0 q.1 q.2)) c.place-number.ensures.is in
    rw c.in-Err.is (c.join.ensures ∙ places ∙ sym (packed_places (refusal_verdict c.in-Err.refusal)))
