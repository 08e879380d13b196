-- Halving and Newton agree. The contracts of `halving::system` and `newton::system` state the outcome of one call, and
-- so do those of `equation::by_halving` and `equation::by_newton`; and a call has one outcome (job, `outcome_unique`).
-- So both methods give the same answer and leave the same words in every buffer.
-- Assumes nothing.
use Rattle.std.proofs.Common.{◌≡◌, ap, List, ℕ}
use Rattle.job.specs.Refusal.{Answer}
use Rattle.job.specs.declared.Kind.{Kind}
use Rattle.job.specs.declared.Kind.TheVariants.{System, Equation}
use Rattle.job.specs.Job.{Buffers, buffers, words}
use Rattle.job.specs.Outcome.{Outcome}
use Rattle.job.proofs.Unique.{outcome_unique}
use Rattle.refusal.specs.Checked.{job_of}

-- two answers to a call whose buffers 1 to 3 are only read, and the words that they leave in the buffers 4 and 5
pub methods_agree : {kind : Kind} {r n p : ℕ} {lent : Buffers} {one two three y y' work work' : List ℕ} {x x' : Answer}
    → Outcome words (job_of kind r n p lent) x (buffers one two three y work)
    → Outcome words (job_of kind r n p lent) x' (buffers one two three y' work')
    → (x ≡ x') × (y ≡ y') × (work ≡ work')
methods_agree f g =
    let same = outcome_unique f g in
    (same.0, ap (λ s. s.four) same.1, ap (λ s. s.five) same.1)

-- `halving::system` and `newton::system`
pub systems_agree : {r n p : ℕ} {a b v y y₁ y₂ work work₁ work₂ : List ℕ} {x₁ x₂ : Answer}
    → Outcome words (job_of System r n p (buffers a b v y work)) x₁ (buffers a b v y₁ work₁)
    → Outcome words (job_of System r n p (buffers a b v y work)) x₂ (buffers a b v y₂ work₂)
    → (x₁ ≡ x₂) × (y₁ ≡ y₂) × (work₁ ≡ work₂)
systems_agree f g = methods_agree f g

-- `by_halving` and `by_newton`
pub equations_agree : {r n p : ℕ} {a b start y y₁ y₂ work work₁ work₂ : List ℕ} {x₁ x₂ : Answer}
    → Outcome words (job_of Equation r n p (buffers a b start y work)) x₁ (buffers a b start y₁ work₁)
    → Outcome words (job_of Equation r n p (buffers a b start y work)) x₂ (buffers a b start y₂ work₂)
    → (x₁ ≡ x₂) × (y₁ ≡ y₂) × (work₁ ≡ work₂)
equations_agree f g = methods_agree f g
