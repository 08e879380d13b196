-- Products of order and terms within their limits, and the bound that these give for the lengths of a job.
-- Assumes nothing.
use Rattle.std.proofs.Common.{◌≡◌, List, [], ◌∷◌, ℕ, zero, suc, ◌+◌, ◌*◌, ◌≤◌, mul-le-mul, arith, get_or}
use Rattle.job.specs.declared.Kind.{Kind}
use Rattle.job.specs.declared.Kind.TheVariants.{System, Basis, Equation}
use Rattle.job.specs.Job.{carried, room_of, lengths_of}
use Rattle.refusal.specs.Checked.{Bounded, Measured}

pub square-small : {r : ℕ} → r ≤ 8 → r * r ≤ 64
square-small order = mul-le-mul order order

module _ {r n : ℕ} (order : r ≤ 8) (terms : n ≤ 4096) where
  pub matrix-small : r * r * n ≤ 262144
  matrix-small = mul-le-mul (square-small order) terms

  pub vector_small : r * n ≤ 32768
  vector_small = mul-le-mul order terms

  pub rows-small : (r + 1) * n ≤ 36864
  rows-small =
      let more : r + 1 ≤ 9 = omega arith in
      mul-le-mul more terms

-- every number of a list is within m
abbrev pub Within : ℕ → List ℕ → Type 0
Within m [] = Unit {0}
Within m (x ∷ l) = (x ≤ m) × Within m l

within_at : (m : ℕ) (l : List ℕ) → Within m l → (k : ℕ) → get_or l k 0 ≤ m
within_at m [] w k = omega arith
within_at m (x ∷ l) w zero = w.0
within_at m (x ∷ l) w (suc k) = within_at m l w.1 k

pub bounded_of : (l : List ℕ) → Within 4194304 l → Bounded l
bounded_of l w = record { within = within_at 4194304 l w }

lengths_within : (kind : Kind) (r n : ℕ) → r ≤ 8 → n ≤ 4096 → Within 4194304 (lengths_of kind r n)
unfolding lengths_of carried room_of
lengths_within System r n order terms = omega (arith, matrix-small order terms, vector_small order terms)
lengths_within Basis r n order terms = omega (arith, matrix-small order terms, square-small order)
lengths_within Equation r n order terms = omega (arith, matrix-small order terms, rows-small order terms)

-- the lengths of a job are bounded by the limits of order and terms
pub measured : (kind : Kind) (r n : ℕ) (l : List ℕ) → r ≤ 8 → n ≤ 4096 → l ≡ lengths_of kind r n → Measured kind r n l
measured kind r n l order terms e =
    record { exact = e; bounded = rw e (bounded_of (lengths_of kind r n) (lengths_within kind r n order terms)) }
