-- An accepted equation in the room of whichever solver: in a cleared room it can be translated, and the first unknown
-- of its solved system is the series that is meant.
-- Assumes nothing.
use Rattle.std.proofs.Common.{◌≡◌, refl, sym, ap, List, ℕ, ◌+◌, ◌-◌, ◌*◌, ◌%◌, ◌<◌, ◌≤◌, mul-le-mul, arith}
use Rattle.std.proofs.Common.{get_or}
use Rattle.algebra.specs.Meaning.{SystemSeries}
use Rattle.algebra.specs.Companion.{Companion}
use Rattle.algebra.proofs.Meaning.{equation_cong}
use Rattle.algebra.proofs.Companion.{equation_of_companion}
use Rattle.residue.specs.declared.Modulus.{Modulus}
use Rattle.room.specs.Room.{Zeros}
use Rattle.newton.proofs.Sizes.{square_few, size_few, step_few}
use Rattle.halving.proofs.Rows.{rows-le}
use Rattle.equation.specs.Translation.{coefficient}
use Rattle.equation.specs.Equation.{Ready, Ran}

module _ {q : Modulus} {r n : ℕ} {a b start work : List ℕ} (given : Ready q r n a b start work) where
  -- the numbers of words fit
  pub sizes
      : (r * r ≤ 64) × (r * n ≤ 32768) × (r * r * n ≤ 262144) × ((r + 1) * n ≤ 36864) × ((r - 1) * n ≤ 32768)
  sizes =
      let less : r - 1 ≤ 8 = omega (arith, given.order) in (
        square_few given.order,
        mul-le-mul given.order given.terms,
        size_few given.order given.terms,
        step_few given.order given.terms,
        mul-le-mul less given.terms,
      )

  -- a row is no longer than r rows, and these no longer than a matrix
  pub rows_inside : (n ≤ r * n) × (r * n ≤ r * r * n)
  rows_inside =
      let square : 1 * r ≤ r * r = rows-le r 1 r given.order_least in
      (omega (arith, rows-le r 1 n given.order_least), rows-le (r * r) r n (omega arith))

  module _ {m : ℕ → ℕ → ℕ → ℕ} {c u : ℕ → ℕ → ℕ}
      (system : Companion q.p r n (coefficient a n) (λ k. get_or b k 0) m c)
      (series : SystemSeries q.p r n m c (λ i. get_or start i 0) u) where
    pub ready_ran : {y room : List ℕ} → ((k : ℕ) → k < n → get_or y k 0 ≡ u k 0) → ((k : ℕ) → k < n → u k 0 < q.p)
        → Zeros room → Ran q.p r n a b start y room
    ready_ran word small cleared = record {
      below = λ k l. rw (word k l) (small k l);
      series =
          equation_cong (λ i k s l. refl) (λ k l. refl) (λ i s l. refl)
          (λ k l. ap (λ x. x % q.p) (sym (word k l)))
          (equation_of_companion q.p given.modulus.some system series given.order_least);
      cleared = cleared;
    }
