-- The equation job on words: what an accepted job is, and what it leaves.
-- Assumes nothing.
use Rattle.std.specs.Prelude.{◌≡◌, ◌≢◌, List, ℕ, ◌+◌, ◌*◌, ◌<◌, ◌≤◌, length, get_or}
use Rattle.algebra.specs.Numbers.{Prime}
use Rattle.algebra.specs.Meaning.{EquationSeries}
use Rattle.algebra.specs.Companion.{Companion}
use Rattle.residue.specs.declared.Modulus.{Modulus}
use Rattle.residue.specs.Sums.{IsModulus}
use Rattle.room.specs.Room.{Zeros}
use Rattle.matrix.specs.Layout.{Below}
use Rattle.ladder.specs.Layout.{matrix_of, side_of, value_of}
use Rattle.ladder.specs.Newton.{Started, StartsWithOne}
use Rattle.equation.specs.Translation.{FirstBelow, coefficient}

-- the read buffers of an accepted job, and its room
pub record Ready (q : Modulus) (r n : ℕ) (a b start work : List ℕ) : Type 0 where
  pub modulus : IsModulus q q.p
  pub prime : Prime q.p
  pub order_least : 1 ≤ r
  pub order : r ≤ 8
  pub terms_least : 1 ≤ n
  pub terms : n ≤ 4096
  pub few : n ≤ q.p
  pub one : length a ≡ (r + 1) * n
  pub two : length b ≡ n
  pub three : length start ≡ r
  pub room : 16 * (r * r * n) ≤ length work
  pub below_one : FirstBelow q.p ((r + 1) * n) a
  pub below_two : FirstBelow q.p n b
  pub below_three : Below q.p start
  pub lead : get_or a (r * n) 0 ≢ 0

-- the room of the Newton solver: the equation's matrix and right side, the identity as the first term of Y and of Z,
-- and the start
pub record Placed (q : Modulus) (r n : ℕ) (a b start w : List ℕ) : Type 0 where
  pub started : Started q r n w
  pub identity : StartsWithOne r n (r * r * n) w
  pub companion
      : Companion q.p r n (coefficient a n) (λ k. get_or b k 0) (matrix_of r n (r * r * n) w)
      (side_of r n (r * r * n) w)
  pub starts : (i : ℕ) → i < r → value_of r n (r * r * n) w 0 i ≡ get_or start i 0

-- the job is solved: y has become the series z, and the room zeros
pub record Ran (p r n : ℕ) (a b start z room : List ℕ) : Type 0 where
  pub below : FirstBelow p n z
  pub series
      : EquationSeries p r n (coefficient a n) (λ k. get_or b k 0) (λ i. get_or start i 0) (λ k. get_or z k 0)
  pub cleared : Zeros room
