-- What the functions of the system job take and give.
-- Assumes nothing.
use Rattle.std.specs.Prelude.{◌≡◌, List, ℕ, ◌*◌, ◌<◌, ◌≤◌, length}
use Rattle.algebra.specs.Numbers.{Prime}
use Rattle.algebra.specs.Meaning.{SystemSeries, identity_at}
use Rattle.algebra.specs.Matrix.{Each}
use Rattle.residue.specs.declared.Modulus.{Modulus}
use Rattle.residue.specs.Sums.{IsModulus}
use Rattle.room.specs.Room.{Zeros}
use Rattle.matrix.specs.Layout.{Below}
use Rattle.job.specs.Job.{words, word_at, series_at, matrix_at}
use Rattle.ladder.specs.Layout.{matrix_of, inverse_of, answer_of}
use Rattle.ladder.specs.Newton.{StartsWithOne}

-- A, and a room for it
pub record Placeable (r n : ℕ) (a w : List ℕ) : Type 0 where
  pub order_least : 1 ≤ r
  pub order : r ≤ 8
  pub terms_least : 1 ≤ n
  pub terms : n ≤ 4096
  pub matrix : length a ≡ r * r * n
  pub room : 16 * (r * r * n) ≤ length w

-- A stands in its place, and the identity in those of Y and Z; from place 8 on there are zeros
pub record Placed (r n : ℕ) (a w : List ℕ) : Type 0 where
  pub below : (p : ℕ) → 1 < p → Below p a → Below p w
  pub matrix : Each n r (λ k i j. matrix_of r n (r * r * n) w k i j ≡ matrix_at words r n a k i j)
  pub solution : StartsWithOne r n (r * r * n) w
  pub inverse : (i j : ℕ) → i < r → j < r → inverse_of r n (r * r * n) w 0 i j ≡ identity_at 0 i j

-- an accepted job with its modulus
pub record SystemReady (q : Modulus) (r n : ℕ) (a b v w : List ℕ) : Type 0 where
  pub modulus : IsModulus q q.p
  pub prime : Prime q.p
  pub few : n ≤ q.p
  pub placeable : Placeable r n a w
  pub sides : length b ≡ r * n
  pub starts : length v ≡ r
  pub matrix_below : Below q.p a
  pub sides_below : Below q.p b
  pub starts_below : Below q.p v

-- y stands in the room
pub record SystemFound (p r n : ℕ) (a b v w : List ℕ) : Type 0 where
  pub below : Below p w
  pub series : SystemSeries p r n (matrix_at words r n a) (series_at words n b) (word_at words v)
      (answer_of r n (r * r * n) w)

-- y stands in its buffer, and the room is cleared
pub record SystemRan (p r n : ℕ) (a b v y w : List ℕ) : Type 0 where
  pub below : Below p y
  pub series : SystemSeries p r n (matrix_at words r n a) (series_at words n b) (word_at words v) (series_at words n y)
  pub cleared : Zeros w
