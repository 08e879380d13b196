-- What the functions of the basis job take and give.
-- Assumes nothing.
use Rattle.std.specs.Prelude.{◌≡◌, List, ℕ, ◌+◌, ◌*◌, ◌^◌, ◌<◌, ◌≤◌, length, get_or, replicate, OnOk, OnErr}
use Rattle.algebra.specs.Numbers.{Prime}
use Rattle.algebra.specs.Meaning.{LeftInverse, NoInverse, BasisSeries}
use Rattle.residue.specs.declared.Modulus.{Modulus}
use Rattle.residue.specs.Sums.{IsModulus}
use Rattle.room.specs.Room.{Zeros}
use Rattle.matrix.specs.Layout.{Below, Written}
use Rattle.matrix.specs.Product.{first_terms}
use Rattle.eliminate.specs.Square.{square_at, Answer}
use Rattle.job.specs.Job.{words, matrix_at}
use Rattle.ladder.specs.Layout.{solution_of, inverse_of}

-- so many words of src, and so many entries of n words from word `at` on
pub record Spreadable (entries n : ℕ) (src : List ℕ) (from at : ℕ) (w : List ℕ) : Type 0 where
  pub terms : 1 ≤ n
  pub source : from + entries ≤ length src
  pub target : at + entries * n ≤ length w

-- the first term of entry e
abbrev pub spread_term : List ℕ → ℕ → ℕ → ℕ → ℕ
spread_term src from e k = get_or src (from + e) 0

abbrev pub Spread : ℕ → ℕ → List ℕ → ℕ → ℕ → List ℕ → List ℕ → Type 0
Spread entries n src from at before after =
    Written entries n (first_terms at 1) (spread_term src from) before after

-- eight ones
abbrev pub units : List ℕ
units = replicate 8 1

-- the entry in row i and column j of Y0
abbrev pub start_of : ℕ → List ℕ → ℕ → ℕ → ℕ
start_of r y0 = matrix_at words r 1 y0 0

-- Y0, and words for it and for a second matrix behind it
pub record Startable (p r : ℕ) (y0 s : List ℕ) : Type 0 where
  pub prime : Prime p
  pub half : p < 2 ^ 31
  pub order : r ≤ 8
  pub source : length y0 ≡ r * r
  pub target : 2 * (r * r) ≤ length s
  pub start : Below p y0
  pub rest : Below p s

-- the answer is done if Y0 has an inverse, which then stands in the words behind Y0
pub record StartInverted (p r : ℕ) (y0 s : List ℕ) (answer : Answer) : Type 0 where
  pub below : Below p s
  pub left : OnOk answer (LeftInverse p r (square_at r s (r * r)) (start_of r y0))
  pub right : OnOk answer (LeftInverse p r (start_of r y0) (square_at r s (r * r)))
  pub none : OnErr answer (NoInverse p r (start_of r y0))

-- an accepted job with its modulus and the inverse of Y0
pub record Ready (q : Modulus) (r n : ℕ) (a y0 s w : List ℕ) : Type 0 where
  pub modulus : IsModulus q q.p
  pub prime : Prime q.p
  pub order_least : 1 ≤ r
  pub order : r ≤ 8
  pub terms_least : 1 ≤ n
  pub terms : n ≤ 4096
  pub few : n ≤ q.p
  pub matrix : length a ≡ r * r * n
  pub start : length y0 ≡ r * r
  pub square : 2 * (r * r) ≤ length s
  pub room : 16 * (r * r * n) ≤ length w
  pub matrix_below : Below q.p a
  pub start_below : Below q.p y0
  pub square_below : Below q.p s
  pub inverse : LeftInverse q.p r (start_of r y0) (square_at r s (r * r))

-- Y and Z stand in the room
pub record Found (p r n : ℕ) (a y0 w : List ℕ) : Type 0 where
  pub below : Below p w
  pub series : BasisSeries p r n (matrix_at words r n a) (start_of r y0) (solution_of r n (r * r * n) w)
      (inverse_of r n (r * r * n) w)

-- Y and Z stand in their buffers, and the room is cleared
pub record Ran (p r n : ℕ) (a y0 y z w : List ℕ) : Type 0 where
  pub solution_below : Below p y
  pub inverse_below : Below p z
  pub series : BasisSeries p r n (matrix_at words r n a) (start_of r y0) (matrix_at words r n y) (matrix_at words r n z)
  pub cleared : Zeros w
