-- A verdict as three numbers; what the functions that print ask for and print.
-- Assumes nothing.
use Rattle.std.specs.Prelude.{◌≡◌, refl, List, ℕ, ◌+◌, ◌*◌, ◌≤◌, ◌<◌, ◌^◌, ℤ, length, get_or}
use Rattle.job.specs.declared.Kind.{Kind}
use Rattle.job.specs.declared.Kind.TheVariants.{System, Basis, Equation}
use Rattle.job.specs.Refusal.{Verdict, done, refused}
use Rattle.text.specs.Class.{balanced}
use Rattle.result.specs.declared.Places.{Places}

-- a verdict's number and places; zeros for done
unfoldable pub places_of : Verdict → Places
places_of done = record { 0 = 0; 1 = 0; 2 = 0 }
places_of (refused number first second) = record { 0 = number; 1 = first; 2 = second }

places_example : places_of (refused 5 2 0) ≡ record { 0 = 5; 1 = 2; 2 = 0 }
unfolding places_of
places_example = refl

-- the number that is printed for the word of index k
abbrev pub number_at : ℕ → List ℕ → ℕ → ℤ
number_at p s k = balanced (get_or s k 0) p

-- the words s can be printed modulo p, and d has room for so many bytes from `at` on
pub record Ready (p : ℕ) (s d : List ℕ) (at bytes : ℕ) : Type 0 where
  pub below : (k : ℕ) → get_or s k 0 < p
  pub room : at + bytes ≤ length d

-- room for a line: its head up to the last number there, 22 bytes for that number and the line feed, and 22 for each
-- number behind the head, a tab, a sign and 20 digits
abbrev pub line_room : ℕ → ℕ → ℕ
line_room head count = head + 22 * (count + 1)

-- the rows of y
abbrev pub Rows : Kind → ℕ → ℕ → Type 0
Rows System r rows = rows ≡ r
Rows Basis r rows = ⊥
Rows Equation r rows = rows ≡ 1

-- y of so many rows can be printed behind line 1, which takes at most 79 bytes
pub record VectorReady (kind : Kind) (r rows n p : ℕ) (y d : List ℕ) : Type 0 where
  pub order : Rows kind r rows
  pub modulus : p < 2 ^ 32
  pub exact : length y ≡ rows * n
  pub ready : Ready p y d 79 (rows * line_room 1 n)

-- Y, and Z behind it, can be printed behind line 1
pub record BasisReady (r n p : ℕ) (y z d : List ℕ) : Type 0 where
  pub order : r ≤ 8
  pub modulus : p < 2 ^ 32
  pub exact : (length y ≡ r * (r * n)) × (length z ≡ r * (r * n))
  pub first : Ready p y d 79 (r * (r * line_room 3 n))
  pub second : Ready p z d (79 + r * (r * line_room 3 n)) (r * (r * line_room 3 n))
