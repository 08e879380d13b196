-- An equation as a system (algebra, `Companion`): what the translation takes, and what it leaves in a room.
-- Assumes nothing.
use Rattle.std.specs.Prelude.{◌≡◌, ◌≢◌, ◌⊎◌, cond, List, ℕ, suc, ◌+◌, ◌*◌, ◌<◌, ◌≤◌, eqb, length, get_or}
use Rattle.algebra.specs.Numbers.{Prime}
use Rattle.algebra.specs.Companion.{opposite, Quotient, Companion}
use Rattle.residue.specs.declared.Modulus.{Modulus}
use Rattle.residue.specs.Sums.{IsModulus}
use Rattle.inverse.specs.Inverse.{IsInverse}
use Rattle.room.specs.Room.{words_from}
use Rattle.middle.specs.Middle.{Disjoint}
use Rattle.halving.specs.Layout.{Below}

-- x is no word of the run of m words from `from` on
abbrev pub Outside : ℕ → ℕ → ℕ → Type 0
Outside from m x = (x < from) ⊎ (from + m ≤ x)

-- the first count words are below p
abbrev pub FirstBelow : ℕ → ℕ → List ℕ → Type 0
FirstBelow p count s = (k : ℕ) → k < count → get_or s k 0 < p

-- the coefficient of t^k in a_i
abbrev pub coefficient : List ℕ → ℕ → ℕ → ℕ → ℕ
coefficient a n i k = get_or a (i * n + k) 0

-- the coefficient of t^k in row i and column j of the matrix that stands from word `at` on
abbrev pub matrix_from : List ℕ → ℕ → ℕ → ℕ → ℕ → ℕ → ℕ → ℕ
matrix_from w at r n k i j = get_or w (at + ((i * r + j) * n + k)) 0

-- the coefficient of t^k in row i of the right side: that of the series from word `side` on in the last row, else 0
unfoldable pub side_from : List ℕ → ℕ → ℕ → ℕ → ℕ → ℕ
side_from w side r k i = cond (eqb (suc i) r) (get_or w (side + k) 0) 0

-- an equation's a_0, .., a_r, with `lead` the inverse of the first coefficient of a_r; and in w, whose words are
-- residues, the places of r quotients from `row` on, with 3 * n words of scratch from `free` on
pub record Dividable (q : Modulus) (lead r n : ℕ) (a w : List ℕ) (row free : ℕ) : Type 0 where
  pub modulus : IsModulus q q.p
  pub terms_least : 1 ≤ n
  pub terms : n ≤ 4096
  pub coefficients : length a ≡ (r + 1) * n
  pub below : FirstBelow q.p ((r + 1) * n) a
  pub inverse : IsInverse q.p (get_or a (r * n) 0) lead
  pub target : row + r * n ≤ length w
  pub scratch : free + 3 * n ≤ length w
  pub apart : Disjoint row (r * n) free (3 * n)
  pub residues : Below q.p w

-- the quotients of -a_0, -a_1, .. by a_r, as many as `count` says, stand from `row` on; only the places of r quotients
-- and the scratch have changed
pub record RowDivided (p r n : ℕ) (a : List ℕ) (row free count : ℕ) (w z : List ℕ) : Type 0 where
  pub quotients
      : (j : ℕ) → j < count
      → Quotient p n (words_from a (r * n)) (λ k. opposite p (words_from a (j * n) k)) (words_from z (row + j * n))
  pub below : Below p w → Below p z
  pub kept : (x : ℕ) → Outside row (r * n) x → Outside free (3 * n) x → get_or z x 0 ≡ get_or w x 0

-- a matrix from `at` on, a series from `side` on and 3 * n words of scratch from `free` on, all inside w, share no word
pub record Places (r n : ℕ) (w : List ℕ) (at side free : ℕ) : Type 0 where
  pub matrix : at + r * r * n ≤ length w
  pub right_side : side + n ≤ length w
  pub scratch : free + 3 * n ≤ length w
  pub matrix_side : Disjoint at (r * r * n) side n
  pub matrix_scratch : Disjoint at (r * r * n) free (3 * n)
  pub side_scratch : Disjoint side n free (3 * n)

-- an equation whose a_r does not begin with 0, and a room of residues for its system, with zeros in the matrix
pub record Translatable (q : Modulus) (r n : ℕ) (a b w : List ℕ) (at side free : ℕ) : Type 0 where
  pub modulus : IsModulus q q.p
  pub prime : Prime q.p
  pub order_least : 1 ≤ r
  pub order : r ≤ 8
  pub terms_least : 1 ≤ n
  pub terms : n ≤ 4096
  pub one : length a ≡ (r + 1) * n
  pub two : length b ≡ n
  pub below_one : FirstBelow q.p ((r + 1) * n) a
  pub below_two : FirstBelow q.p n b
  pub lead : get_or a (r * n) 0 ≢ 0
  pub places : Places r n w at side free
  pub empty : (x : ℕ) → x < r * r * n → get_or w (at + x) 0 ≡ 0
  pub below : Below q.p w

-- the room z, which was w, has the equation's system, and zeros in the scratch; all other words are kept
pub record Translated (p r n : ℕ) (a b : List ℕ) (at side free : ℕ) (w z : List ℕ) : Type 0 where
  pub companion : Companion p r n (coefficient a n) (λ k. get_or b k 0) (matrix_from z at r n) (side_from z side r)
  pub below : Below p z
  pub cleared : (x : ℕ) → x < 3 * n → get_or z (free + x) 0 ≡ 0
  pub kept : (x : ℕ) → Outside at (r * r * n) x → Outside side n x → Outside free (3 * n) x
      → get_or z x 0 ≡ get_or w x 0
