-- Where the words of a matrix of series stand: an entry's row, column and power are determined by its place; and a word
-- is outside a run or one of its words.
-- Assumes nothing.
use Rattle.std.proofs.Common.{◌≡◌, ◌⊎◌, inl, inr, ⊎_elim, ℕ, suc, ◌+◌, ◌-◌, ◌*◌, ◌<◌, ◌≤◌, arith}
use native.Mathlib.Decide.{dec_lt}
use Rattle.halving.proofs.Rows.{row_end}
use Rattle.middle.specs.Middle.{Disjoint}
use Rattle.equation.specs.Translation.{Outside}

-- i rows of n words and k words of the next
pub place_unique : {i u k l : ℕ} (n : ℕ) → k < n → l < n → i * n + k ≡ u * n + l → (i ≡ u) × (k ≡ l)
place_unique {i} {u} {k} {l} n hk hl e =
    elim (dec_lt i u) [
      | yes h ↦ absurd (omega (arith, row_end {i = i} {r = u} n h))
      | no h ↦
          elim (dec_lt u i) [
            | yes g ↦ absurd (omega (arith, row_end {i = u} {r = i} n g))
            | no g ↦ let same : i ≡ u = omega arith in (same, rest same e)
          ]
    ]
  where
    rest : i ≡ u → i * n + k ≡ u * n + l → k ≡ l
    rest same e = let f : u * n + k ≡ u * n + l = rw same at e in omega arith

-- the last row of a square of r rows ends where the square does
pub last_row : {last r : ℕ} (n : ℕ) → suc last ≡ r → last * r * n + r * n ≡ r * r * n
last_row {last} n e = rw (← e) (omega arith)

-- the word k of a run of m words is no word of another run
pub apart_of : {x m y n : ℕ} (k : ℕ) → Disjoint x m y n → k < m → Outside y n (x + k)
apart_of k d l = ⊎_elim (λ h. inl (omega arith)) (λ h. inr (omega arith)) d.apart

-- a run in front of a run of words that shares none with another
pub disjoint_part : {x m y n : ℕ} (k l : ℕ) → Disjoint x m y n → k + l ≤ m → Disjoint (x + k) l y n
disjoint_part k l d s = record { apart = ⊎_elim (λ h. inl (omega arith)) (λ h. inr (omega arith)) d.apart }

-- a word of a run, or none
pub in_run : (from m x : ℕ) → Outside from m x ⊎ ((x - from < m) × (from + (x - from) ≡ x))
in_run from m x =
    elim (dec_lt x from) [
      | yes h ↦ inl (inl h)
      | no h ↦ elim (dec_lt x (from + m)) [ yes g ↦ inr (omega arith, omega arith) | no g ↦ inl (inr (omega arith)) ]
    ]
