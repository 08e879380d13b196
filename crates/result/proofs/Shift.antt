-- Lines whose numbers stand at other indices: the same numbers give the same text.
-- Assumes nothing.
use Rattle.std.proofs.Common.{
  ◌≡◌,
  refl,
  sym,
  List,
  [],
  ◌∷◌,
  ℕ,
  zero,
  suc,
  ◌+◌,
  ◌<◌,
  arith,
  ℤ,
  ◌≤◌,
  ◌-◌,
  length,
  get_or,
  drop,
  ap,
  ◌∙◌,
  length-drop,
}
use Rattle.std.specs.List.{slice_range}
use Rattle.std.proofs.lemmas.List.{get_or-take, get_or-drop, length-take-le}
use lib.ListN.{get_or-eq_default}
use native.Mathlib.Decide.{dec_lt}
use Rattle.text.specs.Class.{balanced}
use Rattle.text.specs.Lines.{Form, items, lines, total}
use Rattle.result.specs.Print.{number_at}

-- the numbers y from a on and z from b on are the same, n of them
pub record Same (y : ℕ → ℤ) (a : ℕ) (z : ℕ → ℤ) (b n : ℕ) : Type 0 where
  pub at : (j : ℕ) → j < n → y (a + j) ≡ z (b + j)

module _ {y z : ℕ → ℤ} where
  -- the first of them, and those behind the first m
  same_first : {a b n : ℕ} → Same y a z b (suc n) → y a ≡ z b
  same_first {a} {b} e =
      let p : a + 0 ≡ a = omega arith in
      let q : b + 0 ≡ b = omega arith in
      rw (p, q) at (e.at 0 (omega arith))

  same_behind : {a b : ℕ} (m n : ℕ) → Same y a z b (m + n) → Same y (a + m) z (b + m) n
  same_behind {a} {b} m n e = record {
    at = λ j h.
        let p : a + (m + j) ≡ a + m + j = omega arith in
        let q : b + (m + j) ≡ b + m + j = omega arith in
        rw (p, q) at (e.at (m + j) (omega arith));
  }

  pub items-shift : {a b : ℕ} (n : ℕ) → Same y a z b n → items y a n ≡ items z b n
  unfolding items
  items-shift zero e = refl
  items-shift {a} {b} (suc n) e =
      let p : a + 1 ≡ suc a = omega arith in
      let q : b + 1 ≡ suc b = omega arith in
      let m : 1 + n ≡ suc n = omega arith in
      let rest = items-shift {a = a + 1} {b = b + 1} n (same_behind 1 n (rw (sym m) at e)) in
      rw (same_first e, rw (p, q) at rest)

  pub lines-shift : {a b : ℕ} (fs : List Form) → Same y a z b (total fs) → lines fs y a ≡ lines fs z b
  unfolding lines total
  lines-shift [] e = refl
  lines-shift {a} {b} (f ∷ fs) e =
      let here = items-shift f.count (record { at = λ j h. e.at j (omega arith) }) in
      rw (here, lines-shift {a = a + f.count} {b = b + f.count} fs (same_behind f.count (total fs) e))

-- n elements of a list from the place a on
module _ (s : List ℕ) (a b n : ℕ) (e : b ≡ a + n) (within : b ≤ length s) where
  pub part_length : length (slice_range s a b) ≡ n
  part_length = omega (arith, length-take-le (b - a) (drop a s), length-drop a s)

  part_at : (j : ℕ) → j < n → get_or (slice_range s a b) j 0 ≡ get_or s (a + j) 0
  part_at j h = get_or-take (b - a) (drop a s) j 0 (omega arith) ∙ get_or-drop a s j 0

  -- as numbers to be printed they are those of the list
  pub part_same : (p : ℕ) → Same (number_at p (slice_range s a b)) 0 (number_at p s) a n
  part_same p = record {
    at = λ j h. let q : 0 + j ≡ j = omega arith in ap (λ (c : ℕ). balanced c p) (rw q (part_at j h));
  }

  -- and below p if all of the list are
  pub part_below : {p : ℕ} → ((k : ℕ) → get_or s k 0 < p) → (k : ℕ) → get_or (slice_range s a b) k 0 < p
  part_below {p} below k =
      let some : 0 < p = omega (arith, below 0) in
      elim (dec_lt k n) [
        | yes l ↦ rw (part_at k l) (below (a + k))
        | no l ↦ rw (get_or-eq_default (slice_range s a b) 0 {n = k} (omega (arith, part_length))) some
      ]
