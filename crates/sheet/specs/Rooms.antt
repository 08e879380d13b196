-- What a reader leaves in its rooms when it is done: residues from the first word on, and the other cells as they were.
-- Assumes nothing.
use Rattle.std.specs.Prelude.{◌≡◌, List, [], ◌∷◌, ℕ, ◌+◌, ◌≤◌, ◌<◌, ℤ, length, get_or}
use Rattle.text.specs.Class.{residue}

-- the first count words are the residues of the numbers from the index i on; the other cells are as they were
pub record Filled (p : ℕ) (z : ℕ → ℤ) (i count : ℕ) (before after : List ℕ) : Type 0 where
  pub len : length after ≡ length before
  pub words : (k : ℕ) → k < count → get_or after k 0 ≡ residue (z (i + k)) p
  pub others : (k : ℕ) → count ≤ k → get_or after k 0 ≡ get_or before k 0

-- the rooms in their order, each filled by the next numbers, as many as the list of lengths says; with no length left,
-- a room is as it was
unfoldable pub FilledAll : ℕ → (ℕ → ℤ) → ℕ → List ℕ → List (List ℕ) → List (List ℕ) → Type 0
FilledAll p z i ls [] [] = Unit {0}
FilledAll p z i ls [] (t ∷ after) = ⊥
FilledAll p z i ls (s ∷ rooms) [] = ⊥
FilledAll p z i [] (s ∷ rooms) (t ∷ after) = (t ≡ s) × FilledAll p z i [] rooms after
FilledAll p z i (l ∷ ls) (s ∷ rooms) (t ∷ after) = Filled p z i l s t × FilledAll p z (i + l) ls rooms after
