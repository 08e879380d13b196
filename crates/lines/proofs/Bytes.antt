-- The bytes at a place of a text: whether given ones stand there, and where a field stops.
-- Assumes nothing.
use Rattle.std.proofs.Common.{◌≡◌, ◌-◌, Bool, true, false, true≢false, subst, take_all, length-drop, drop-drop, ap}
use Rattle.std.proofs.Common.{sym, ◌∙◌, List, ◌∷◌, ◌++◌, ℕ, suc, ◌+◌, ◌<◌, ◌≤◌, arith, eqb, length, get_or, take}
use Rattle.std.proofs.Common.{drop, drop-cons}
use lib.Pointwise.{pointwise}
use Rattle.std.proofs.lemmas.Slice.Eq.{starts_is}
use Rattle.std.proofs.lemmas.Bool.Decides.{Decides-eqb}
use Rattle.text.specs.Field.{Stop}

-- the bytes from a place on, as the code cuts them
pub rest_all : (s : List ℕ) (i : ℕ) → take (length s - i) (drop i s) ≡ drop i s
rest_all s i = take_all (length s - i) (drop i s) (simp length-drop (omega arith))

-- what the test says, whether a text goes on at a place with given bytes
module _ (s h : List ℕ) (i : ℕ) (r : Bool)
    (e : r ≡ pointwise eqb h (take (length h) (take (length s - i) (drop i s)))) where
  told : (r ≡ true → drop i s ≡ h ++ drop (length h) (drop i s)) × ((t : List ℕ) → drop i s ≡ h ++ t → r ≡ true)
  told =
      starts_is Decides-eqb (drop i s) h r
      (subst (λ (u : List ℕ). r ≡ pointwise eqb h (take (length h) u)) (rest_all s i) e)

  pub goes_on : r ≡ true → drop i s ≡ h ++ drop (i + length h) s
  goes_on q = told.0 q ∙ ap (λ (u : List ℕ). h ++ u) (drop-drop (length h) i s)

  pub goes_other : r ≡ false → (t : List ℕ) → drop i s ≡ h ++ t → ⊥
  goes_other q t g = let o = told.1 t g in true≢false (sym o ∙ q)

-- a place where a byte stands is within the text
pub more_at : (s : List ℕ) (i b : ℕ) (t : List ℕ) → drop i s ≡ b ∷ t → i < length s
more_at s i b t e =
    let rest : length (drop i s) ≡ length s - i = simp length-drop in
    let some : length (drop i s) ≡ suc (length t) = rw e in
    omega arith

pub stop_at : (s : List ℕ) (e : ℕ) → e < length s → get_or s e 0 ≤ 10 → Stop (drop e s)
stop_at s e h b = rw (drop-cons s e 0 h) b
