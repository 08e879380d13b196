-- What the translation fixes: two rooms that its statement allows agree in every word.
-- Assumes nothing.
use Rattle.std.proofs.Common.{add-zero, div-add-mod', div-lt_iff_lt-mul, mod-eq_of_lt, mod-lt, mul-zero, ◌≡◌, sym}
use Rattle.std.proofs.Common.{◌∙◌, ⊎_elim, List, ℕ, zero, suc, ◌+◌, ◌-◌, ◌*◌, ◌/◌, ◌%◌, ◌≤◌, ◌<◌, arith, get_or}
use native.Mathlib.Decide.{ℕ_discrete}
use Rattle.inverse.specs.Inverse.{IsInverse}
use Rattle.division.proofs.Unique.{quotient_unique}
use Rattle.equation.specs.Translation.{matrix_from, Translated}
use Rattle.equation.proofs.Places.{in_run}
use Rattle.equation.proofs.System.{side_last}

module _ {p r n : ℕ} {a b : List ℕ} {at side free lead : ℕ} {w s t : List ℕ} (some : 1 ≤ r)
    (unit : IsInverse p (get_or a (r * n) 0) lead) (f : Translated p r n a b at side free w s)
    (g : Translated p r n a b at side free w t)
  where
    -- residues that agree modulo p
    word_same : (x : ℕ) → get_or s x 0 % p ≡ get_or t x 0 % p → get_or s x 0 ≡ get_or t x 0
    word_same x e = sym (mod-eq_of_lt (f.below x)) ∙ e ∙ mod-eq_of_lt (g.below x)

    first : IsInverse p (get_or a (r * n + 0) 0) lead
    first = rw add-zero unit

    entry-same : (k i j : ℕ) → k < n → i < r → j < r → matrix_from s at r n k i j ≡ matrix_from t at r n k i j
    entry-same k i j hk hi hj =
        word_same (at + ((i * r + j) * n + k))
        (elim (ℕ_discrete (suc i) r) [
          | yes e ↦
              quotient_unique (omega (arith, unit.below)) first (f.companion.last i j e hj)
              (g.companion.last i j e hj) k hk
          | no e ↦ upper (omega arith)
        ])
      where
        upper : suc i < r → matrix_from s at r n k i j % p ≡ matrix_from t at r n k i j % p
        upper l =
            elim (ℕ_discrete k 0) [
              | yes z ↦
                  elim (ℕ_discrete j (suc i)) [
                    | yes c ↦
                        rw (z, c)
                        (f.companion.next i (omega arith) l ∙ sym (g.companion.next i (omega arith) l))
                    | no c ↦ empty (λ x. c x.1)
                  ]
              | no z ↦ empty (λ x. z x.0)
            ]
          where
            empty : ¬ ((k ≡ 0) × (j ≡ suc i)) → matrix_from s at r n k i j % p ≡ matrix_from t at r n k i j % p
            empty other = f.companion.none k i j hk l hj other ∙ sym (g.companion.none k i j hk l hj other)

    side_same : (k : ℕ) → k < n → get_or s (side + k) 0 ≡ get_or t (side + k) 0
    side_same k l =
        let e : suc (r - 1) ≡ r = omega arith in
        let agree = quotient_unique (omega (arith, unit.below)) first (f.companion.right (r - 1) e)
        (g.companion.right (r - 1) e) k l in
        word_same (side + k) (rw (side_last s side k e, side_last t side k e) at agree)

    -- the words of the matrix, by row, column and power
    matrix_same : (x : ℕ) → x < r * r * n → get_or s (at + x) 0 ≡ get_or t (at + x) 0
    matrix_same x l =
        let pos : 0 < n = positive n l in
        let entry : x / n < r * r = (div-lt_iff_lt-mul pos).1 l in
        let outer : x / n * n + x % n ≡ x = div-add-mod' x n in
        let inner : x / n / r * r + x / n % r ≡ x / n = div-add-mod' (x / n) r in
        let same = entry-same (x % n) (x / n / r) (x / n % r) (mod-lt x pos) ((div-lt_iff_lt-mul some).1 entry)
        (mod-lt (x / n) some) in
        rw (inner, outer) at same
      where
        positive : (n : ℕ) → x < r * r * n → 0 < n
        positive zero h = absurd (omega (arith, mul-zero (r * r)))
        positive (suc n) h = omega arith

    pub translated_unique : (x : ℕ) → get_or s x 0 ≡ get_or t x 0
    translated_unique x =
        ⊎_elim
        (λ m. ⊎_elim (λ c. ⊎_elim (λ o. f.kept x m c o ∙ sym (g.kept x m c o))
        (λ i. rw i.1 at (f.cleared (x - free) i.0 ∙ sym (g.cleared (x - free) i.0))) (in_run free (3 * n) x))
        (λ i. rw i.1 at (side_same (x - side) i.0)) (in_run side n x))
        (λ i. rw i.1 at (matrix_same (x - at) i.0))
        (in_run at (r * r * n) x)
