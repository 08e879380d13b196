-- Quotients and systems that stand in a room: the same words are the same quotient and the same system; and a division
-- leaves residues.
-- Assumes nothing.
use Rattle.std.proofs.Common.{◌≡◌, refl, sym, ap, ◌∙◌, ⊎_elim, Bool, List, ℕ, suc, ◌+◌, ◌-◌, ◌*◌, ◌%◌, ◌<◌, arith}
use Rattle.std.proofs.Common.{get_or}
use Rattle.algebra.specs.Companion.{Quotient, Companion}
use Rattle.division.specs.Division.{Divided}
use Rattle.division.proofs.Products.{product_cong}
use Rattle.halving.specs.Layout.{Below}
use Rattle.equation.proofs.Places.{in_run}

pub quotient_same : {p n : ℕ} {d x x' q q' : ℕ → ℕ} → ((k : ℕ) → k < n → x k ≡ x' k)
    → ((k : ℕ) → k < n → q k ≡ q' k) → Quotient p n d x q → Quotient p n d x' q'
quotient_same {p} {d = d} {q = q} {q' = q'} ex eq h = record {
  at = λ k l.
      ap (λ z. z % p) (sym (product_cong d q k q' (λ m s. eq m (omega arith))))
      ∙ h.at k l
      ∙ ap (λ z. z % p) (ex k l);
}

-- and the same words are the same system
pub companion_same : {p r n : ℕ} {a : ℕ → ℕ → ℕ} {b : ℕ → ℕ} {m m' : ℕ → ℕ → ℕ → ℕ} {c c' : ℕ → ℕ → ℕ}
    → ((k i j : ℕ) → k < n → i < r → j < r → m' k i j ≡ m k i j) → ((k i : ℕ) → k < n → i < r → c' k i ≡ c k i)
    → Companion p r n a b m c → Companion p r n a b m' c'
companion_same {p} em ec h = record {
  next = λ i l s. ap (λ x. x % p) (em 0 i (suc i) l (omega arith) s) ∙ h.next i l s;
  none = λ k i j l s t o. ap (λ x. x % p) (em k i j l (omega arith) t) ∙ h.none k i j l s t o;
  still = λ k i l s. ap (λ x. x % p) (ec k i l (omega arith)) ∙ h.still k i l s;
  last = λ i j e t. quotient_same (λ k l. refl) (λ k l. sym (em k i j l (omega arith) t)) (h.last i j e t);
  right = λ i e. quotient_same (λ k l. refl) (λ k l. sym (ec k i l (omega arith))) (h.right i e);
}

-- residues in all words
pub divided_below : {p : ℕ} {negate : Bool} {d : List ℕ} {x : ℕ} {num : List ℕ} {y n out free : ℕ} {w z : List ℕ}
    → Divided p negate d x num y n out free w z → Below p w → Below p z
divided_below {p} {n = n} {out = out} {free = free} {w = w} {z = z} h b k =
    ⊎_elim
    (λ o. ⊎_elim (λ c. rw (h.kept k o c) (b k)) (λ i. rw i.1 at (zero (k - free) i.0)) (in_run free (3 * n) k))
    (λ i. rw i.1 at (h.below (k - out) i.0))
    (in_run out n k)
  where
    zero : (j : ℕ) → j < 3 * n → get_or z (free + j) 0 < p
    zero j l = rw (h.cleared j l) (omega (arith, b 0))
