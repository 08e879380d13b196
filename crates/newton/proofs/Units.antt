-- The identity in the places of Y and Z: ones that are spread over the diagonal of a cleared room.
-- Assumes nothing.
use Rattle.std.proofs.Common.{add-mul, le_refl, mul-add, mul-le-mul, mul-le-mul_right, mul-one, mul_assoc, zero-add}
use Rattle.std.proofs.Common.{◌≡◌, sym, ap, ◌∙◌, ◌≢◌, List, ℕ, ◌+◌, ◌*◌, ◌<◌, ◌≤◌, arith, get_or}
use native.Mathlib.Decide.{dec_lt, ℕ_discrete}
use Rattle.algebra.specs.Meaning.{identity_at}
use Rattle.algebra.proofs.Meaning.{identity_same, identity_other}
use Rattle.matrix.specs.Layout.{coef, Written}
use Rattle.matrix.specs.Product.{first_terms}
use Rattle.matrix.proofs.Written.{stride, entry-below}
use Rattle.newton.specs.Basis.{spread_term}

-- the words of the diagonal are r + 1 entries apart
diagonal : (r n i : ℕ) → i * ((r + 1) * n) ≡ (i * r + i) * n
diagonal r n i = rw (← mul_assoc, mul-add, mul-one)

-- the diagonal ends inside its place
pub diagonal_inside : {r e : ℕ} (n : ℕ) → e < r → e * ((r + 1) * n) + n ≤ r * r * n
diagonal_inside {r} {e} n l = omega (arith, diagonal r n e, stride n (entry-below {r = r} {c = r} l l))

-- as many steps as the diagonal has words end inside two places
pub diagonal_reach : {r : ℕ} (n : ℕ) → 1 ≤ r → r * ((r + 1) * n) ≤ 2 * (r * r * n)
diagonal_reach {r} n some =
    let wide : r * 1 ≤ r * r = mul-le-mul (le_refl r) some in
    let square : r ≤ r * r = omega (arith, mul-one r) in
    omega (arith, diagonal r n r, add-mul (r * r) r n, mul-le-mul_right n square)

-- an entry beside the diagonal is none of these words
off_diagonal : {r n i j e : ℕ} → 1 ≤ n → i < r → j < r → e < r → i ≢ j → (i * r + j) * n ≢ e * ((r + 1) * n)
off_diagonal {r} {n} {i} {j} {e} some a b c apart same =
    let equal : (i * r + j) * n ≡ (e * r + e) * n = same ∙ diagonal r n e in
    elim (dec_lt (i * r + j) (e * r + e)) [
      | yes l ↦ omega (arith, stride n l)
      | no l ↦ elim (dec_lt (e * r + e) (i * r + j)) [
        | yes h ↦ omega (arith, stride n h)
        | no h ↦
            let level : i * r + j ≡ e * r + e = omega arith in
            elim (dec_lt i e) [
              | yes x ↦ omega (arith, stride r x)
              | no x ↦ elim (dec_lt e i) [
                | yes y ↦ omega (arith, stride r y)
                | no y ↦
                    let row : i ≡ e = omega arith in
                    let rows : i * r ≡ e * r = ap (λ z. z * r) row in
                    apart (omega arith)
              ]
            ]
      ]
    ]

-- ones spread over the diagonal of a place that is 0
module _ {r n : ℕ} (at : ℕ) (s : List ℕ) {w v : List ℕ} (some : 1 ≤ n) (ones : (e : ℕ) → e < r → get_or s e 0 ≡ 1)
    (zeros : (i j : ℕ) → i < r → j < r → get_or w (at + (i * r + j) * n + 0) 0 ≡ 0)
    (written : Written r ((r + 1) * n) (first_terms at 1) (spread_term s 0) w v) where
  pub diagonal_ones : (i j : ℕ) → i < r → j < r → coef v at r n 0 i j ≡ identity_at 0 i j
  diagonal_ones i j a b =
      elim (ℕ_discrete i j) [
        | yes e ↦
            let place : at + (i * r + j) * n + 0 ≡ at + i * ((r + 1) * n) + 0 =
            omega (arith, diagonal r n i, ap (λ x. (i * r + x) * n) (sym e)) in
            ap (λ x. get_or v x 0) place
            ∙ written.new i 0 a (omega arith) (omega arith)
            ∙ ap (λ x. get_or s x 0) (zero-add i)
            ∙ ones i a
            ∙ sym (ap (identity_at 0 i) (sym e) ∙ identity_same i)
        | no e ↦
            written.old (at + (i * r + j) * n + 0) (λ d k h _ u eq.
            off_diagonal some a b h e (omega arith))
            ∙ zeros i j a b
            ∙ sym (identity_other i j e)
      ]
