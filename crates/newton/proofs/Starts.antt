-- Y0 and its inverse, in words of their own.
-- Assumes nothing.
use Rattle.std.proofs.Common.{zero-add, ◌≡◌, refl, sym, ap, ap₂, ◌∙◌, List, ℕ, ◌+◌, ◌*◌, ◌%◌, ◌<◌, arith}
use Rattle.std.proofs.Common.{get_or}
use Rattle.std.proofs.lemmas.Result.{on_ok_weaker, on_err_weaker}
use native.Mathlib.Decide.{dec_lt}
use Rattle.algebra.specs.Meaning.{LeftInverse}
use Rattle.algebra.proofs.Numbers.{sum_of_cong}
use Rattle.room.specs.Room.{words_from, Put}
use Rattle.matrix.specs.Layout.{Below}
use Rattle.matrix.proofs.Written.{entry-below, put_below}
use Rattle.eliminate.specs.Square.{square_at, Answer, Inverted}
use Rattle.job.specs.Job.{word_at, series_at, matrix_at}
use Rattle.newton.specs.Basis.{start_of, Startable, StartInverted}

-- the word of an entry of Y0
pub start_word : (r : ℕ) (y0 : List ℕ) (i j : ℕ) → start_of r y0 i j ≡ get_or y0 (i * r + j) 0
unfolding matrix_at series_at word_at
start_word r y0 i j = ap (λ x. get_or y0 x 0) (omega arith)

-- matrices with the same entries are inverse to the same
pub left_moved : {p r : ℕ} {u v : ℕ → ℕ → ℕ} (u' v' : ℕ → ℕ → ℕ) → ((i j : ℕ) → i < r → j < r → u' i j ≡ u i j)
    → ((i j : ℕ) → i < r → j < r → v' i j ≡ v i j) → LeftInverse p r u v → LeftInverse p r u' v'
left_moved {p} {r} u' v' eu ev h = record {
  product = λ i j a b.
      ap (λ x. x % p) (sum_of_cong r _ _ (λ o l. ap₂ ◌*◌ (eu i o a l) (ev o j l b))) ∙ h.product i j a b;
}

module _ {p r : ℕ} {y0 s : List ℕ} (given : Startable p r y0 s) where
  module _ {t : List ℕ} (copied : Put 0 (r * r) (words_from y0 0) s t) where
    copied_word : (k : ℕ) → k < r * r → get_or t k 0 ≡ get_or y0 k 0
    copied_word k l = rw (zero-add) at (copied.new k l)

    copied_below : Below p t
    copied_below = put_below copied (λ j _. given.start (0 + j)) given.rest

    entry-same : (i j : ℕ) → i < r → j < r → start_of r y0 i j ≡ square_at r t 0 i j
    entry-same i j a b =
        start_word r y0 i j
        ∙ sym (copied_word (i * r + j) (entry-below a b))
        ∙ ap (λ x. get_or t x 0) (omega arith)

    pub start_inverted : {z : List ℕ} {answer : Answer} → Inverted p r t z answer → StartInverted p r y0 z answer
    start_inverted {z} {answer} h = record {
      below = λ k. elim (dec_lt k (2 * (r * r))) [
        | yes l ↦ h.below k l
        | no l ↦ rw (h.kept k (omega arith)) (copied_below k)
      ];
      left =
          on_ok_weaker answer
          (left_moved (square_at r z (r * r)) (start_of r y0) (λ _ _ _ _. refl) entry-same) h.left;
      right =
          on_ok_weaker answer
          (left_moved (start_of r y0) (square_at r z (r * r)) entry-same (λ _ _ _ _. refl)) h.right;
      none =
          on_err_weaker answer
          (λ no. record {
            none = λ w l. no.none w
                (left_moved w (square_at r t 0) (λ _ _ _ _. refl) (λ i j a b. sym (entry-same i j a b)) l);
          })
          h.none;
    }
