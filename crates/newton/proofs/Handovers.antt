-- Y and Z handed over from the room to their buffers.
-- Assumes nothing.
use Rattle.std.proofs.Common.{zero-add, ◌≡◌, refl, sym, ap, ◌∙◌, List, ℕ, ◌+◌, ◌*◌, ◌%◌, ◌<◌, arith, length, get_or}
use Rattle.algebra.proofs.Meaning.{basis_cong}
use Rattle.residue.specs.declared.Modulus.{Modulus}
use Rattle.room.specs.Room.{words_from, Put, Zeros}
use Rattle.matrix.specs.Layout.{coef, Below}
use Rattle.job.specs.Job.{words, word_at, series_at, matrix_at}
use Rattle.job.proofs.Outcomes.{all_below}
use Rattle.newton.specs.Basis.{Ready, Found, Ran}
use Rattle.newton.proofs.Sizes.{entry_inside}

-- a series that was copied whole to a buffer of its own
module _ (r n : ℕ) {l : ℕ} (at : ℕ) (w : List ℕ) {y y' : List ℕ} (size : l ≡ r * r * n)
    (put : Put 0 l (words_from w at) y y') where
  copied_at : (k i j : ℕ) → k < n → i < r → j < r → coef w at r n k i j ≡ matrix_at words r n y' k i j
  unfolding matrix_at series_at word_at
  copied_at k i j h a b =
      let inside : (i * r + j) * n + k < l = omega (arith, entry_inside h a b) in
      ap (λ x. get_or w x 0) (omega arith) ∙ sym (rw zero-add at (put.new ((i * r + j) * n + k) inside))

  copied_below : {p : ℕ} → 0 < p → Below p w → length y ≡ l → length y' ≡ length y → Below p y'
  copied_below some below long same =
      all_below y' some (same ∙ long) (λ k h. rw (rw zero-add at (put.new k h)) (below (at + k)))

module _ {q : Modulus} {r n l : ℕ} {a y0 s w v : List ℕ} (given : Ready q r n a y0 s w) (size : l ≡ r * r * n)
    (same : length v ≡ length w) where
  pub handed_over : {y z y' z' u : List ℕ} → Found q.p r n a y0 v → length y ≡ l → length z ≡ l
      → length y' ≡ length y → length z' ≡ length z → Put 0 l (words_from v l) y y'
      → Put 0 l (words_from v (2 * l)) z z' → Zeros u → Ran q.p r n a y0 y' z' u
  handed_over {y' = y'} {z' = z'} found long long' leny lenz first second zeros = record {
    solution_below = copied_below r n l v size first given.modulus.some found.below long leny;
    inverse_below = copied_below r n (2 * l) v size second given.modulus.some found.below long' lenz;
    series =
        basis_cong given.terms_least (λ k i j h a b. refl) (λ i j a b. refl)
        (λ k i j h a b. ap (λ x. x % q.p)
        (ap (λ x. coef v x r n k i j) (sym size) ∙ copied_at r n l v size first k i j h a b))
        (λ k i j h a b. ap (λ x. x % q.p)
        (ap (λ x. coef v (2 * x) r n k i j) (sym size) ∙ copied_at r n (2 * l) v size second k i j h a b))
        found.series;
    cleared = zeros;
  }
