-- The room of a system job with b and v put in, what the solver then gives, and the solution handed over.
-- Assumes nothing.
use Rattle.std.proofs.Common.{le_refl, mul-le-mul, mul-le-mul_right, mul-one, zero-add, ◌≡◌, refl, sym, ap, ◌∙◌, inl}
use Rattle.std.proofs.Common.{List, ℕ, ◌+◌, ◌*◌, ◌%◌, ◌<◌, ◌≤◌, arith, length, get_or}
use Rattle.algebra.specs.Meaning.{identity_at, LeftInverse}
use Rattle.algebra.proofs.Matrix.{Matrices}
use Rattle.algebra.proofs.Residue.{Residues}
use Rattle.algebra.proofs.Meaning.{system_cong}
use Rattle.algebra.proofs.Tables.{matrix_identity, left_inverse_of-matrix}
use Rattle.residue.specs.declared.Modulus.{Modulus}
use Rattle.room.specs.Room.{words_from, Put, Zeros}
use Rattle.matrix.specs.Layout.{Below, Written}
use Rattle.matrix.specs.Product.{first_terms}
use Rattle.matrix.proofs.Written.{stride, put_below, written_below}
use Rattle.job.specs.Job.{words, word_at, series_at, matrix_at}
use Rattle.job.proofs.Outcomes.{all_below}
use Rattle.ladder.specs.Layout.{matrix_of, solution_of, inverse_of, side_of, value_of, answer_of}
use Rattle.ladder.specs.Newton.{Started, StartsWithOne, Varied}
use Rattle.newton.specs.Basis.{spread_term}
use Rattle.newton.specs.System.{Placed, SystemReady, SystemFound, SystemRan}
use Rattle.newton.proofs.Sizes.{entry_inside}
use Rattle.newton.proofs.Starts.{left_moved}

-- the identity is its own inverse
pub one-one : (p r : ℕ) → 0 < p → LeftInverse p r (identity_at 0) (identity_at 0)
one-one p r pos =
    left_inverse_of-matrix p r pos (identity_at 0) (identity_at 0)
    (rw (matrix_identity p r pos) ((Matrices (Residues p) r).one-mul (Matrices (Residues p) r).one))

-- the word of a vector's entry
pub vector_place : (at n i k : ℕ) → at + (i * 1 + 0) * n + k ≡ at + i * n + k
vector_place at n i k = ap (λ x. at + x * n + k) (omega arith)

module _ {q : Modulus} {r n l : ℕ} {a b v w : List ℕ} (given : SystemReady q r n a b v w) (size : l ≡ r * r * n) where
  -- a vector takes no more words than a matrix
  pub thin : r * n ≤ l
  thin =
      let least = given.placeable.order_least in
      omega (arith, mul-le-mul_right n (mul-le-mul (le_refl r) least), mul-one r)

  module _ {w₁ : List ℕ} (len₁ : length w₁ ≡ length w) (placed : Placed r n a w₁) where
    below₁ : Below q.p w₁
    below₁ = placed.below q.p given.prime.two given.matrix_below

    module _ {w₂ : List ℕ} (len₂ : length w₂ ≡ length w₁) (first : Put (8 * l) (r * n) (words_from b 0) w₁ w₂) where
      module _ {w₃ : List ℕ} (len₃ : length w₃ ≡ length w₂)
          (second : Written r n (first_terms (9 * l) 1) (spread_term v 0) w₂ w₃) where
        -- words before the place of b
        before : (x : ℕ) → x < 8 * l → get_or w₃ x 0 ≡ get_or w₁ x 0
        before x h = second.old x (λ e k y _ u eq. absurd (omega arith)) ∙ first.old x (inl h)

        abbrev m : ℕ
        m = r * r * n

        solution_one : StartsWithOne r n m w₃
        solution_one i j x y =
            let inside = entry_inside given.placeable.terms_least x y in
            before (m + (i * r + j) * n + 0) (omega arith) ∙ placed.solution i j x y

        inverse_one : (i j : ℕ) → i < r → j < r → inverse_of r n m w₃ 0 i j ≡ identity_at 0 i j
        inverse_one i j x y =
            let inside = entry_inside given.placeable.terms_least x y in
            before (2 * m + (i * r + j) * n + 0) (omega arith) ∙ placed.inverse i j x y

        pub system_started : Started q r n w₃ × StartsWithOne r n (r * r * n) w₃
        system_started = (
          record {
            modulus = given.modulus;
            prime = given.prime;
            order_least = given.placeable.order_least;
            order = given.placeable.order;
            terms_least = given.placeable.terms_least;
            terms = given.placeable.terms;
            few = given.few;
            room = omega (arith, given.placeable.room, len₁, len₂, len₃);
            below =
                written_below second (λ e k. given.starts_below (0 + e))
                (put_below first (λ j _. given.sides_below (0 + j)) below₁);
            inverse =
                left_moved (solution_of r n m w₃ 0) (inverse_of r n m w₃ 0) solution_one inverse_one
                (one-one q.p r given.modulus.some);
          },
          solution_one,
        )

        matrix_same : (k i j : ℕ) → k < n → i < r → j < r → matrix_of r n m w₃ k i j ≡ matrix_at words r n a k i j
        matrix_same k i j h x y =
            let inside = entry_inside h x y in
            before (0 + (i * r + j) * n + k) (omega arith) ∙ placed.matrix k i j h x y

        side_same : (k i : ℕ) → k < n → i < r → side_of r n m w₃ k i ≡ series_at words n b k i
        unfolding series_at word_at
        side_same k i h x =
            let row = stride n x in
            let small = thin in
            let place : 8 * m + (i * 1 + 0) * n + k ≡ 8 * l + (i * n + k) =
            vector_place (8 * m) n i k ∙ omega arith in
            ap (λ c. get_or w₃ c 0) place
            ∙ second.old (8 * l + (i * n + k)) (λ e d y _ u eq. absurd (omega arith))
            ∙ first.new (i * n + k) (omega arith)
            ∙ ap (λ c. get_or b c 0) (zero-add (i * n + k))

        start_same : (i : ℕ) → i < r → value_of r n m w₃ 0 i ≡ word_at words v i
        unfolding word_at
        start_same i x =
            let place : 9 * m + (i * 1 + 0) * n + 0 ≡ 9 * l + i * n + 0 =
            vector_place (9 * m) n i 0 ∙ omega arith in
            ap (λ c. get_or w₃ c 0) place
            ∙ second.new i 0 x (omega arith) (omega arith)
            ∙ ap (λ c. get_or v c 0) (zero-add i)

        pub system_placed : {z : List ℕ} → Varied q.p r n (r * r * n) w₃ z → SystemFound q.p r n a b v z
        system_placed h = record {
          below = h.below;
          series =
              system_cong given.placeable.terms_least
              (λ k i j s x y. ap (λ c. c % q.p) (matrix_same k i j (omega arith) x y))
              (λ k i s x. ap (λ c. c % q.p) (side_same k i (omega arith) x))
              (λ i x. ap (λ c. c % q.p) (start_same i x)) (λ k i s x. refl) h.series;
        }

  module _ {z : List ℕ} (len : length z ≡ length w) {count : ℕ} {y : List ℕ} (long : length y ≡ r * n)
      (whole : count ≡ length y) where
    pub system-handed : {y' u : List ℕ} → SystemFound q.p r n a b v z → length y' ≡ length y
        → Put 0 count (words_from z (11 * l)) y y' → Zeros u → SystemRan q.p r n a b v y' u
    unfolding series_at word_at
    system-handed {y'} found leny put zeros = record {
      below =
          all_below y' given.modulus.some (leny ∙ sym whole)
          (λ k h. rw (rw zero-add at (put.new k h)) (found.below (11 * l + k)));
      series =
          system_cong given.placeable.terms_least (λ k i j s x y. refl) (λ k i s x. refl) (λ i x. refl)
          (λ k i s x. ap (λ c. c % q.p) (answer_same k i s x)) found.series;
      cleared = zeros;
    }
      where
        answer_same : (k i : ℕ) → k < n → i < r → answer_of r n (r * r * n) z k i ≡ get_or y' (i * n + k) 0
        answer_same k i s x =
            let row = stride n x in
            let place : 11 * (r * r * n) + (i * 1 + 0) * n + k ≡ 11 * l + (i * n + k) =
            vector_place (11 * (r * r * n)) n i k ∙ omega arith in
            ap (λ c. get_or z c 0) place ∙ sym (rw zero-add at (put.new (i * n + k) (omega arith)))
