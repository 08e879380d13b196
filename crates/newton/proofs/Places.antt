-- The room of a basis job: A, Y0 and its inverse put into their places, and what the rounds then give.
-- Assumes nothing.
use Rattle.std.proofs.Common.{zero-add, ◌≡◌, refl, sym, ap, ◌∙◌, List, ℕ, ◌+◌, ◌*◌, ◌%◌, ◌<◌, arith, length, get_or}
use Rattle.algebra.proofs.Meaning.{basis_cong}
use Rattle.residue.specs.declared.Modulus.{Modulus}
use Rattle.room.specs.Room.{words_from, Put, Zeros}
use Rattle.matrix.specs.Layout.{Below, Written}
use Rattle.matrix.specs.Product.{first_terms}
use Rattle.matrix.proofs.Written.{entry-below, put_below, written_below}
use Rattle.eliminate.specs.Square.{square_at}
use Rattle.job.specs.Job.{words, matrix_at}
use Rattle.ladder.specs.Layout.{matrix_of, solution_of, inverse_of}
use Rattle.ladder.specs.Newton.{Started, BasisFound}
use Rattle.newton.specs.Basis.{spread_term, start_of, Ready, Found}
use Rattle.newton.proofs.Sizes.{entry_inside}
use Rattle.newton.proofs.Starts.{start_word, left_moved}
use Rattle.newton.proofs.Matrices.{matrix_same}

module _ {q : Modulus} {r n : ℕ} {a y0 s w : List ℕ} (given : Ready q r n a y0 s w) where
  abbrev m : ℕ
  m = r * r * n

  module _ {w₁ : List ℕ} (len₁ : length w₁ ≡ length w) (zeros : Zeros w₁) where
    below₁ : Below q.p w₁
    below₁ k = rw (zeros.zeros k) given.modulus.some

    module _ {w₂ : List ℕ} (len₂ : length w₂ ≡ length w₁) (first : Put 0 m (words_from a 0) w₁ w₂) where
      below₂ : Below q.p w₂
      below₂ = put_below first (λ j _. given.matrix_below (0 + j)) below₁

      module _ {w₃ : List ℕ} (len₃ : length w₃ ≡ length w₂)
          (second : Written (r * r) n (first_terms m 1) (spread_term y0 0) w₂ w₃) where
        below₃ : Below q.p w₃
        below₃ = written_below second (λ e k. given.start_below (0 + e)) below₂

        module _ {w₄ : List ℕ} (len₄ : length w₄ ≡ length w₃)
            (third : Written (r * r) n (first_terms (2 * m) 1) (spread_term s (r * r)) w₃ w₄) where
          -- a word before the third place is as before
          before_third : (x : ℕ) → x < 2 * m → get_or w₄ x 0 ≡ get_or w₃ x 0
          before_third x l = third.old x (λ e k h _ u eq. absurd (omega arith))

          before_second : (x : ℕ) → x < m → get_or w₃ x 0 ≡ get_or w₂ x 0
          before_second x l = second.old x (λ e k h _ u eq. absurd (omega arith))

          solution_first : (i j : ℕ) → i < r → j < r → solution_of r n m w₄ 0 i j ≡ start_of r y0 i j
          solution_first i j x y =
              let inside = entry_inside given.terms_least x y in
              before_third (m + (i * r + j) * n + 0) (omega arith)
              ∙ second.new (i * r + j) 0 (entry-below x y) (omega arith) (omega arith)
              ∙ ap (λ c. get_or y0 c 0) (zero-add (i * r + j))
              ∙ sym (start_word r y0 i j)

          inverse_first : (i j : ℕ) → i < r → j < r → inverse_of r n m w₄ 0 i j ≡ square_at r s (r * r) i j
          inverse_first i j x y = third.new (i * r + j) 0 (entry-below x y) (omega arith) (omega arith)

          pub room_started : Started q r n w₄
          room_started = record {
            modulus = given.modulus;
            prime = given.prime;
            order_least = given.order_least;
            order = given.order;
            terms_least = given.terms_least;
            terms = given.terms;
            few = given.few;
            room = omega (arith, given.room, len₁, len₂, len₃, len₄);
            below = written_below third (λ e k. given.square_below (r * r + e)) below₃;
            inverse =
                left_moved (solution_of r n m w₄ 0) (inverse_of r n m w₄ 0) solution_first inverse_first given.inverse;
          }

          matrix_stays : (k i j : ℕ) → k < n → i < r → j < r → matrix_of r n m w₄ k i j ≡ matrix_at words r n a k i j
          matrix_stays =
              matrix_same r n a w₄ first (λ x l. before_third x (omega arith) ∙ before_second x l)

          pub basis_placed : {z : List ℕ} → BasisFound q.p r n w₄ z → Found q.p r n a y0 z
          basis_placed h = record {
            below = h.below;
            series =
                basis_cong given.terms_least
                (λ k i j l x y. ap (λ v. v % q.p) (matrix_stays k i j (omega arith) x y))
                (λ i j x y. ap (λ v. v % q.p) (solution_first i j x y)) (λ k i j l x y. refl) (λ k i j l x y. refl)
                h.series;
          }
