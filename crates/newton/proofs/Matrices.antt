-- The room of a system job before b and v are put in: A in its place, and the identity in those of Y and Z.
-- Assumes nothing.
use Rattle.std.proofs.Common.{zero-add, ◌≡◌, ap, ◌∙◌, inr, List, ℕ, ◌+◌, ◌*◌, ◌<◌, ◌≤◌, arith, length, get_or}
use lib.ListN.{length-replicate, get_or-replicate}
use Rattle.room.specs.Room.{words_from, Put, Zeros}
use Rattle.matrix.specs.Layout.{Written}
use Rattle.matrix.specs.Product.{first_terms}
use Rattle.matrix.proofs.Written.{put_below, written_below}
use Rattle.job.specs.Job.{words, word_at, series_at, matrix_at}
use Rattle.job.proofs.Outcomes.{all_below}
use Rattle.ladder.specs.Layout.{matrix_of}
use Rattle.newton.specs.Basis.{spread_term, units}
use Rattle.newton.specs.System.{Placeable, Placed}
use Rattle.newton.proofs.Sizes.{entry_inside}
use Rattle.newton.proofs.Units.{diagonal_inside, diagonal_ones}

pub units-at : (e : ℕ) → e < 8 → get_or units e 0 ≡ 1
units-at e l = get_or-replicate 8 e 1 0 l

pub units_small : (p e : ℕ) → 1 < p → get_or units e 0 < p
units_small p e two =
    all_below units (omega arith) (length-replicate {A = ℕ} 8 1) (λ k l. rw (units-at k l) two) e

-- A was put into the first place of a room, and later no word there changed
pub matrix_same : (r n : ℕ) (a z : List ℕ) {w₁ w₂ : List ℕ} → Put 0 (r * r * n) (words_from a 0) w₁ w₂
    → ((x : ℕ) → x < r * r * n → get_or z x 0 ≡ get_or w₂ x 0) → (k i j : ℕ) → k < n → i < r → j < r
    → matrix_of r n (r * r * n) z k i j ≡ matrix_at words r n a k i j
unfolding matrix_at series_at word_at
matrix_same r n a z {w₂ = w₂} put same k i j l x y =
    let inside : (i * r + j) * n + k < r * r * n = entry_inside l x y in
    same (0 + (i * r + j) * n + k) (omega arith)
    ∙ ap (λ c. get_or w₂ c 0) (omega arith)
    ∙ put.new ((i * r + j) * n + k) inside
    ∙ ap (λ c. get_or a c 0) (zero-add ((i * r + j) * n + k))

module _ {r n : ℕ} {a w : List ℕ} (given : Placeable r n a w) where
  abbrev m : ℕ
  m = r * r * n

  abbrev step : ℕ
  step = (r + 1) * n

  module _ {w₁ : List ℕ} (len₁ : length w₁ ≡ length w) (zeros : Zeros w₁) where
    module _ {w₂ : List ℕ} (len₂ : length w₂ ≡ length w₁) (first : Put 0 m (words_from a 0) w₁ w₂) where
      module _ {w₃ : List ℕ} (len₃ : length w₃ ≡ length w₂)
          (second : Written r step (first_terms m 1) (spread_term units 0) w₂ w₃) where
        module _ {w₄ : List ℕ} (third : Written r step (first_terms (2 * m) 1) (spread_term units 0) w₃ w₄) where
          ones : (e : ℕ) → e < r → get_or units e 0 ≡ 1
          ones e l = units-at e (omega (arith, given.order))

          before_third : (x : ℕ) → x < 2 * m → get_or w₄ x 0 ≡ get_or w₃ x 0
          before_third x l = third.old x (λ e k h _ u eq. absurd (omega arith))

          beside_second : (x : ℕ) → (x < m) → get_or w₃ x 0 ≡ get_or w₂ x 0
          beside_second x l = second.old x (λ e k h _ u eq. absurd (omega arith))

          behind_second : (x : ℕ) → 2 * m ≤ x → get_or w₃ x 0 ≡ get_or w₂ x 0
          behind_second x l = second.old x (λ e k h _ u eq.
              let inside = diagonal_inside n h in
              let some = given.terms_least in
              absurd (omega arith))

          behind_first : (x : ℕ) → m ≤ x → get_or w₂ x 0 ≡ 0
          behind_first x l = first.old x (inr (omega arith)) ∙ zeros.zeros x

          pub matrix_placed : Placed r n a w₄
          matrix_placed = record {
            below = λ p two small.
                written_below third (λ e k. units_small p (0 + e) two)
                (written_below second (λ e k. units_small p (0 + e) two)
                (put_below first (λ j _. small (0 + j)) (λ k. rw (zeros.zeros k) (omega arith))));
            matrix = matrix_same r n a w₄ first (λ x l. before_third x (omega arith) ∙ beside_second x l);
            solution = λ i j x y.
                let inside = entry_inside given.terms_least x y in
                before_third (m + (i * r + j) * n + 0) (omega arith)
                ∙ diagonal_ones m units given.terms_least ones
                (λ i j x y. behind_first (m + (i * r + j) * n + 0) (omega arith)) second i j x y;
            inverse = diagonal_ones (2 * m) units given.terms_least ones (λ i j x y.
                behind_second (2 * m + (i * r + j) * n + 0) (omega arith)
                ∙ behind_first (2 * m + (i * r + j) * n + 0) (omega arith)) third;
          }
