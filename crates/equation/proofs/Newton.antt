-- An accepted equation, solved by Newton: its system in the solver's room, and the first unknown as the series.
-- Assumes nothing.
use Rattle.std.proofs.Common.{◌≡◌, refl, sym, ap, ◌∙◌, inl, inr, List, ℕ, suc, ◌+◌, ◌-◌, ◌*◌, ◌%◌, ◌<◌, ◌≤◌, zero-add}
use Rattle.std.proofs.Common.{arith, length, get_or}
use native.Mathlib.Decide.{ℕ_discrete}
use Rattle.algebra.specs.Meaning.{identity_at, SystemSeries}
use Rattle.algebra.proofs.Meaning.{system_cong}
use Rattle.residue.specs.declared.Modulus.{Modulus}
use Rattle.room.specs.Room.{words_from, Put, Zeros}
use Rattle.matrix.specs.Layout.{Written}
use Rattle.matrix.specs.Product.{first_terms}
use Rattle.matrix.proofs.Written.{stride, written_below}
use Rattle.ladder.specs.Layout.{matrix_of, solution_of, inverse_of, side_of, value_of, answer_of}
use Rattle.ladder.specs.Newton.{StartsWithOne, Varied}
use Rattle.newton.specs.Basis.{spread_term, units}
use Rattle.newton.proofs.Sizes.{entry_inside}
use Rattle.newton.proofs.Starts.{left_moved}
use Rattle.newton.proofs.Units.{diagonal_inside, diagonal_ones}
use Rattle.newton.proofs.Matrices.{units-at, units_small}
use Rattle.newton.proofs.Solutions.{one-one, vector_place}
use Rattle.equation.specs.Translation.{matrix_from, side_from, Translated}
use Rattle.equation.specs.Equation.{Ready, Placed, Ran}
use Rattle.equation.proofs.Quotients.{companion_same}
use Rattle.equation.proofs.System.{side_last, side_other}
use Rattle.equation.proofs.Rooms.{rows_inside, ready_ran}

module _ {q : Modulus} {r n : ℕ} {a b start work : List ℕ} (given : Ready q r n a b start work) where
  -- the words of a place, and those from one entry of the diagonal to the next
  abbrev m : ℕ
  m = r * r * n

  abbrev step : ℕ
  step = (r + 1) * n

  -- where the last row of the right side starts
  abbrev side : ℕ
  side = 8 * m + (r - 1) * n

  -- a row of a vector ends inside its place
  row_inside : {i : ℕ} → i < r → i * n + n ≤ m
  row_inside {i} l = omega (arith, stride n l, rows_inside given)

  -- the room cleared, with the system, with each identity, and with the start
  module _ {w w₁ w₂ w₃ w₄ : List ℕ} (zeros : Zeros w) (system : Translated q.p r n a b 0 side (3 * m) w w₁)
      (first : Written r step (first_terms m 1) (spread_term units 0) w₁ w₂)
      (second : Written r step (first_terms (2 * m) 1) (spread_term units 0) w₂ w₃)
      (starts : Written r n (first_terms (9 * m) 1) (spread_term start 0) w₃ w₄) where
    -- words that the translation leaves 0
    still_zero : (x : ℕ) → (m ≤ x) → x < 3 * m → get_or w₁ x 0 ≡ 0
    still_zero x l h = system.kept x (inr (omega arith)) (inl (omega arith)) (inl h) ∙ zeros.zeros x

    beside_first : (x : ℕ) → x < m → get_or w₂ x 0 ≡ get_or w₁ x 0
    beside_first x l = first.old x (λ e k h _ u eq. absurd (omega arith))

    behind_first : (x : ℕ) → 2 * m ≤ x → get_or w₂ x 0 ≡ get_or w₁ x 0
    behind_first x l = first.old x (λ e k h _ u eq.
        let inside = diagonal_inside n h in
        let some = given.terms_least in
        absurd (omega arith))

    beside_second : (x : ℕ) → x < 2 * m → get_or w₃ x 0 ≡ get_or w₂ x 0
    beside_second x l = second.old x (λ e k h _ u eq. absurd (omega arith))

    behind_second : (x : ℕ) → 3 * m ≤ x → get_or w₃ x 0 ≡ get_or w₂ x 0
    behind_second x l = second.old x (λ e k h _ u eq.
        let inside = diagonal_inside n h in
        let some = given.terms_least in
        absurd (omega arith))

    before_starts : (x : ℕ) → x < 9 * m → get_or w₄ x 0 ≡ get_or w₃ x 0
    before_starts x l = starts.old x (λ e k h _ u eq. absurd (omega arith))

    ones : (e : ℕ) → e < r → get_or units e 0 ≡ 1
    ones e l = units-at e (omega (arith, given.order))

    solution_one : StartsWithOne r n m w₄
    solution_one i j x y =
        let inside = entry_inside given.terms_least x y in
        before_starts (m + (i * r + j) * n + 0) (omega arith)
        ∙ beside_second (m + (i * r + j) * n + 0) (omega arith)
        ∙ diagonal_ones m units given.terms_least ones
        (λ u v s t. still_zero (m + (u * r + v) * n + 0) (omega arith)
        (omega (arith, entry_inside given.terms_least s t))) first i j x y

    inverse_one : (i j : ℕ) → i < r → j < r → inverse_of r n m w₄ 0 i j ≡ identity_at 0 i j
    inverse_one i j x y =
        let inside = entry_inside given.terms_least x y in
        before_starts (2 * m + (i * r + j) * n + 0) (omega arith)
        ∙ diagonal_ones (2 * m) units given.terms_least ones
        (λ u v s t. behind_first (2 * m + (u * r + v) * n + 0) (omega arith)
        ∙ still_zero (2 * m + (u * r + v) * n + 0) (omega arith)
        (omega (arith, entry_inside given.terms_least s t))) second i j x y

    matrix_same : (k i j : ℕ) → k < n → i < r → j < r
        → matrix_of r n m w₄ k i j ≡ matrix_from w₁ 0 r n k i j
    matrix_same k i j l x y =
        let inside = entry_inside l x y in
        before_starts (0 + (i * r + j) * n + k) (omega arith)
        ∙ beside_second (0 + (i * r + j) * n + k) (omega arith)
        ∙ beside_first (0 + (i * r + j) * n + k) (omega arith)
        ∙ ap (λ x. get_or w₁ x 0) (omega arith)

    side_same : (k i : ℕ) → k < n → i < r → side_of r n m w₄ k i ≡ side_from w₁ side r k i
    side_same k i l x =
        let row = row_inside x in
        ap (λ x. get_or w₄ x 0) (vector_place (8 * m) n i k)
        ∙ before_starts (8 * m + i * n + k) (omega arith)
        ∙ behind_second (8 * m + i * n + k) (omega arith)
        ∙ behind_first (8 * m + i * n + k) (omega arith)
        ∙ elim (ℕ_discrete (suc i) r) [
          | yes e ↦
              let last : r - 1 ≡ i = omega arith in
              let place : 8 * m + i * n + k ≡ side + k = rw last refl in
              ap (λ x. get_or w₁ x 0) place ∙ sym (side_last w₁ side k e)
          | no e ↦
              let upper : i < r - 1 = omega arith in
              let before = stride n upper in
              system.kept (8 * m + i * n + k) (inr (omega arith)) (inl (omega arith)) (inr (omega arith))
              ∙ zeros.zeros (8 * m + i * n + k)
              ∙ sym (side_other w₁ side k (omega arith))
        ]

    start_same : (i : ℕ) → i < r → value_of r n m w₄ 0 i ≡ get_or start i 0
    start_same i l =
        ap (λ x. get_or w₄ x 0) (vector_place (9 * m) n i 0)
        ∙ starts.new i 0 l (omega arith) (omega arith)
        ∙ ap (λ x. get_or start x 0) (zero-add i)

    pub placed : length w₄ ≡ length work → Placed q r n a b start w₄
    placed len = record {
      started = record {
        modulus = given.modulus;
        prime = given.prime;
        order_least = given.order_least;
        order = given.order;
        terms_least = given.terms_least;
        terms = given.terms;
        few = given.few;
        room = omega (arith, given.room, len);
        below =
            written_below starts (λ e k. given.below_three (0 + e))
            (written_below second (λ e k. units_small q.p (0 + e) given.prime.two)
            (written_below first (λ e k. units_small q.p (0 + e) given.prime.two) system.below));
        inverse =
            left_moved (solution_of r n m w₄ 0) (inverse_of r n m w₄ 0) solution_one inverse_one
            (one-one q.p r given.modulus.some);
      };
      identity = solution_one;
      companion = companion_same matrix_same side_same system.companion;
      starts = start_same;
    }

  -- a solved room
  module _ {w₁ z : List ℕ} (system : Placed q r n a b start w₁) (solved : Varied q.p r n (r * r * n) w₁ z) where
    -- y, y', .. solve the equation's system
    companion_series
        : SystemSeries q.p r n (matrix_of r n m w₁) (side_of r n m w₁) (λ i. get_or start i 0) (answer_of r n m z)
    companion_series =
        system_cong given.terms_least (λ k i j s x y. refl) (λ k i s x. refl)
        (λ i x. ap (λ c. c % q.p) (system.starts i x)) (λ k i s x. refl) solved.series

    pub newton_ran : {y y' room : List ℕ} → Put 0 n (words_from z (11 * m)) y y' → Zeros room
        → Ran q.p r n a b start y' room
    newton_ran {y' = y'} put cleared =
        ready_ran given system.companion companion_series word (λ k l. solved.below (11 * m + (0 * 1 + 0) * n + k))
        cleared
      where
        word : (k : ℕ) → k < n → get_or y' k 0 ≡ answer_of r n m z k 0
        word k l = rw zero-add at (put.new k l) ∙ ap (λ x. get_or z x 0) (omega arith)
