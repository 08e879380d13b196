-- An accepted equation, solved by halving: its system in the solver's room, and the first unknown as the series.
-- Assumes nothing.
use Rattle.std.proofs.Common.{◌≡◌, refl, sym, ap, ◌∙◌, inl, List, ℕ, suc, ◌+◌, ◌-◌, ◌*◌, ◌%◌, ◌<◌, ◌≤◌, zero-add}
use Rattle.std.proofs.Common.{add-zero, arith, get_or}
use native.Mathlib.Decide.{ℕ_discrete}
use Rattle.algebra.specs.Meaning.{SystemSeries}
use Rattle.algebra.proofs.Meaning.{system_cong}
use Rattle.residue.specs.declared.Modulus.{Modulus}
use Rattle.room.specs.Room.{words_from, Put, Zeros}
use Rattle.matrix.specs.Layout.{Written}
use Rattle.matrix.specs.Product.{first_terms}
use Rattle.newton.specs.Basis.{spread_term}
use Rattle.halving.specs.Layout.{right_side_of, moved_side, unknown, room_matrix}
use Rattle.halving.specs.Halving.{RowsSolved}
use Rattle.halving.proofs.Rows.{row_end}
use Rattle.equation.specs.Translation.{matrix_from, side_from, Translated}
use Rattle.equation.specs.Equation.{Ready, Ran}
use Rattle.equation.proofs.Places.{place_unique}
use Rattle.equation.proofs.System.{side_last, side_other}
use Rattle.equation.proofs.Rooms.{rows_inside, ready_ran}

module _ {q : Modulus} {r n : ℕ} {a b start work : List ℕ} (given : Ready q r n a b start work) where
  -- the solver's places: the matrix and the last row of the right side; and scratch behind the words that it uses
  abbrev at : ℕ
  at = (3 * r + 1) * n

  abbrev side : ℕ
  side = (r - 1) * n + 1

  abbrev free : ℕ
  free = 8 * (r * r * n)

  last_end : (r - 1) * n + n ≤ r * n
  last_end = row_end {i = r - 1} {r = r} n (omega (arith, given.order_least))

  used : (3 * r + 1) * n + r * r * n ≤ free
  used = omega (arith, rows_inside given)

  -- the room cleared, with the system, with the start, and solved
  module _ {w w₁ w₂ z : List ℕ} (zeros : Zeros w) (system : Translated q.p r n a b at side free w w₁)
      (starts : Written r n (first_terms 0 1) (spread_term start 0) w₁ w₂) (solved : RowsSolved q.p r n w₂ z) where
    -- the starts stand in the rows' first words, and no other word has changed
    inner_kept : (i k : ℕ) → suc k < n → get_or w₂ (i * n + suc k) 0 ≡ get_or w₁ (i * n + suc k) 0
    inner_kept i k hk = starts.old (i * n + suc k) (λ o d l _ u e.
        let same = place_unique {i = i} {u = o} {k = suc k} {l = 0} n hk given.terms_least (omega arith) in
        omega (arith, same))

    behind_kept : (x : ℕ) → r * n ≤ x → get_or w₂ x 0 ≡ get_or w₁ x 0
    behind_kept x h =
        starts.old x (λ o d l _ u e. omega (arith, row_end {i = o} {r = r} n l, given.terms_least))

    start_term_lem : (i : ℕ) → i < r → right_side_of w₂ n 0 i ≡ get_or start i 0
    start_term_lem i l =
        let place : 0 + i * n + 0 ≡ i * n + 0 = omega arith in
        rw (place, zero-add i) at (starts.new i 0 l (omega arith) (omega arith))

    side-term : (k i : ℕ) → suc k < n → i < r → moved_side w₂ n k i ≡ side_from w₁ side r k i
    side-term k i hk hi =
        elim (ℕ_discrete (suc i) r) [
          | yes e ↦
              let last : r - 1 ≡ i = omega arith in
              let place : i * n + suc k ≡ side + k = rw last (omega arith) in
              inner_kept i k hk ∙ ap (λ x. get_or w₁ x 0) place ∙ sym (side_last w₁ side k e)
          | no e ↦
              let before : i * n + n ≤ (r - 1) * n = row_end {i = i} {r = r - 1} n (omega arith) in
              inner_kept i k hk
              ∙ system.kept (i * n + suc k) (inl (omega (arith, last_end, rows_inside given))) (inl (omega arith))
              (inl (omega (arith, last_end, rows_inside given)))
              ∙ zeros.zeros (i * n + suc k)
              ∙ sym (side_other w₁ side k (omega arith))
        ]

    matrix-term : (k i j : ℕ) → room_matrix w₂ r n k i j ≡ matrix_from w₁ at r n k i j
    matrix-term k i j = behind_kept (at + ((i * r + j) * n + k)) (omega (arith, rows_inside given))

    -- the unknowns solve the equation's system
    companion_series
        : SystemSeries q.p r n (matrix_from w₁ at r n) (side_from w₁ side r) (λ i. get_or start i 0)
        (unknown z r n)
    companion_series =
        system_cong given.terms_least
        (λ k i j s l m. ap (λ x. x % q.p) (matrix-term k i j))
        (λ k i s l. ap (λ x. x % q.p) (side-term k i s l))
        (λ i l. ap (λ x. x % q.p) (start_term_lem i l))
        (λ k i s l. refl) solved.series

    pub ran : {y y' room : List ℕ} → Put 0 n (words_from z (r * n)) y y' → Zeros room
        → Ran q.p r n a b start y' room
    ran {y' = y'} put cleared =
        ready_ran given system.companion companion_series word (λ k l. solved.below ((r + 0) * n + k)) cleared
      where
        word : (k : ℕ) → k < n → get_or y' k 0 ≡ unknown z r n k 0
        word k l = rw zero-add at (put.new k l) ∙ ap (λ i. get_or z (i * n + k) 0) (sym (add-zero r))
