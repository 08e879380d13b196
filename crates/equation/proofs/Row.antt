-- The last row of the matrix, quotient by quotient.
-- Assumes nothing.
use Rattle.std.proofs.Common.{◌≡◌, refl, sym, ◌∙◌, inl, inr, true, List, ℕ, ◌+◌, ◌*◌, ◌<◌, ◌≤◌, arith, length}
use mathlib.Core.Path.{subst⁻¹}
use native.Mathlib.Decide.{ℕ_discrete}
use Rattle.algebra.specs.Companion.{opposite, Quotient}
use Rattle.residue.specs.declared.Modulus.{Modulus}
use Rattle.room.specs.Room.{words_from}
use Rattle.division.specs.Division.{Divisible, Divided}
use Rattle.halving.proofs.Rows.{row_end}
use Rattle.equation.specs.Translation.{Outside, Dividable, RowDivided}
use Rattle.equation.proofs.Places.{apart_of, disjoint_part}
use Rattle.equation.proofs.Quotients.{quotient_same, divided_below}

-- j quotients are written
pub record RowTurn (p r n : ℕ) (a : List ℕ) (row free : ℕ) (w₀ w : List ℕ) (j : ℕ) : Type 0 where
  pub within : j ≤ r
  pub len : length w ≡ length w₀
  pub divided : RowDivided p r n a row free j w₀ w

module _ {q : Modulus} {lead r n : ℕ} {a w₀ w : List ℕ} {row free j : ℕ} (given : Dividable q lead r n a w₀ row free)
    (t : RowTurn q.p r n a row free w₀ w j) (more : j < r)
  where
    -- the quotient's place lies in the row
    entry : j * n + n ≤ r * n
    entry = row_end {i = j} {r = r} n more

    pub row_divisible : Divisible q lead a (r * n) a (j * n) n w (row + j * n) free
    row_divisible = record {
      modulus = given.modulus;
      some = given.terms_least;
      few = omega (arith, given.terms);
      divisor = record {
        within = omega (arith, given.coefficients);
        below = λ k l. given.below (r * n + k) (omega arith);
      };
      inverse = given.inverse;
      numerator = record {
        within = omega (arith, entry, given.coefficients);
        below = λ k l. given.below (j * n + k) (omega (arith, entry));
      };
      target = record { within = omega (arith, entry, given.target, t.len) };
      room = record { within = omega (arith, given.scratch, t.len) };
      apart = disjoint_part (j * n) n given.apart entry;
      below = t.divided.below given.residues;
    }

    pub row_next : {z : List ℕ} → length z ≡ length w
        → Divided q.p true a (r * n) a (j * n) n (row + j * n) free w z
        → RowTurn q.p r n a row free w₀ z (j + 1)
    row_next {z} len h = record {
      within = omega arith;
      len = len ∙ t.len;
      divided = record {
        quotients = quotients;
        below = λ b. divided_below h (t.divided.below b);
        kept = λ x o s. h.kept x (wider o) s ∙ t.divided.kept x o s;
      };
    }
      where
        wider : {x : ℕ} → Outside row (r * n) x → Outside (row + j * n) n x
        wider (inl s) = inl (omega arith)
        wider (inr s) = inr (omega (arith, entry))

        -- an earlier quotient is kept
        earlier : (o k : ℕ) → o < j → k < n → words_from w (row + o * n) k ≡ words_from z (row + o * n) k
        earlier o k ho hk =
            let before : o * n + n ≤ j * n = row_end {i = o} {r = j} n ho in
            let inside : Outside free (3 * n) (row + (o * n + k)) =
            apart_of (o * n + k) given.apart (omega (arith, entry)) in
            let place : row + (o * n + k) ≡ row + o * n + k = omega arith in
            sym (h.kept (row + o * n + k) (inl (omega arith)) (rw place at inside))

        quotients : (o : ℕ) → o < j + 1
            → Quotient q.p n (words_from a (r * n)) (λ k. opposite q.p (words_from a (o * n) k))
            (words_from z (row + o * n))
        quotients o l =
            elim (ℕ_discrete o j) [
              | yes e ↦
                  subst⁻¹
                  (λ (o : ℕ). Quotient q.p n (words_from a (r * n)) (λ k. opposite q.p (words_from a (o * n) k))
                  (words_from z (row + o * n)))
                  e h.quotient
              | no e ↦
                  quotient_same (λ k s. refl) (λ k s. earlier o k (omega arith) s)
                  (t.divided.quotients o (omega arith))
            ]
