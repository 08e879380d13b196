-- The translation: zeros, the ones in the rows but the last, the quotients of the last row, and the right side are the
-- equation's system.
-- Assumes nothing.
use Rattle.std.proofs.Common.{◌≡◌, refl, sym, ap, ◌∙◌, ◌≢◌, inl, inr, false, cond, List, ℕ, suc, ◌+◌, ◌-◌, ◌*◌, ◌%◌}
use Rattle.std.proofs.Common.{◌<◌, ◌≤◌, zero-add, mul-le-mul, arith, eq-eqb, ne_eqb, length, get_or}
use native.Mathlib.Nat.{zero-mod}
use lib.ListN.{length-replicate}
use Rattle.algebra.specs.Companion.{opposite, Quotient}
use Rattle.residue.specs.declared.Modulus.{Modulus}
use Rattle.inverse.specs.Inverse.{Invertible, IsInverse}
use Rattle.room.specs.Room.{words_from}
use Rattle.matrix.specs.Layout.{Below, Written}
use Rattle.matrix.specs.Product.{first_terms}
use Rattle.matrix.proofs.Written.{written_below}
use Rattle.division.specs.Division.{Divisible, Divided}
use Rattle.division.proofs.Parts.{divisible_parts, divided_parts}
use Rattle.residue.proofs.Parts.{Part, part_of, whole_of}
use borrow.Rule.Slice.PartMut.{mid_of}
use Rattle.newton.specs.Basis.{Spreadable, spread_term, units}
use Rattle.newton.proofs.Matrices.{units-at, units_small}
use Rattle.halving.proofs.Rows.{row_end}
use Rattle.halving.proofs.Rest.{entry_end}
use Rattle.equation.specs.Translation.{
  Outside,
  coefficient,
  matrix_from,
  side_from,
  Dividable,
  RowDivided,
  Translatable,
  Translated,
}
use Rattle.equation.proofs.Places.{place_unique, last_row, apart_of, disjoint_part}
use Rattle.equation.proofs.Quotients.{quotient_same, divided_below}

-- the right side's rows
pub side_last : (w : List ℕ) (side : ℕ) {r i : ℕ} (k : ℕ) → suc i ≡ r → side_from w side r k i ≡ get_or w (side + k) 0
unfolding side_from
side_last w side {r} {i} k e = ap (λ c. cond c (get_or w (side + k) 0) 0) (eq-eqb (suc i) r e)

pub side_other : (w : List ℕ) (side : ℕ) {r i : ℕ} (k : ℕ) → suc i < r → side_from w side r k i ≡ 0
unfolding side_from
side_other w side {r} {i} k l = ap (λ c. cond c (get_or w (side + k) 0) 0) (ne_eqb (suc i) r (λ e. omega arith))

module _ {q : Modulus} {r n : ℕ} {a b w : List ℕ} {at side free : ℕ} (given : Translatable q r n a b w at side free)
  where
    -- the first coefficient of a_r
    pub lead_invertible : Invertible q.p (get_or a (r * n) 0)
    lead_invertible = record {
      prime = given.prime;
      half = given.modulus.half;
      some = let z : get_or a (r * n) 0 ≢ 0 = given.lead in omega arith;
      below = given.below_one (r * n) (omega (arith, given.terms_least));
    }

    -- the row before the row after is this one
    last_suc : suc (r - 1) ≡ r
    last_suc = omega (arith, given.order_least)

    -- the ones of the rows but the last end where the matrix does
    ones_end : n + (r - 1) * ((r + 1) * n) ≤ r * r * n
    ones_end = ends (r - 1) last_suc
      where
        ends : (last : ℕ) → suc last ≡ r → n + last * ((r + 1) * n) ≤ r * r * n
        ends last e = rw (← e) (omega arith)

    pub ones_spread : {x : ℕ} → x ≤ at + n → Spreadable (r - 1) ((r + 1) * n) units 0 x w
    ones_spread early = record {
      terms = omega (arith, given.terms_least);
      source = omega (arith, given.order, length-replicate {A = ℕ} 8 1);
      target = omega (arith, ones_end, given.places.matrix);
    }

    -- where the last row starts
    pub row_inside : ((r - 1) * r ≤ 64) × (at + (r - 1) * r * n ≤ length w)
    row_inside =
        let few : r - 1 ≤ 8 = omega (arith, given.order) in (
          mul-le-mul few given.order,
          omega (arith, last_row {last = r - 1} {r = r} n last_suc, given.places.matrix),
        )

    -- ones among residues
    pub ones_below : {x : ℕ} {v : List ℕ} → Written (r - 1) ((r + 1) * n) (first_terms x 1) (spread_term units 0) w v
        → Below q.p v
    ones_below ones = written_below ones (λ e k. units_small q.p (0 + e) given.prime.two) given.below

    -- a room of residues of the same length takes the last row, and the right side
    module _ {lead : ℕ} {v : List ℕ} (inverse : IsInverse q.p (get_or a (r * n) 0) lead) (len : length v ≡ length w)
        (below : Below q.p v)
      where
        pub row_dividable : Dividable q lead r n a v (at + (r - 1) * r * n) free
        row_dividable =
            let ends = last_row {last = r - 1} {r = r} n last_suc in
            record {
              modulus = given.modulus;
              terms_least = given.terms_least;
              terms = given.terms;
              coefficients = given.one;
              below = given.below_one;
              inverse = inverse;
              target = omega (arith, ends, given.places.matrix);
              scratch = omega (arith, given.places.scratch);
              apart = disjoint_part ((r - 1) * r * n) (r * n) given.places.matrix_scratch (omega arith);
              residues = below;
            }

        pub side_divisible : Divisible q lead a (r * n) b 0 n v side free
        side_divisible = record {
          modulus = given.modulus;
          some = given.terms_least;
          few = omega (arith, given.terms);
          divisor = record {
            within = omega (arith, given.one);
            below = λ k l. given.below_one (r * n + k) (omega arith);
          };
          inverse = inverse;
          numerator = record {
            within = omega (arith, given.two);
            below = λ k l. given.below_two (0 + k) (omega arith);
          };
          target = record { within = omega (arith, given.places.right_side) };
          room = record { within = omega (arith, given.places.scratch) };
          apart = given.places.side_scratch;
          below = below;
        }

    -- the coefficients of a_r as the part that is handed on
    abbrev lead_series : List ℕ
    lead_series = mid_of (r * n) (r * n + n - r * n) a

    lead_part : Part a (r * n) n lead_series
    lead_part = part_of a refl (omega (arith, given.one))

    pub side_parts : {lead : ℕ} {v : List ℕ} → Divisible q lead a (r * n) b 0 n v side free
        → Divisible q lead lead_series 0 b 0 (length lead_series) v side free × (length b ≡ length lead_series)
    side_parts = divisible_parts lead_part (whole_of given.two)

    pub side_divided : {v z : List ℕ} → Divided q.p false lead_series 0 b 0 (length lead_series) side free v z
        → Divided q.p false a (r * n) b 0 n side free v z
    side_divided = divided_parts lead_part (whole_of given.two)

    module _ {w₁ w₂ z : List ℕ}
        (ones : Written (r - 1) ((r + 1) * n) (first_terms (at + n) 1) (spread_term units 0) w w₁)
        (row : RowDivided q.p r n a (at + (r - 1) * r * n) free r w₁ w₂)
        (right : Divided q.p false a (r * n) b 0 n side free w₂ z) where
      -- a word of the matrix stays when the right side is divided
      matrix_kept : (x : ℕ) → x < r * r * n → get_or z (at + x) 0 ≡ get_or w₂ (at + x) 0
      matrix_kept x l =
          right.kept (at + x) (apart_of x given.places.matrix_side l)
          (apart_of x given.places.matrix_scratch l)

      -- and so does one before the last row when that is divided
      upper_kept : (x : ℕ) → x < (r - 1) * r * n → get_or z (at + x) 0 ≡ get_or w₁ (at + x) 0
      upper_kept x l =
          let small : x < r * r * n = omega (arith, last_row {last = r - 1} {r = r} n last_suc) in
          matrix_kept x small
          ∙ row.kept (at + x) (inl (omega arith)) (apart_of x given.places.matrix_scratch small)

      -- where an entry of a row but the last stands
      upper : (k i j : ℕ) → k < n → suc i < r → j < r → (i * r + j) * n + k < (r - 1) * r * n
      upper k i j hk hi hj =
          omega (
            arith,
            row_end {i = i} {r = r - 1} r (omega arith),
            row_end {i = i * r + j} {r = (r - 1) * r} n
                (omega (arith, row_end {i = i} {r = r - 1} r (omega arith))),
          )

      one : (i : ℕ) → suc i < r → matrix_from z at r n 0 i (suc i) ≡ 1
      one i hi =
          let place : at + ((i * r + suc i) * n + 0) ≡ at + n + i * ((r + 1) * n) + 0 = omega arith in
          upper_kept ((i * r + suc i) * n + 0) (upper 0 i (suc i) given.terms_least hi hi)
          ∙ rw place (ones.new i 0 (omega arith) (omega arith) (omega arith))
          ∙ units-at (0 + i) (omega (arith, given.order))

      zero_entry : (k i j : ℕ) → k < n → suc i < r → j < r → ¬ ((k ≡ 0) × (j ≡ suc i))
          → matrix_from z at r n k i j ≡ 0
      zero_entry k i j hk hi hj other =
          let small = upper k i j hk hi hj in
          upper_kept ((i * r + j) * n + k) small
          ∙ ones.old (at + ((i * r + j) * n + k)) miss
          ∙ given.empty ((i * r + j) * n + k)
          (omega (arith, small, last_row {last = r - 1} {r = r} n last_suc))
        where
          miss : (o d : ℕ) → o < r - 1 → 0 ≤ d → d < 1 → at + ((i * r + j) * n + k) ≢ at + n + o * ((r + 1) * n) + d
          miss o d ho _ hd e =
              let same : (i * r + j) * n + k ≡ (o * r + suc o) * n + 0 = omega arith in
              let term = place_unique {i = i * r + j} {u = o * r + suc o} n hk given.terms_least same in
              let column = place_unique {i = i} {u = o} {k = j} {l = suc o} r hj (omega arith) term.0 in
              other (term.1, omega (arith, column))

      last_entry : (i j : ℕ) → suc i ≡ r → j < r
          → Quotient q.p n (coefficient a n r) (λ k. opposite q.p (coefficient a n j k))
          (λ k. matrix_from z at r n k i j)
      last_entry i j e hj = quotient_same (λ k l. refl) same (row.quotients j hj)
        where
          same : (k : ℕ) → k < n → words_from w₂ (at + (r - 1) * r * n + j * n) k ≡ matrix_from z at r n k i j
          same k l =
              let i-last : r - 1 ≡ i = omega arith in
              let place : at + (r - 1) * r * n + j * n + k ≡ at + ((i * r + j) * n + k) =
              rw i-last (omega arith) in
              rw place
              (sym (matrix_kept ((i * r + j) * n + k)
              (omega (arith, entry_end {i = i} {o = j} {r = r} n (omega arith) hj))))

      side_entry : (i : ℕ) → suc i ≡ r
          → Quotient q.p n (coefficient a n r) (λ k. get_or b k 0) (λ k. side_from z side r k i)
      side_entry i e =
          quotient_same (λ k l. rw (zero-add k) refl) (λ k l. sym (side_last z side k e)) right.quotient

      pub translated : Translated q.p r n a b at side free w z
      translated = record {
        companion = record {
          next = λ i l hi. ap (λ x. x % q.p) (one i hi);
          none = λ k i j hk hi hj other. ap (λ x. x % q.p) (zero_entry k i j hk hi hj other) ∙ zero-mod q.p;
          still = λ k i l hi. ap (λ x. x % q.p) (side_other z side k hi) ∙ zero-mod q.p;
          last = last_entry;
          right = side_entry;
        };
        below = divided_below right (row.below (ones_below ones));
        cleared = right.cleared;
        kept = kept;
      }
        where
          kept : (x : ℕ) → Outside at (r * r * n) x → Outside side n x → Outside free (3 * n) x
              → get_or z x 0 ≡ get_or w x 0
          kept x m s t =
              right.kept x s t
              ∙ row.kept x (outer m) t
              ∙ ones.old x (λ i d l _ u e. hole i l (omega arith) m)
            where
              outer : Outside at (r * r * n) x → Outside (at + (r - 1) * r * n) (r * n) x
              outer (inl h) = inl (omega arith)
              outer (inr h) = inr (omega (arith, last_row {last = r - 1} {r = r} n last_suc))

              hole : (i : ℕ) → i < r - 1 → x ≡ at + n + i * ((r + 1) * n) → Outside at (r * r * n) x → ⊥
              hole i l e (inl h) = omega arith
              hole i l e (inr h) =
                  omega (
                    arith,
                    entry_end {i = i} {o = suc i} {r = r} n (omega arith) (omega arith),
                    given.terms_least,
                  )
