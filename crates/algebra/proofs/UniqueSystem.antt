-- A system has one solution: two series that satisfy it modulo a prime p agree modulo p below n, if n is at most p.
-- Assumes nothing.
use mathlib.Core.Path.{◌≡◌, sym, ◌∙◌, ap}
use Prim.Native.Nat.{ℕ, suc, ◌%◌, ◌≤◌, ◌<◌}
use native.Mathlib.Omega.{arith}
use Rattle.algebra.specs.Numbers.{Prime}
use Rattle.algebra.specs.Meaning.{SystemSeries}
use Rattle.algebra.specs.Series.{EqMod}
use Rattle.algebra.specs.Matrix.{entry}
use Rattle.algebra.proofs.Derivative.{unique}
use Rattle.algebra.proofs.Matrix.{Matrices, cancel_matrices}
use Rattle.algebra.proofs.Residue.{Residues, of_mod, mod_of, cancel_residues}
use Rattle.algebra.proofs.System.{table_series, column_series}
use Rattle.algebra.proofs.System.{column_first, column_cong, solves_of_next}

module _ {p n : ℕ} (pr : Prime p) (fits : n ≤ p) where
  pos : 0 < p
  pos = omega (arith, pr.two)

  module _ {r : ℕ} {a : ℕ → ℕ → ℕ → ℕ} {b : ℕ → ℕ → ℕ} {v : ℕ → ℕ} {y w : ℕ → ℕ → ℕ}
      (g : SystemSeries p r n a b v y) (h : SystemSeries p r n a b v w)
    where
      pub system_unique : (k i : ℕ) → k < n → i < r → y k i % p ≡ w k i % p
      system_unique k i l q =
          mod_of p pos (y k i) (w k i)
          (sym (column_first p r y k i q) ∙ ap (λ m. entry m i 0) (same.at k (omega arith)) ∙ column_first p r w k i q)
        where
          start : column_series p r y 0 ≡ column_series p r w 0
          start = column_cong p r y w 0 0 (λ i q. of_mod p pos (y 0 i) (w 0 i) (g.start i q ∙ sym (h.start i q)))

          same : EqMod (suc k) (column_series p r y) (column_series p r w)
          same =
              unique (Matrices (Residues p) r) (table_series p r a) (column_series p r b)
              (cancel_matrices (Residues p) r (cancel_residues p pr fits)) k l start
              (solves_of_next p r pos a b y l g.next) (solves_of_next p r pos a b w l h.next)
