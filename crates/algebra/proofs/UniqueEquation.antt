-- A written equation has one solution: two series that satisfy it modulo a prime p agree modulo p below n, if n is at
-- most p and the first coefficient of its highest term is not 0. Term after term, from the start values and then from the
-- highest term.
-- Assumes nothing.
use mathlib.Core.Path.{◌≡◌, sym, ◌∙◌, ap}
use mathlib.Core.Logic.{◌≢◌}
use Prim.Native.Nat.{ℕ, zero, suc, ◌+◌, ◌-◌, ◌*◌, ◌%◌, ◌≤◌, ◌<◌}
use native.Mathlib.Nat as N
use native.Mathlib.Decide.{dec_lt}
use native.Mathlib.Omega.{arith}
use Rattle.algebra.specs.Numbers.{Prime, rise, factorial}
use Rattle.algebra.specs.Meaning.{EquationSeries}
use Rattle.algebra.specs.Series.{EqMod}
use Rattle.algebra.specs.Residue.{Res, res}
use Rattle.algebra.proofs.Numbers.{factorial-rise}
use Rattle.algebra.proofs.Ring as A
use Rattle.algebra.proofs.Mod.{mod-suc}
use Rattle.algebra.proofs.Residue.{Residues, res-mul, of_mod, mod_of, of_some, cancel_factor}
use Rattle.algebra.proofs.Equation.{cancel_rise, low_terms, low_terms_cong, written_apart}

module _ {p n : ℕ} (pr : Prime p) (fits : n ≤ p) where
  pos : 0 < p
  pos = omega (arith, pr.two)

  module _ {r : ℕ} {a : ℕ → ℕ → ℕ} {b start y w : ℕ → ℕ} (lead : a r 0 % p ≢ 0)
      (g : EquationSeries p r n a b start y) (h : EquationSeries p r n a b start w)
    where
      open Residues p use {add as ◌⊕◌, mul as ◌⊗◌}

      infixl 65 ◌⊕◌
      infixl 70 ◌⊗◌
      abbrev low : (ℕ → ℕ) → ℕ → Res p
      low = low_terms p r a

      -- y and w agree below m
      abbrev Agree : ℕ → Type 0
      Agree m = EqMod m (λ k. res p (y k)) (λ k. res p (w k))

      pub equation_unique : (k : ℕ) → k < n → y k % p ≡ w k % p
      equation_unique k l = mod_of p pos (y k) (w k) ((all_agree n (N.le_refl n)).at k l)
        where
          start_at : (x : ℕ → ℕ) → EquationSeries p r n a b start x → (m : ℕ) → m < n → m < r
              → res p (rise 0 m) ⊗ res p (x m) ≡ res p (start m)
          start_at x f m s l =
              rw (← res-mul, N.mul_comm, ← factorial-rise) (of_mod p pos (x m * factorial m) (start m) (f.first m l s))

          next_at : (k : ℕ) → k + r < n → Agree (k + r) → res p (y (k + r)) ≡ res p (w (k + r))
          next_at k s before =
              cancel_rise p pr r k (omega arith) (res p (y (k + r))) (res p (w (k + r)))
              (cancel_factor p pr (res p (a r 0)) _ _ (of_some p pos (a r 0) lead)
              (A.add_cancel (Residues p) (low w k) highest))
            where
              highest : low w k ⊕ res p (a r 0) ⊗ (res p (rise k r) ⊗ res p (y (k + r)))
                  ≡ low w k ⊕ res p (a r 0) ⊗ (res p (rise k r) ⊗ res p (w (k + r)))
              highest =
                  ap (λ x. x ⊕ res p (a r 0) ⊗ (res p (rise k r) ⊗ res p (y (k + r))))
                  (sym (low_terms_cong p r a y w k before.at))
                  ∙ sym (written_apart p r a y k)
                  ∙ of_mod p pos _ _ (g.written k s ∙ sym (h.written k s))
                  ∙ written_apart p r a w k

          one_more : (m : ℕ) → m < n → Agree m → res p (y m) ≡ res p (w m)
          one_more m l before = go (dec_lt m r)
            where
              go : Dec (m < r) → res p (y m) ≡ res p (w m)
              go (yes s) =
                  cancel_rise p pr m 0 (omega arith) (res p (y m)) (res p (w m))
                  (start_at y g m l s ∙ sym (start_at w h m l s))
              go (no s) =
                  let e : m - r + r ≡ m = omega arith in
                  rw e at (next_at (m - r) (omega arith) (rw e before))

          all_agree : (m : ℕ) → m ≤ n → Agree m
          all_agree zero l = record { at = λ k s. absurd (omega arith) }
          all_agree (suc m) l =
              let before : Agree m = all_agree m (omega arith) in
              mod-suc before (one_more m l before)
