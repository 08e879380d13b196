-- `solve::read_full` meets its contract. A read fills the part of the buffer behind what is filled, so that the front
-- that is filled holds what was given before and, behind it, what is given now.
-- Assumes nothing.
use Rattle.std.proofs.Common.{◌≡◌, ℕ, ◌+◌, ◌≤◌, List, ◌++◌, length, take, ap, subst, sym, ◌∙◌, arith}
use Rattle.std.proofs.Math.Seq.{take-append-add}
use Rattle.std.proofs.lemmas.List.{take-append-le, length-take-le, length-append}
use Rattle.std.specs.Io.KnownBytes.{Consumes}
use Rattle.std.proofs.KnownBytes.{Consumes-trans}
use Rattle.solve.proofs.read_full.Goals as goal

-- of a list whose front of f is kept and which goes on with ys and zs, the first f + n
front_more : (f n : ℕ) (xs ys zs : List ℕ) → f ≤ length xs → n ≤ length ys
    → take (f + n) (take f xs ++ (ys ++ zs)) ≡ take f xs ++ take n ys
front_more f n xs ys zs within more =
    subst (λ (k : ℕ). take (k + n) (take f xs ++ (ys ++ zs)) ≡ take f xs ++ take n ys) (length-take-le f xs within)
    (take-append-add (take f xs) (ys ++ zs) n ∙ ap (λ (l : List ℕ). take f xs ++ l) (take-append-le n ys zs more))

pub loop-length-preserved : goal.loop-length-preserved
loop-length-preserved g c =
    let at = c.loop-length in
    let read = c.in_ok-more.ensures in
    let more = c.in_ok-more.more in
    let front = length-take-le at.length at.buffer at.invariant.within in
    record {
      within = simp length-append (omega (arith, read.bound.0, front));
      given =
          subst (Consumes _ _)
          (sym (front_more at.length more at.buffer c.read.new.buf _ at.invariant.within read.bound.0))
          (Consumes-trans _ _ _ _ _ at.invariant.given read.bytes.0);
    }
