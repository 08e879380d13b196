-- `text::reduce` meets its contract: the remainder from 0 on is the residue.
-- Assumes nothing.
use Rattle.std.proofs.Common.{◌≡◌, ap, ◌∙◌, pos, unsigned_abs, w64, SFits, to_z, to_z-of_z, arith}
use Rattle.std.proofs.Math.Facts.{to_z_pos}
use Rattle.text.proofs.Classes.{rem_residue}
use Rattle.text.proofs.reduce.Goals as goal

pub returns : goal.returns
returns c =
    let fits : SFits w64 c.rem_euclid.result = record { sfits = c.rem_euclid.type_inv } in
    let p : to_z w64 c.args.p ≡ pos c.args.p = to_z_pos w64 {n = c.args.p} (omega arith) in
    ap unsigned_abs (to_z-of_z fits ∙ c.rem_euclid.ensures.value)
    ∙ rw (to_z-of_z c.ranges.x, p) (rem_residue c.args.x c.args.p c.requires)
