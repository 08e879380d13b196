-- `text::put_number` meets its contract: a minus sign where it is wanted, and then the digits of the size.
-- Assumes nothing.
use Rattle.std.proofs.Common.{ap, ◌∙◌, unsigned_abs, to_z-of_z}
use Rattle.text.proofs.Spelling.{spell_negative, spell_natural}
use Rattle.text.proofs.Puts.{put_more, put_as}
use Rattle.text.proofs.put_number.Goals as goal
use Rattle.text.proofs.put_number.Goals.{then-x-lt0, else-x-lt0}

pub returns : goal.returns
returns c =
    let size = c.unsigned_abs.ensures.value ∙ ap unsigned_abs (to_z-of_z c.ranges.x) in
    let x = to_z-of_z c.ranges.x in
    elim c.if-x-lt0.branch [
      | then-x-lt0 w ↦
          put_as (spell_negative c.args.x _ (rw x at w.if-x-lt0.true) size)
          (put_more w.put_byte-from.ensures (rw (w.from-is, w.d-is) at c.put_natural.ensures))
      | else-x-lt0 w ↦
          put_as (spell_natural c.args.x _ (rw x at w.if-x-lt0.false) size)
          (rw (w.from-is, w.d-is) at c.put_natural.ensures)
    ]
