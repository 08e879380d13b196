-- `sheet::fill_rooms` meets its contract: each room is filled by the part of the numbers that is its own.
-- Assumes nothing.
use Rattle.std.proofs.Common.{◌+◌, arith}
use Rattle.sheet.proofs.Rooms.{filled_part}
use Rattle.sheet.proofs.fill_rooms.Goals as goal

pub returns : goal.returns
returns c =
    let w = c.args.w.now in
    let l = c.args.l in (
      filled_part w 0 l.one l.one (omega arith) (omega arith) c.fill.ensures,
      filled_part w l.one (l.one + l.two) l.two (omega arith) (omega arith) c.fill-2.ensures,
      filled_part w (l.one + l.two) (l.one + l.two + l.three) l.three (omega arith) (omega arith) c.fill-3.ensures,
    )
