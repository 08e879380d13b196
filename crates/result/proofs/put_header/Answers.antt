-- `result::put_header` meets its contract: the words, which leave room for the numbers, and the numbers.
-- Assumes nothing.
use Rattle.std.proofs.Common.{append_assoc, arith}
use Rattle.text.proofs.Puts.{put_more, put_as}
use Rattle.result.proofs.Room.{lead_room}
use Rattle.result.proofs.put_header.Goals as goal

pub put_three-requires : goal.put_three-requires
put_three-requires c =
    let put = c.put_lead-a.ensures in
    omega (arith, c.requires, put.end, put.long, lead_room c.args.h.kind)

pub returns : goal.returns
returns c =
    put_as (simp append_assoc) (put_more c.put_lead-a.ensures c.put_three.ensures)
