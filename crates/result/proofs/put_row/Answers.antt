-- `result::put_row` meets its contract: the head, the row number and the numbers, one text after another.
-- Assumes nothing.
use Rattle.std.proofs.Common.{arith}
use Rattle.text.proofs.Puts.{put_more}
use Rattle.result.proofs.Turns.{row_ready}
use Rattle.result.proofs.put_row.Goals as goal

pub put_numbers-requires : goal.put_numbers-requires
put_numbers-requires c =
    row_ready c.requires (omega (arith, c.ranges)) c.put_bytes-a.ensures c.put_field-b.ensures

pub returns : goal.returns
returns c =
    put_more (put_more c.put_bytes-a.ensures c.put_field-b.ensures) c.put_numbers.ensures
