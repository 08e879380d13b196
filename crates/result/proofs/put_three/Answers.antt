-- `result::put_three` meets its contract: three numbers and the line feed, one text after another. Each leaves room for
-- the next.
-- Assumes nothing.
use Rattle.std.proofs.Common.{◌+◌, ◌≤◌, arith, length}
use Rattle.text.proofs.Puts.{put_more}
use Rattle.result.proofs.Room.{field_room}
use Rattle.result.proofs.put_three.Goals as goal
use Rattle.result.proofs.put_three.Goals.{After-put_field-a, After-put_field-b, Start}

behind_first : (c : After-put_field-a) → let u = c.put_field-a in u.result + 43 ≤ length u.new.d
behind_first c = field_room 43 c.ranges.x.fits c.requires c.put_field-a.ensures

pub put_field-b-requires : goal.put_field-b-requires
put_field-b-requires c = omega (arith, behind_first (goal.at.put_field-b-requires c).After-put_field-a)

behind_second : (c : After-put_field-b) → let u = c.put_field-b in u.result + 22 ≤ length u.new.d
behind_second c =
    field_room 22 c.ranges.y.fits (behind_first (goal.at.After-put_field-b c).After-put_field-a) c.put_field-b.ensures

pub put_field-c-requires : goal.put_field-c-requires
put_field-c-requires c = omega (arith, behind_second (goal.at.put_field-c-requires c).After-put_field-b)

pub put_byte-requires : goal.put_byte-requires
put_byte-requires c =
    omega (
      arith,
      field_room 1 c.ranges.z.fits (behind_second (goal.at.put_byte-requires c).After-put_field-b)
          c.put_field-c.ensures,
    )

pub returns : goal.returns
returns c =
    let two = put_more c.put_field-a.ensures c.put_field-b.ensures in
    put_more (put_more two c.put_field-c.ensures) c.put_byte.ensures
