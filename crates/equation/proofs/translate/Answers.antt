-- `equation::translate` meets its contract: the ones, the last row and the right side are written one after the other.
-- Assumes nothing.
use Rattle.std.proofs.Common.{◌∙◌, ◌+◌, ◌-◌, ◌*◌, ◌≤◌, arith, length}
use Rattle.equation.proofs.System.{ones_spread, ones_below, row_inside, row_dividable, side_divisible, side_parts}
use Rattle.equation.proofs.System.{side_divided, translated}
use Rattle.equation.proofs.translate.Goals as goal
use Rattle.equation.proofs.translate.Goals.{After-spread}

-- where the last row starts
abbrev row_start : (c : After-spread)
    → let s = c.args in
    ((s.g.r - 1) * s.g.r ≤ 64) × (s.at + (s.g.r - 1) * s.g.r * s.g.n ≤ length s.w.now)
row_start c = row_inside c.requires

pub spread-requires : goal.spread-requires
spread-requires c = ones_spread c.requires (omega arith)

pub divide_row-requires : goal.divide_row-requires
divide_row-requires c =
    let start = c.requires in
    row_dividable start c.invert-lead.ensures c.spread.auto.w
    (ones_below start c.spread.ensures)

pub divide-requires : goal.divide-requires
divide-requires c =
    let start = c.requires in
    side_parts start
    (side_divisible start c.invert-lead.ensures
    (c.divide_row.auto.w ∙ c.spread.auto.w)
    (c.divide_row.ensures.below (ones_below start c.spread.ensures)))

pub returns : goal.returns
returns c =
    translated c.requires c.spread.ensures c.divide_row.ensures (side_divided c.requires c.divide.ensures)
