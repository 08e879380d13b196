-- `equation::divide_row` meets its contract. The loop's invariant is `RowTurn`: j quotients are written.
-- Assumes nothing.
use Rattle.std.proofs.Common.{refl}
use Rattle.division.proofs.Parts.{divisible_cut, divided_cut}
use Rattle.equation.proofs.Row.{row_divisible, row_next}
use Rattle.equation.proofs.divide_row.Goals as goal

pub divide-requires : goal.divide-requires
divide-requires c = divisible_cut (row_divisible c.requires c.loop-j.invariant c.loop-j-test.true) refl refl

pub loop-j-preserved : goal.loop-j-preserved
loop-j-preserved c =
    let given = row_divisible c.requires c.loop-j.invariant c.loop-j-test.true in
    row_next c.requires c.loop-j.invariant c.loop-j-test.true
    c.divide.auto.w (divided_cut given refl refl c.divide.ensures)
