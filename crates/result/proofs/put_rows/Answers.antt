-- `result::put_rows` meets its contract. The loop's invariant is `RowsPut`.
-- Assumes nothing.
use Rattle.std.proofs.Common.{arith}
use Rattle.result.proofs.Turns.{rows_none, rows_ready, rows_next}
use Rattle.result.proofs.put_rows.Goals as goal

pub loop-i-init : goal.loop-i-init
loop-i-init c = rows_none c.requires.0 c.requires.1

pub put_row-e-requires : goal.put_row-e-requires
put_row-e-requires c =
    rows_ready c.requires.0 c.requires.1 c.loop-i.invariant (omega arith) (omega arith) (omega arith)

pub loop-i-preserved : goal.loop-i-preserved
loop-i-preserved c =
    rows_next c.requires.0 c.requires.1 c.loop-i.invariant (omega arith) c.put_row-e.ensures
