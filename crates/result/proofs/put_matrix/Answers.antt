-- `result::put_matrix` meets its contract. The loop's invariant is `MatrixPut`.
-- Assumes nothing.
use Rattle.std.proofs.Common.{arith}
use Rattle.result.proofs.Turns.{matrix-none, matrix_ready, matrix_next}
use Rattle.result.proofs.put_matrix.Goals as goal

pub loop-i-init : goal.loop-i-init
loop-i-init c = matrix-none c.requires.0 c.requires.1 c.requires.2 c.args.word

pub put_rows-e-requires : goal.put_rows-e-requires
put_rows-e-requires c =
    let given = c.requires in
    matrix_ready given.0 given.1 given.2 c.loop-i.invariant (omega arith) (omega arith)

pub loop-i-preserved : goal.loop-i-preserved
loop-i-preserved c =
    let given = c.requires in
    matrix_next given.0 given.1 given.2 c.loop-i.invariant (omega arith) c.put_rows-e.ensures
