-- `lines::read_rows` meets its contract. The loop's invariant: the lines of the rows before k are passed.
-- Assumes nothing.
use Rattle.std.proofs.Common.{◌+◌}
use Rattle.std.proofs.lemmas.Result.{err_from_is_err_and}
use Rattle.lines.specs.Forms.{row_forms}
use Rattle.lines.specs.Steps.{form_of, Read}
use Rattle.lines.proofs.Passes.{Passed-none}
use Rattle.lines.proofs.Blocks.{rows_next, rows-broken}
use Rattle.lines.proofs.read_rows.Goals as goal
use Rattle.lines.proofs.read_rows.Goals.{After-read_row}

pub loop-k-init : goal.loop-k-init
unfolding row_forms
loop-k-init c =
    let a = c.args in
    Passed-none a.s.now a.c a.from a.w.now c.requires.0.placed c.requires.1

-- the rows up to k, with what the reading of row k found
found
    : (c : After-read_row) →
    let a = c.args in
    let l = c.loop-k in
    Read a.s.now a.c (row_forms (form_of a.n) a.h.now a.first (l.k + 1)) a.from a.w.now
    c.read_row.new.w c.read_row.result
found c =
    let a = c.args in
    let l = c.loop-k in
    let new = c.read_row.new.w in
    rows_next a.n a.h.now a.first l.k l.invariant new c.read_row.result c.read_row.ensures

pub returns-in_err-d : goal.returns-in_err-d
returns-in_err-d c =
    let a = c.args in
    let p = err_from_is_err_and c.from_residual.result c.from_residual.ensures.1 in
    rw (p.1, p.2) (rows-broken a.n a.h.now a.first c.loop-k.k a.rows c.loop-k-test.true
    (rw c.in_err-d.was at (found (goal.at.returns-in_err-d c).After-read_row)))

pub loop-k-preserved : goal.loop-k-preserved
loop-k-preserved c = rw c.in_ok-d.was at (found (goal.at.loop-k-preserved c).After-read_row)
