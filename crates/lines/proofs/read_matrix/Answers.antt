-- `lines::read_matrix` meets its contract. The loop's invariant: the lines of the rows before k are passed.
-- Assumes nothing.
use Rattle.std.proofs.Common.{[], ◌∷◌, ◌+◌, arith}
use Rattle.std.proofs.lemmas.Result.{err_from_is_err_and}
use Rattle.lines.specs.Forms.{matrix_forms}
use Rattle.lines.specs.Steps.{form_of, Read}
use Rattle.lines.proofs.Forms.{word_digit}
use Rattle.lines.proofs.Passes.{Passed-none}
use Rattle.lines.proofs.Blocks.{matrix_next, matrix-broken}
use Rattle.lines.proofs.read_matrix.Goals as goal
use Rattle.lines.proofs.read_matrix.Goals.{After-read_rows}

pub loop-k-init : goal.loop-k-init
unfolding matrix_forms
loop-k-init c =
    let a = c.args in
    Passed-none a.s.now a.c a.from a.w.now c.requires.0.placed c.requires.1

-- the rows up to k, with what the reading of row k found
found
    : (c : After-read_rows) →
    let a = c.args in
    let l = c.loop-k in
    Read a.s.now a.c (matrix_forms (form_of a.n) (a.word ∷ []) a.columns 1 (l.k + 1)) a.from a.w.now
    c.read_rows.new.w c.read_rows.result
found c =
    let a = c.args in
    let l = c.loop-k in
    let head = word_digit a.word l.k (omega (arith, c.loop-k-test.true, c.requires.3)) in
    let new = c.read_rows.new.w in
    matrix_next a.n (a.word ∷ []) a.columns l.k l.invariant _ head new c.read_rows.result c.read_rows.ensures

pub returns-in_err-d : goal.returns-in_err-d
returns-in_err-d c =
    let a = c.args in
    let p = err_from_is_err_and c.from_residual.result c.from_residual.ensures.1 in
    rw (p.1, p.2) (matrix-broken a.n (a.word ∷ []) a.columns c.loop-k.k a.rows c.loop-k-test.true
    (rw c.in_err-d.was at (found (goal.at.returns-in_err-d c).After-read_rows)))

pub loop-k-preserved : goal.loop-k-preserved
loop-k-preserved c = rw c.in_ok-d.was at (found (goal.at.loop-k-preserved c).After-read_rows)
