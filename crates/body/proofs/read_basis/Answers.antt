-- `body::read_basis` meets its contract: the entries of A, and the rows of V behind them.
-- Assumes nothing.
use Rattle.std.proofs.Common.{[], ◌∷◌, ◌*◌, ◌+◌, arith}
use Rattle.std.proofs.lemmas.Result.{err_from_is_err_and}
use Rattle.lines.proofs.Passes.{read_more, broken_first}
use Rattle.body.specs.JobLines.{job_lines}
use Rattle.body.proofs.Waits.{entries_asked, values_ready, rows, basis-one, basis_two, basis-rows}
use Rattle.body.proofs.read_basis.Goals as goal

pub read_matrix-requires : goal.read_matrix-requires
read_matrix-requires c =
    let q = c.requires in
    entries_asked q (basis-one q)

pub returns-in_err-matrix : goal.returns-in_err-matrix
unfolding job_lines
returns-in_err-matrix c =
    let a = c.args in
    let p = err_from_is_err_and c.from_residual.result c.from_residual.ensures.1 in
    rw (p.1, p.2) (broken_first c.in_err-matrix.ensures (rows a.values (86 ∷ []) 1 a.r))

pub read_rows-requires : goal.read_rows-requires
read_rows-requires c =
    let q = c.requires in
    let a = c.args in
    let p = c.in_ok-matrix.ensures in (
      values_ready q (a.l.one + a.r * a.values.count) p.placed p.long (omega (arith, basis_two q)),
      p.field,
      omega (arith, q.small.order),
    )

pub returns : goal.returns
unfolding job_lines
returns c =
    let a = c.args in
    read_more c.in_ok-matrix.ensures (rows a.values (86 ∷ []) 1 a.r) c.read_rows.new.w a.l.one
    (omega (arith, basis-rows c.requires)) c.read_rows.result c.read_rows.ensures
