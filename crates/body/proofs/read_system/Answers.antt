-- `body::read_system` meets its contract: the entries of A, the rows of b, the line v, each behind the others.
-- Assumes nothing.
use Rattle.std.proofs.Common.{[], ◌∷◌, ◌*◌, ◌+◌, arith, Ok, Err}
use Rattle.std.proofs.lemmas.Result.{err_from_is_err_and}
use Rattle.lines.specs.Steps.{form_of, Passed}
use Rattle.lines.proofs.Passes.{read_more, broken_first}
use Rattle.body.specs.JobLines.{job_lines}
use Rattle.body.proofs.Waits.{
  fits,
  entries_asked,
  series_ready,
  values_ready,
  entries_rows,
  rows,
  system-one,
  system_two,
  system_three,
  system-rows,
  system_last,
}
use Rattle.body.proofs.read_system.Goals as goal
use Rattle.body.proofs.read_system.Goals.{In_ok-right}

pub read_matrix-requires : goal.read_matrix-requires
read_matrix-requires c =
    let q = c.requires in
    entries_asked q (system-one q)

pub returns-in_err-matrix : goal.returns-in_err-matrix
unfolding job_lines
returns-in_err-matrix c =
    let a = c.args in
    let p = err_from_is_err_and c.from_residual.result c.from_residual.ensures.1 in
    rw (p.1, p.2) (broken_first (broken_first c.in_err-matrix.ensures (rows a.series (98 ∷ []) 1 a.r))
    (form_of a.values (118 ∷ []) ∷ []))

pub read_rows-requires : goal.read_rows-requires
read_rows-requires c =
    let q = c.requires in
    let a = c.args in
    let p = c.in_ok-matrix.ensures in (
      series_ready q (a.l.one + a.r * a.series.count) p.placed p.long (omega (arith, system_two q)),
      p.field,
      omega (arith, q.small.order),
    )

pub returns-in_err-right : goal.returns-in_err-right
unfolding job_lines
returns-in_err-right c =
    let a = c.args in
    let p = err_from_is_err_and c.from_residual-in_err-right.result c.from_residual-in_err-right.ensures.1 in
    let more = read_more c.in_ok-matrix.ensures (rows a.series (98 ∷ []) 1 a.r) c.read_rows.new.w a.l.one
    (omega (arith, system-rows c.requires)) (Err c.in_err-right.field-0.0) c.in_err-right.ensures in
    rw (p.1, p.2) (broken_first more (form_of a.values (118 ∷ []) ∷ []))

pub overflow_add-l : goal.overflow_add-l
overflow_add-l c = omega (arith, (fits c.requires).all)

-- the entries of A and the rows of b are passed
both : (c : In_ok-right) →
    let a = c.args in
    Passed a.s.now a.c (entries_rows a.series a.r) 0 a.w.now c.read_rows.new.w c.in_ok-right.right
both c =
    let a = c.args in
    read_more c.in_ok-matrix.ensures (rows a.series (98 ∷ []) 1 a.r) c.read_rows.new.w a.l.one
    (omega (arith, system-rows c.requires)) (Ok c.in_ok-right.right) c.in_ok-right.ensures

pub read_line-requires : goal.read_line-requires
read_line-requires c =
    let q = c.requires in
    let a = c.args in
    let p = both (goal.at.read_line-requires c).In_ok-right in
    values_ready q (a.l.one + a.l.two + a.values.count) p.placed p.long (omega (arith, system_three q))

pub returns : goal.returns
unfolding job_lines
returns c =
    let a = c.args in
    read_more (both (goal.at.returns c).In_ok-right) (form_of a.values (118 ∷ []) ∷ []) c.read_line.new.w
    (a.l.one + a.l.two) (omega (arith, system_last c.requires)) c.read_line.result c.read_line.ensures
