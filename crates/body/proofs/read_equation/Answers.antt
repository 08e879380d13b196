-- `body::read_equation` meets its contract: the rows of a, the lines b and start, each behind the others.
-- Assumes nothing.
use Rattle.std.proofs.Common.{refl, [], ◌∷◌, ◌*◌, ◌+◌, arith, Ok, Err}
use Rattle.std.proofs.lemmas.Result.{err_from_is_err_and}
use Rattle.lines.specs.Steps.{form_of, Passed}
use Rattle.lines.proofs.Passes.{read_more, broken_first}
use Rattle.body.specs.JobLines.{job_lines}
use Rattle.body.proofs.Waits.{
  fits,
  series_ready,
  values_ready,
  rows_right,
  equation-one,
  equation_two,
  equation_three,
  equation_right,
  equation_last,
}
use Rattle.body.proofs.read_equation.Goals as goal
use Rattle.body.proofs.read_equation.Goals.{In_ok-right}

pub read_rows-requires : goal.read_rows-requires
read_rows-requires c =
    let q = c.requires in
    let places = 0 + (c.args.r + 1) * c.args.series.count in
    let ready = series_ready q places q.placed refl (omega (arith, equation-one q)) in
    (ready, q.field, omega (arith, q.small.order))

pub returns-in_err-rows : goal.returns-in_err-rows
unfolding job_lines
returns-in_err-rows c =
    let a = c.args in
    let p = err_from_is_err_and c.from_residual.result c.from_residual.ensures.1 in
    rw (p.1, p.2) (broken_first (broken_first c.in_err-rows.ensures (form_of a.series (98 ∷ []) ∷ []))
    (form_of a.values (115 ∷ 116 ∷ 97 ∷ 114 ∷ 116 ∷ []) ∷ []))

pub read_line-requires : goal.read_line-requires
read_line-requires c =
    let q = c.requires in
    let a = c.args in
    let p = c.in_ok-rows.ensures in
    series_ready q (a.l.one + a.series.count) p.placed p.long (omega (arith, equation_two q))

pub returns-in_err-right : goal.returns-in_err-right
unfolding job_lines
returns-in_err-right c =
    let a = c.args in
    let p = err_from_is_err_and c.from_residual-in_err-right.result c.from_residual-in_err-right.ensures.1 in
    let more = read_more c.in_ok-rows.ensures (form_of a.series (98 ∷ []) ∷ []) c.read_line.new.w a.l.one
    (omega (arith, equation_right c.requires)) (Err c.in_err-right.field-0.0) c.in_err-right.ensures in
    rw (p.1, p.2) (broken_first more (form_of a.values (115 ∷ 116 ∷ 97 ∷ 114 ∷ 116 ∷ []) ∷ []))

pub overflow_add-l : goal.overflow_add-l
overflow_add-l c = omega (arith, (fits c.requires).all)

-- the rows of a and the line b are passed
both : (c : In_ok-right) →
    let a = c.args in
    Passed a.s.now a.c (rows_right a.series a.r) 0 a.w.now c.read_line.new.w c.in_ok-right.right
both c =
    let a = c.args in
    read_more c.in_ok-rows.ensures (form_of a.series (98 ∷ []) ∷ []) c.read_line.new.w a.l.one
    (omega (arith, equation_right c.requires)) (Ok c.in_ok-right.right) c.in_ok-right.ensures

pub read_line-requires-2 : goal.read_line-requires-2
read_line-requires-2 c =
    let q = c.requires in
    let a = c.args in
    let p = both (goal.at.read_line-requires-2 c).In_ok-right in
    values_ready q (a.l.one + a.l.two + a.values.count) p.placed p.long (omega (arith, equation_three q))

pub returns : goal.returns
unfolding job_lines
returns c =
    let a = c.args in
    read_more (both (goal.at.returns c).In_ok-right) (form_of a.values (115 ∷ 116 ∷ 97 ∷ 114 ∷ 116 ∷ []) ∷ [])
    c.read_line-2.new.w (a.l.one + a.l.two) (omega (arith, equation_last c.requires))
    c.read_line-2.result c.read_line-2.ensures
