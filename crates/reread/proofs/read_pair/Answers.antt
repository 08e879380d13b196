-- `reread::read_pair` meets its contract: the entries of Y, and those of Z behind them.
-- Assumes nothing.
use Rattle.std.proofs.Common.{◌≡◌, refl, List, [], ◌∷◌, ℕ, ◌+◌, ◌*◌, arith}
use Rattle.std.proofs.lemmas.Result.{err_from_is_err_and}
use Rattle.text.specs.Lines.{Form, total}
use Rattle.lines.specs.declared.Numbers.{Numbers}
use Rattle.lines.specs.Forms.{matrix_forms}
use Rattle.lines.specs.Steps.{form_of}
use Rattle.lines.proofs.Forms.{total-matrix}
use Rattle.lines.proofs.Passes.{read_more, broken_first}
use Rattle.body.proofs.Sizes.{sizes}
use Rattle.result.specs.ResultSheet.{result_lines}
use Rattle.reread.proofs.Results.{awaited_ready, matrix-small}
use Rattle.reread.proofs.read_pair.Goals as goal

-- the lines of a matrix with a word
abbrev entries : ℕ → Numbers → ℕ → List Form
entries word series r = matrix_forms (form_of series) (word ∷ []) r 1 r

pub overflow_mul-one : goal.overflow_mul-one
overflow_mul-one c = let s = sizes c.requires.small in omega arith

pub overflow_mul-one-2 : goal.overflow_mul-one-2
overflow_mul-one-2 c = omega (arith, matrix-small c.requires)

pub read_matrix-requires : goal.read_matrix-requires
read_matrix-requires c =
    let q = c.requires in
    let places = 0 + c.args.r * (c.args.r * c.args.series.count) in
    let ready = awaited_ready q places q.placed refl (omega (arith, matrix-small q)) in
    let m = q.small in
    (ready, q.field, m.order_least, omega (arith, m.order), omega (arith, m.order))

pub returns-in_err-d : goal.returns-in_err-d
unfolding result_lines
returns-in_err-d c =
    let a = c.args in
    let p = err_from_is_err_and c.from_residual.result c.from_residual.ensures.1 in
    rw (p.1, p.2) (broken_first c.in_err-d.ensures (entries 90 a.series a.r))

pub read_matrix-requires-2 : goal.read_matrix-requires-2
read_matrix-requires-2 c =
    let p = c.in_ok-d.ensures in
    let q = c.requires in
    let one = c.args.r * (c.args.r * c.args.series.count) in
    let ready = awaited_ready q (one + one) p.placed p.long (omega (arith, matrix-small q)) in
    let l = q.small in
    (ready, p.field, l.order_least, omega (arith, l.order), omega (arith, l.order))

pub returns : goal.returns
unfolding result_lines
returns c =
    let a = c.args in
    let n = a.series in
    let behind : 0 + total (entries 89 n a.r) ≡ a.r * (a.r * n.count) =
    omega (arith, total-matrix n.count n.low n.high (89 ∷ []) a.r 1 a.r) in
    read_more c.in_ok-d.ensures (entries 90 n a.r) c.read_matrix-2.new.w _ behind c.read_matrix-2.result
    c.read_matrix-2.ensures
