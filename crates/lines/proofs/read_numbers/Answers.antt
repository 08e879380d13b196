-- `lines::read_numbers` meets its contract. The loop's invariant is `Going`.
-- Assumes nothing.
use Rattle.std.proofs.Common.{◌≡◌, Some, None, ◌+◌, [], ◌∷◌, arith}
use Rattle.std.proofs.lemmas.Result.{err_from_is_err_and}
use Rattle.text.proofs.Machine.{passes}
use Rattle.lines.proofs.Bytes.{goes_on, goes_other, more_at}
use Rattle.lines.proofs.Going.{Going-start, Going-more, going_not, going_end, Going-done}
use Rattle.lines.proofs.read_numbers.Goals as goal

pub loop-j-init : goal.loop-j-init
loop-j-init c =
    let a = c.args in
    Going-start a.s.now a.c a.n.count a.n.low a.n.high a.from a.w.now c.requires.placed

pub returns-in_err-x : goal.returns-in_err-x
returns-in_err-x c =
    let p = err_from_is_err_and c.from_residual.result c.from_residual.ensures.1 in
    let none : c.read_item.result ≡ None = grind arith in
    let at = rw none at c.in_err-x.ensures.value in
    let line : c.in_err-x.field-0.0 ≡ record { line = c.args.c.line + 1 } = cc at in
    rw (p.1, p.2, line) (going_not c.loop-j.invariant c.loop-j-test.true (rw none at c.read_item.ensures))

pub loop-j-preserved : goal.loop-j-preserved
loop-j-preserved c =
    let n = c.args.n in
    let x = c.in_ok-x.x in
    let some : c.read_item.result ≡ Some (x, c.in_ok-x.e) = grind arith in
    let w = rw some at c.read_item.ensures in
    rw (passes n.low n.high x c.requires.low c.requires.high w.0)
    (Going-more c.loop-j.invariant c.loop-j-test.true x c.in_ok-x.e c.requires.room w)

pub returns-then-not-starts_with : goal.returns-then-not-starts_with
returns-then-not-starts_with c =
    going_end c.loop-j.invariant c.loop-j-test.false
    (goes_other c.args.s.now (10 ∷ []) c.loop-j.d.byte _ c.starts_with.ensures.value c.if-not-starts_with.true)

pub returns : goal.returns
returns c =
    let s = c.args.s.now in
    let at = c.loop-j.d.byte in
    let feed = goes_on s (10 ∷ []) at _ c.starts_with.ensures.value c.if-not-starts_with.false in
    rw c.behind_line.ensures
    (Going-done c.loop-j.invariant c.loop-j-test.false feed (more_at s at 10 _ feed) c.requires.placed.line)
