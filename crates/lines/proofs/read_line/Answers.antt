-- `lines::read_line` meets its contract: the head, and then the numbers behind it.
-- Assumes nothing.
use Rattle.std.proofs.Common.{◌≡◌, ◌+◌, Some, None, sym, [], append-nil, arith}
use Rattle.std.proofs.lemmas.Result.{err_from_is_err_and}
use Rattle.lines.proofs.Passes.{headed_read, headless_broken}
use Rattle.lines.proofs.read_line.Goals as goal

pub returns-in_err-d : goal.returns-in_err-d
returns-in_err-d c =
    let a = c.args in
    let p = err_from_is_err_and c.from_residual.result c.from_residual.ensures.1 in
    let none : c.pass_head.result ≡ None = grind arith in
    let at = rw none at c.in_err-d.ensures.value in
    let line : c.in_err-d.field-0.0 ≡ record { line = a.c.line + 1 } = cc at in
    let h = a.h.now in
    rw (p.1, p.2, line) (headless_broken a.s.now a.c a.n h [] h (sym (append-nil h)) a.from a.w.now
    (rw none at c.pass_head.ensures))

pub read_numbers-requires : goal.read_numbers-requires
read_numbers-requires c =
    let pre = c.requires in
    let some : c.pass_head.result ≡ Some c.in_ok-d.d = grind arith in
    let past = rw some at c.pass_head.ensures in
    record { placed = past.placed; low = pre.low; high = pre.high; room = pre.room }

pub returns : goal.returns
returns c =
    let a = c.args in
    let h = a.h.now in
    let some : c.pass_head.result ≡ Some c.in_ok-d.d = grind arith in
    let past = rw some at c.pass_head.ensures in
    headed_read past a.n [] h (sym (append-nil h)) a.from a.w.now _ c.read_numbers.result c.read_numbers.ensures
