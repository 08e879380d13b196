-- `lines::read_row` meets its contract: the head, a tab and one digit, and then the numbers behind them.
-- Assumes nothing.
use Rattle.std.proofs.Common.{◌≡◌, Some, None, refl, ap, List, [], ◌∷◌, ◌++◌, ℕ, ◌+◌, arith}
use Rattle.std.proofs.lemmas.Result.{err_from_is_err_and}
use Rattle.text.specs.Decimal.{digits}
use Rattle.text.proofs.Digits.{digits-small}
use Rattle.lines.specs.Forms.{numbered}
use Rattle.lines.proofs.Passes.{headed_read, headless_broken}
use Rattle.lines.proofs.read_row.Goals as goal

pub returns-in_err-d : goal.returns-in_err-d
returns-in_err-d c =
    let a = c.args in
    let p = err_from_is_err_and c.from_residual.result c.from_residual.ensures.1 in
    let none : c.pass_head.result ≡ None = grind arith in
    let at = rw none at c.in_err-d.ensures.value in
    let line : c.in_err-d.field-0.0 ≡ record { line = a.c.line + 1 } = cc at in
    let h = a.h.now in
    rw (p.1, p.2, line) (headless_broken a.s.now a.c a.n h (9 ∷ digits a.i) (numbered h a.i) refl a.from a.w.now
    (rw none at c.pass_head.ensures))

pub read_line-requires : goal.read_line-requires
read_line-requires c =
    let pre = c.requires.0 in
    let some : c.pass_head.result ≡ Some c.in_ok-d.d = grind arith in
    let past = rw some at c.pass_head.ensures in
    record { placed = past.placed; low = pre.low; high = pre.high; room = pre.room }

pub returns : goal.returns
returns c =
    let a = c.args in
    let some : c.pass_head.result ≡ Some c.in_ok-d.d = grind arith in
    let past = rw some at c.pass_head.ensures in
    let head = ap (λ (t : List ℕ). a.h.now ++ (9 ∷ t)) (digits-small a.i c.requires.1) in
    headed_read past a.n (9 ∷ (48 + a.i) ∷ []) (numbered a.h.now a.i) head a.from a.w.now _ c.read_line.result
    c.read_line.ensures
