-- `lines::read_item` meets its contract: a tab, the field behind it, its end, and the number that it spells.
-- Assumes nothing.
use Rattle.std.proofs.Common.{◌≡◌, [], ◌∷◌, ◌+◌, ◌<◌, arith, length, drop}
use Rattle.text.proofs.Machine.{passes}
use Rattle.lines.proofs.Bytes.{goes_on, goes_other}
use Rattle.lines.proofs.Items.{item_unended, item_is, item_not}
use Rattle.lines.proofs.read_item.Goals as goal
use Rattle.lines.proofs.read_item.Goals.{After-end_field-end}

pub returns-then-not-starts_with : goal.returns-then-not-starts_with
returns-then-not-starts_with c =
    let a = c.args in
    λ z t w u q. goes_other a.s.now (9 ∷ []) a.c.byte _ c.starts_with.ensures.value c.if-not-starts_with.true _ q

-- there is a tab
tab_at : (c : After-end_field-end) → drop c.args.c.byte c.args.s.now ≡ 9 ∷ drop (c.args.c.byte + 1) c.args.s.now
tab_at c =
    goes_on c.args.s.now (9 ∷ []) c.args.c.byte _ c.starts_with.ensures.value c.if-not-starts_with.false

pub returns-then-end-s : goal.returns-then-end-s
returns-then-end-s c =
    let a = c.args in
    item_unended a.s.now a.c c.end_field-end.result (tab_at (goal.at.returns-then-end-s c).After-end_field-end)
    c.end_field-end.ensures (omega arith) a.low a.high

pub returns-in_err-x : goal.returns-in_err-x
returns-in_err-x c =
    let a = c.args in
    let inside : c.end_field-end.result < length a.s.now =
    omega (arith, c.if-end-s.false, c.end_field-end.ensures.within) in
    rw c.from_residual.ensures
    (item_not a.s.now a.c c.end_field-end.result (tab_at (goal.at.returns-in_err-x c).After-end_field-end)
    c.end_field-end.ensures inside a.low a.high c.in_err-x.ensures)

pub returns : goal.returns
returns c =
    let a = c.args in
    let x = c.in_ok-x.x in
    let inside : c.end_field-end.result < length a.s.now =
    omega (arith, c.if-end-s.false, c.end_field-end.ensures.within) in
    let number = c.in_ok-x.ensures in
    rw (passes a.low a.high x c.requires.1 c.requires.2 number.1, c.behind_field.ensures)
    (item_is a.s.now a.c c.end_field-end.result (tab_at (goal.at.returns c).After-end_field-end)
    c.end_field-end.ensures inside a.low a.high c.requires.0 x number)
