-- `lines::pass_head` meets its contract: the text begins with h at the cursor, or not.
-- Assumes nothing.
use Rattle.std.proofs.Common.{◌≡◌, count_by, ◌==◌, rules}
use Rattle.lines.proofs.Heads.{head_past}
use Rattle.lines.proofs.Bytes.{goes_on, goes_other}
use Rattle.lines.proofs.pass_head.Goals as goal

pub returns-then-not-starts_with : goal.returns-then-not-starts_with
returns-then-not-starts_with c =
    goes_other c.args.s.now c.args.h.now c.args.c.byte _ c.starts_with.ensures.value c.if-not-starts_with.true

pub returns : goal.returns
returns c =
    let n : c.count-tabs.result ≡ count_by (λ b. b == 9) c.args.h.now = search rules in
    let starts = c.starts_with.ensures.value in
    let text = goes_on c.args.s.now c.args.h.now c.args.c.byte _ starts c.if-not-starts_with.false in
    head_past c.args.s.now c.args.c c.args.h.now _ c.requires text n
