-- `lines::end_field` meets its contract: the first byte up to 10, or the end of the text.
-- Assumes nothing.
use Rattle.std.proofs.Common.{◌≡◌, ◌-◌, take, drop, length, position, nat_le, rules, tests}
use Rattle.std.proofs.lemmas.Iterator.{YieldsList-from_slice}
use Rattle.std.proofs.lemmas.Iterator.Search.{position_from_yields_List}
use Rattle.lines.proofs.Bytes.{rest_all}
use Rattle.lines.proofs.Items.{field_first}
use Rattle.lines.proofs.end_field.Goals as goal

pub returns : goal.returns
returns c =
    let s = c.args.s.now in
    let i = c.args.from in
    let rest = take (length s - i) (drop i s) in
    let p : c.position.result ≡ position (λ b. nat_le b 10) rest =
    position_from_yields_List (λ b. nat_le b 10) _ _ c.position.result c.position.ensures.ran
    (YieldsList-from_slice rest cc) (λ x b q k. search (rules, tests)) in
    field_first s i c.unwrap_or.result c.requires (rw (p, rest_all s i) at c.unwrap_or.ensures)
