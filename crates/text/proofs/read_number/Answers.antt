-- `text::read_number` meets its contract: behind a minus sign the digits of a number that is not 0, else digits alone.
-- Assumes nothing.
use Rattle.std.proofs.Common.{◌≡◌, [], ◌∷◌}
use Rattle.std.proofs.lemmas.Slice.Eq.{strip_prefix_is}
use Rattle.std.proofs.lemmas.Bool.Decides.{Decides-eqb}
use Rattle.text.proofs.Spelling.{minus_not, minus_zero}
use Rattle.text.proofs.read_number.Goals as goal
use Rattle.text.proofs.read_number.Goals.{In-Some}

-- there is a minus sign
minus_at : (c : In-Some) → c.args.f.now ≡ 45 ∷ c.in-Some.size.now
minus_at c = rw c.in-Some.is at (strip_prefix_is Decides-eqb c.args.f.now (45 ∷ []) _ c.strip_prefix.ensures.cases)

pub returns-in_err-n : goal.returns-in_err-n
returns-in_err-n c =
    let a = c.args in
    rw c.from_residual.ensures
    (minus_not a.f.now a.low a.high _ (minus_at (goal.at.returns-in_err-n c).In-Some) c.in_err-n.ensures)

pub returns-then-n-eq0 : goal.returns-then-n-eq0
returns-then-n-eq0 c =
    let a = c.args in
    minus_zero a.f.now a.low a.high _ (minus_at (goal.at.returns-then-n-eq0 c).In-Some) _ c.if-n-eq0.true
    c.in_ok-n.ensures
