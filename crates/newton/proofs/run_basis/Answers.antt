-- `newton::run_basis` meets its contract: the basis is found, copied out, and the room cleared.
-- Assumes nothing.
use Rattle.std.proofs.Common.{refl, sym, ◌∙◌}
use Rattle.newton.proofs.Handovers.{handed_over}
use Rattle.newton.proofs.run_basis.Goals as goal

pub returns : goal.returns
returns c =
    let given = c.requires in
    handed_over given.0 given.1 c.find_basis.auto.w
    c.find_basis.ensures refl
    (given.2 ∙ sym given.1) c.copy.auto.dst c.copy-2.auto.dst c.copy.ensures
    c.copy-2.ensures c.clear.ensures
