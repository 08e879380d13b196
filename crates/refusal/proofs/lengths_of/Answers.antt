-- `refusal::lengths_of` meets its contract, kind by kind; the products fit by the limits of order and terms.
-- Assumes nothing.
use Rattle.job.specs.Job.{carried, room_of, lengths_of}
use Rattle.refusal.proofs.Products.{measured}
use Rattle.refusal.proofs.lengths_of.Goals as goal

pub returns-in-System : goal.returns-in-System
unfolding lengths_of carried room_of
returns-in-System c =
    let given = c.requires in
    measured _ _ _ _ given.0 given.1 (rw c.in-System.is)

pub returns-in-Basis : goal.returns-in-Basis
unfolding lengths_of carried room_of
returns-in-Basis c =
    let given = c.requires in
    measured _ _ _ _ given.0 given.1 (rw c.in-Basis.is)

pub returns-in-Equation : goal.returns-in-Equation
unfolding lengths_of carried room_of
returns-in-Equation c =
    let given = c.requires in
    measured _ _ _ _ given.0 given.1 (rw c.in-Equation.is)
