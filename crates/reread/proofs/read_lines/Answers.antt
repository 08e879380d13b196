-- `reread::read_lines` meets its contract: by the kind.
-- Assumes nothing.
use Rattle.std.proofs.Common.{refl, arith}
use Rattle.body.proofs.Sizes.{sizes}
use Rattle.result.specs.ResultSheet.{result_lines}
use Rattle.reread.proofs.Results.{awaited_ready}
use Rattle.reread.proofs.read_lines.Goals as goal

pub read_rows-requires : goal.read_rows-requires
read_rows-requires c =
    let q = c.requires in
    let s = sizes q.small in
    (awaited_ready q _ q.placed refl (omega arith), q.field, omega (arith, q.small.order))

pub read_rows-requires-in-Equation : goal.read_rows-requires-in-Equation
read_rows-requires-in-Equation c =
    let q = c.requires in
    let s = sizes q.small in
    (awaited_ready q _ q.placed refl (omega arith), q.field, omega (arith, q.small.order))

pub returns-in-System : goal.returns-in-System
unfolding result_lines
returns-in-System c = rw c.in-System.is c.read_rows.ensures

pub returns-in-Basis : goal.returns-in-Basis
returns-in-Basis c = rw c.in-Basis.is c.read_pair.ensures

pub returns-in-Equation : goal.returns-in-Equation
unfolding result_lines
returns-in-Equation c = rw c.in-Equation.is c.read_rows-in-Equation.ensures
