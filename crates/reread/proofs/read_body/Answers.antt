-- `reread::read_body` meets its contract: the lines behind line 1, and then the end of the text.
-- Assumes nothing.
use Rattle.std.proofs.Common.{refl, arith}
use Rattle.sheet.proofs.Verdicts.{read_inside}
use Rattle.sheet.proofs.Outcomes.{entered_limits}
use Rattle.result.specs.ResultSheet.{result_forms}
use Rattle.reread.proofs.Results.{result_forms_lem, result_awaited}
use Rattle.reread.proofs.read_body.Goals as goal

pub overflow_sub-series : goal.overflow_sub-series
overflow_sub-series c = omega (arith, (entered_limits c.requires.0).prime.two)

pub read_lines-requires : goal.read_lines-requires
read_lines-requires c =
    let half = (entered_limits c.requires.0).half in
    result_awaited c.requires.0 _ refl (omega arith) (omega arith) c.requires.1

pub finish-requires : goal.finish-requires
finish-requires c = read_inside _ _ _ _ _ c.read_lines.result c.read_lines.ensures

pub returns : goal.returns
returns c =
    let h = c.args.h in
    c.finish.ensures.bodied result_forms _ h _ _ _ _ c.requires.0.opens (result_forms_lem h) c.read_lines.ensures
