-- `sheet::read_body` meets its contract: the lines behind line 1, and then the end of the text.
-- Assumes nothing.
use Rattle.std.proofs.Common.{refl, sym, arith}
use Rattle.sheet.specs.JobSheet.{job_forms}
use Rattle.sheet.proofs.Verdicts.{read_inside}
use Rattle.sheet.proofs.Outcomes.{carried_all, job_forms_lem, entered_small}
use Rattle.sheet.proofs.read_body.Goals as goal

pub read_lines-requires : goal.read_lines-requires
read_lines-requires c =
    let q = c.requires.0 in
    let h = c.args.h in
    record {
      terms = h.n;
      small = entered_small q;
      measured = c.requires.1;
      coefficients = sym (carried_all h.kind h.n);
      width = refl;
      placed = q.opens.placed;
      field = q.opens.field;
      ranges = (omega arith, omega arith, omega arith, omega arith);
      room = c.requires.2;
    }

pub finish-requires : goal.finish-requires
finish-requires c = read_inside _ _ _ _ _ c.read_lines.result c.read_lines.ensures

pub returns : goal.returns
returns c =
    c.finish.ensures.bodied job_forms _ c.args.h _ _ _ _ c.requires.0.opens (job_forms_lem c.args.h)
    c.read_lines.ensures
