-- `reread::take_result` meets its contract: the lengths, the lines, and where they are a whole sheet, the rooms.
-- Assumes nothing.
use Rattle.std.proofs.Common.{arith}
use Rattle.std.proofs.lemmas.Result.{err_from_is_err_and}
use Rattle.sheet.proofs.Outcomes.{entered_limits, entered_small, finished_broken, finished_done}
use Rattle.reread.proofs.Results.{result_fillable, rooms-filled}
use Rattle.reread.proofs.take_result.Goals as goal

pub count_words-l-requires : goal.count_words-l-requires
count_words-l-requires c = entered_small c.requires.0

pub read_body-requires : goal.read_body-requires
read_body-requires c = (c.requires.0, omega arith)

pub returns-in_err-read_body : goal.returns-in_err-read_body
returns-in_err-read_body c =
    let p = err_from_is_err_and c.from_residual.result c.from_residual.ensures.1 in
    rw (p.1, p.2) (finished_broken c.in_err-read_body.ensures)

pub overflow_cast-h : goal.overflow_cast-h
overflow_cast-h c =
    omega (arith, (entered_limits c.requires.0).half)

pub fill_rooms-requires : goal.fill_rooms-requires
fill_rooms-requires c =
    result_fillable c.requires.0 c.count_words-l.ensures c.read_body.auto.w c.requires.1

pub returns : goal.returns
returns c =
    let f = c.fill_rooms.ensures in
    let h = c.args.h in
    finished_done c.in_ok-read_body.ensures (rooms-filled h.kind h.r h.n _ c.count_words-l.ensures f.0 f.1)
