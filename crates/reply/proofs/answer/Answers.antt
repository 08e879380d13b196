-- `reply::answer` meets its contract, by what reading the text gives.
-- Assumes nothing.
use Rattle.std.proofs.Common.{refl, rules}
use Rattle.std.proofs.lemmas.Result.{err_from_is_err_and}
use Rattle.reply.proofs.Reading.{read_small, read_third, comes_called, replied_refused}
use Rattle.reply.proofs.answer.Goals as goal

pub returns-in_err-h : goal.returns-in_err-h
returns-in_err-h c =
    let p = err_from_is_err_and c.from_residual.result c.from_residual.ensures.1 in
    rw (p.1, p.2) (λ last e put. replied_refused c.in_err-h.ensures put)

pub answer_job-requires : goal.answer_job-requires
answer_job-requires c =
    record {
      small = read_small c.in_ok-h.ensures;
      rooms = record { first = search rules; second = search rules; third = search rules };
      third = read_third c.in_ok-h.ensures;
      fourth = record { zeros = refl };
      scratch = record { zeros = refl };
      room = search rules;
    }

pub returns : goal.returns
returns c = comes_called _ _ c.in_ok-h.ensures c.answer_job.result c.answer_job.ensures
