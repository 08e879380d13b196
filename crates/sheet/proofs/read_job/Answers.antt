-- `sheet::read_job` meets its contract: the rooms, then the bytes, then line 1 and its limits, then the lines.
-- Assumes nothing.
use Rattle.std.proofs.Common.{[], ◌∷◌, refl}
use Rattle.std.proofs.lemmas.Result.{err_from_is_err_and}
use Rattle.job.specs.Refusal.{done, Says}
use Rattle.job.specs.Job.{words}
use Rattle.header.specs.Header.{word_of}
use Rattle.sheet.specs.JobSheet.{job_forms}
use Rattle.sheet.specs.Rules.{room_rules}
use Rattle.sheet.specs.Parts.{Started}
use Rattle.sheet.proofs.Before.{rooms_roomy, kinds_started, start_large}
use Rattle.sheet.proofs.Outcomes.{job_led, outcome_rooms, outcome_stop, outcome_taken}
use Rattle.sheet.proofs.read_job.Goals as goal
use Rattle.sheet.proofs.read_job.Goals.{After-begin, In_ok-check_lengths}

pub returns-in_err-check_lengths : goal.returns-in_err-check_lengths
unfolding room_rules
returns-in_err-check_lengths c =
    let a = c.args in
    let p = err_from_is_err_and c.from_residual.result c.from_residual.ensures.1 in
    let rooms = a.one.now ∷ a.two.now ∷ a.three.now ∷ [] in
    rw (p.1, p.2) (outcome_rooms (c.in_err-check_lengths.ensures.says words rooms refl refl))

-- no room is refused
rooms_done
    : (c : In_ok-check_lengths) →
    let a = c.args in
    Says (room_rules (a.one.now ∷ a.two.now ∷ a.three.now ∷ [])) done
unfolding room_rules
rooms_done c =
    let a = c.args in
    c.in_ok-check_lengths.ensures.says words (a.one.now ∷ a.two.now ∷ a.three.now ∷ []) refl refl

pub returns-then-s-gt65536 : goal.returns-then-s-gt65536
returns-then-s-gt65536 c =
    outcome_stop word_of (rooms_done (goal.at.returns-then-s-gt65536 c).In_ok-check_lengths)
    (start_large word_of c.if-s-gt65536.true)

-- what line 1 and its limits say
begun
    : (c : After-begin) →
    Started job_forms word_of c.args.s.now c.begin.result
unfolding word_of
begun c = kinds_started job_led c.open_kinds-opening.ensures c.begin.ensures

pub returns-in_err-h : goal.returns-in_err-h
returns-in_err-h c =
    let back = c.from_residual-in_err-h in
    let p = err_from_is_err_and back.result back.ensures.1 in
    let at = goal.at.returns-in_err-h c in
    rw (p.1, p.2)
    (outcome_stop word_of (rooms_done at.In_ok-check_lengths) (rw c.in_err-h.was at (begun at.After-begin)))

pub take_job-requires : goal.take_job-requires
take_job-requires c =
    let a = c.args in
    let at = goal.at.take_job-requires c in (
      rw c.in_ok-h.was at (begun at.After-begin),
      rooms_roomy a.one.now a.two.now a.three.now (rooms_done at.In_ok-check_lengths),
    )

pub returns : goal.returns
returns c =
    let at = goal.at.returns c in
    outcome_taken word_of (rooms_done at.In_ok-check_lengths) job_led (rw c.in_ok-h.was at (begun at.After-begin))
    c.take_job.ensures
