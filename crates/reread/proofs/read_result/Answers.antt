-- `reread::read_result` meets its contract: the rooms, then the bytes, then line 1 and its limits, then the lines.
-- Assumes nothing.
use Rattle.std.proofs.Common.{[], ◌∷◌, refl}
use Rattle.std.proofs.lemmas.Result.{err_from_is_err_and}
use Rattle.job.specs.Refusal.{done, Says}
use Rattle.job.specs.Job.{words}
use Rattle.header.specs.Header.{word_of}
use Rattle.sheet.specs.Rules.{room_rules}
use Rattle.sheet.specs.Parts.{Started}
use Rattle.sheet.proofs.Before.{kinds_started, start_large}
use Rattle.sheet.proofs.Outcomes.{outcome_rooms, outcome_stop, outcome_taken}
use Rattle.result.specs.ResultSheet.{result_words, result_forms}
use Rattle.reread.proofs.Results.{result_led, rooms_roomy}
use Rattle.reread.proofs.read_result.Goals as goal
use Rattle.reread.proofs.read_result.Goals.{After-begin, In_ok-check_lengths}

pub returns-in_err-check_lengths : goal.returns-in_err-check_lengths
unfolding room_rules
returns-in_err-check_lengths c =
    let a = c.args in
    let p = err_from_is_err_and c.from_residual.result c.from_residual.ensures.1 in
    let rooms = a.one.now ∷ a.two.now ∷ [] in
    rw (p.1, p.2) (outcome_rooms (c.in_err-check_lengths.ensures.says words rooms refl refl))

-- no room is refused
no_room
    : (c : In_ok-check_lengths) →
    let a = c.args in
    Says (room_rules (a.one.now ∷ a.two.now ∷ [])) done
unfolding room_rules
no_room c =
    let a = c.args in
    c.in_ok-check_lengths.ensures.says words (a.one.now ∷ a.two.now ∷ []) refl refl

pub returns-then-s-gt65536 : goal.returns-then-s-gt65536
returns-then-s-gt65536 c =
    outcome_stop result_words (no_room (goal.at.returns-then-s-gt65536 c).In_ok-check_lengths)
    (start_large result_words c.if-s-gt65536.true)

-- what line 1 and its limits say
begun
    : (c : After-begin) →
    Started result_forms result_words c.args.s.now c.begin.result
unfolding word_of
begun c = kinds_started result_led c.open_kinds-opening.ensures c.begin.ensures

pub returns-in_err-h : goal.returns-in_err-h
returns-in_err-h c =
    let back = c.from_residual-in_err-h in
    let p = err_from_is_err_and back.result back.ensures.1 in
    let at = goal.at.returns-in_err-h c in
    rw (p.1, p.2)
    (outcome_stop result_words (no_room at.In_ok-check_lengths) (rw c.in_err-h.was at (begun at.After-begin)))

pub take_result-requires : goal.take_result-requires
take_result-requires c =
    let a = c.args in
    let at = goal.at.take_result-requires c in
    (rw c.in_ok-h.was at (begun at.After-begin), rooms_roomy a.one.now a.two.now (no_room at.In_ok-check_lengths))

pub returns : goal.returns
returns c =
    let at = goal.at.returns c in
    outcome_taken result_words (no_room at.In_ok-check_lengths) result_led (rw c.in_ok-h.was at (begun at.After-begin))
    c.take_result.ensures
