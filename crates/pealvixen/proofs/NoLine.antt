-- A job and a writer of sheets name no broken line, so their answers have room in the packed number.
-- Assumes nothing.
use Rattle.std.proofs.Common.{List, [], ◌∷◌, ◌++◌, ℕ, length, Result}
use Rattle.job.specs.declared.Refusal.{Refusal}
use Rattle.job.specs.Refusal.{refusal_verdict, Answer}
use Rattle.job.specs.Job.{Job, Buffers, Handed, words, bytes}
use Rattle.job.specs.Rules.{size_rules, length_rules, read_rules}
use Rattle.job.specs.Outcome.{Outcome}
use Rattle.job.proofs.NoLine.{
  Without,
  without_both,
  without_says,
  limits_without,
  size_without,
  length_without,
  read_without,
  call_no_line,
}
use Rattle.job.specs.declared.Header.{Header}
use Rattle.result.specs.ResultSheet.{result_lengths}
use Rattle.result.specs.Write.{write_rules, WriteOutcome}
use Rattle.pealvixen.specs.Steps.{LineFits}

pub call_fits : {h : Handed} {job : Job} {a : Answer} {after : Buffers} → Outcome h job a after → LineFits a
call_fits o = record { small = λ line e. absurd (call_no_line o line e) }

write_without : (h : Header) (lent : List (List ℕ)) (text : List ℕ) → Without 9 (write_rules h lent text)
unfolding write_rules
write_without h lent text =
    let limits =
    without_both 9 _ (size_rules bytes h.r h.n) (limits_without h.r h.n h.p) (size_without bytes h.r h.n) in
    let should = result_lengths h ++ (65536 ∷ []) in
    let are = lent ++ (text ∷ []) in
    let exact = without_both 9 _ (length_rules words 1 should are) limits (length_without words 1 should are) in
    without_both 9 _ (read_rules words h.p 1 (length lent) (result_lengths h) lent) exact
    (read_without words h.p 1 (length lent) (result_lengths h) lent)

pub write_fits
    : {h : Header} {lent : List (List ℕ)} {text after : List ℕ} {w : Result ℕ Refusal}
    → WriteOutcome h lent text w after → LineFits w
unfolding refusal_verdict
write_fits {h} {lent} {text} o = record {
  small = λ line e.
      absurd (without_says 9 (write_rules h lent text) (write_without h lent text) line 0 (rw e at o.verdict));
}
