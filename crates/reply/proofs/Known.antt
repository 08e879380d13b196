-- Two replies: a text over 65536 bytes is refused 10, and no text at all is refused 9 at line 1. By `reply_unique`
-- nothing else is printed for them.
-- Assumes nothing.
use Rattle.std.proofs.Common.{refl, ap, List, [], ℕ, ◌<◌, arith, length, length-append, Err}
use Rattle.std.proofs.lemmas.List.{length-replicate}
use Rattle.job.specs.declared.Refusal.TheVariants.{Form, Large}
use Rattle.job.specs.Refusal.{done, refused, Says, refusal_verdict}
use Rattle.job.specs.Rules.{length_rules}
use Rattle.job.proofs.Says.{
  refused_not_done,
  says_none,
  says_here,
  says_past,
  says-append_done,
  says-append_refused,
}
use Rattle.text.specs.Lines.{items, lines}
use Rattle.job.specs.declared.Header.{Header}
use Rattle.sheet.specs.Sheet.{Keeps}
use Rattle.sheet.specs.JobSheet.{job_forms}
use Rattle.sheet.specs.Rules.{room_rules, open_rules, sheet_rules}
use Rattle.sheet.specs.Read.{JobOutcome}
use Rattle.reply.specs.Reply.{refusal_line, fresh, Reply}
use Rattle.reply.proofs.Reading.{reply_refused}

-- no rule refuses the rooms
rooms_silent : Says (room_rules fresh) done
unfolding room_rules length_rules
rooms_silent =
    let long = length-replicate {A = ℕ} 2048 0 in
    says_past _ _ _ (λ q. q long) (says_past _ _ _ (λ q. q long) (says_past _ _ _ (λ q. q long) says_none))

large_outcome : {s : List ℕ} → 65536 < length s → JobOutcome s fresh (Err Large) fresh
unfolding sheet_rules open_rules refusal_verdict
large_outcome more = record {
  verdict = λ h l.
      says-append_refused _ _ 10 0 0
      (says-append_done (room_rules fresh) _ (refused 10 0 0) rooms_silent (says_here _ _ more));
  kept = λ a b c e. refl;
  taken = λ e. absurd (refused_not_done 10 0 0 e);
}

pub reply_large : {s : List ℕ} → 65536 < length s → Reply s (refusal_line 10 0 0)
unfolding refusal_verdict
reply_large more = reply_refused (large_outcome more) refl

-- line 1 has a line feed
nothing_kept : (h : Header) → ¬ Keeps job_forms [] h 1
unfolding job_forms lines items
nothing_kept h k = omega (arith, simp length-append at (ap length k.begins.text))

empty_outcome : JobOutcome [] fresh (Err (Form 1)) fresh
unfolding sheet_rules open_rules refusal_verdict
empty_outcome = record {
  verdict = λ h l.
      says-append_refused _ _ 9 1 0
      (says-append_done (room_rules fresh) _ (refused 9 1 0) rooms_silent
      (says_past _ _ _ (λ q. omega arith) (says_here _ _ (nothing_kept h))));
  kept = λ a b c e. refl;
  taken = λ e. absurd (refused_not_done 9 1 0 e);
}

pub reply_empty : Reply [] (refusal_line 9 1 0)
unfolding refusal_verdict
reply_empty = reply_refused empty_outcome refl
