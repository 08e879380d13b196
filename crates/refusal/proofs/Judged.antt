-- Laws of an answer that is judged by a list of rules: where it refuses it stays, and where it is done the next counts.
-- Assumes nothing.
use Rattle.std.proofs.Common.{List, [], ◌++◌, append-nil, Ok, Err}
use Rattle.job.specs.declared.Refusal.{Refusal}
use Rattle.job.specs.Refusal.{Rule, Answer, refusal_verdict, verdict_of}
use Rattle.job.proofs.Says.{says-append_done, says-append_other, refusal_other}
use Rattle.refusal.specs.Checked.{Judged}

-- Ok, so that what is judged next decides
pub judged_next : {rs ss : List Rule} {a : Answer} → Judged rs (Ok tt) → Judged ss a → Judged (rs ++ ss) a
judged_next {rs} {ss} {a} j k = record { says = says-append_done rs ss (verdict_of a) j.says k.says }

-- a refusal, so that no later rule counts
pub judged_stop : {rs : List Rule} {x : Refusal} (ss : List Rule) → Judged rs (Err x) → Judged (rs ++ ss) (Err x)
judged_stop {rs} {x} ss j = record { says = says-append_other rs ss (refusal_verdict x) (refusal_other x) j.says }

-- no rules behind
pub judged_last : {rs : List Rule} {a : Answer} → Judged rs a → Judged (rs ++ []) a
judged_last j = rw append-nil j
