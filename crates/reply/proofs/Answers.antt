-- A call and what is printed for it: a refusal's line; or, for a call that is done, a sheet which the writer does not
-- refuse. The words that are printed are the first part of a longer buffer, as the call left it.
-- Assumes nothing.
use Rattle.std.proofs.Common.{◌≡◌, List, [], ◌∷◌, ℕ, get_or, take, Result, Err}
use Rattle.job.specs.declared.Refusal.{Refusal}
use Rattle.job.specs.Refusal.{done, Answer, verdict_of}
use Rattle.job.specs.Job.{buffers, words}
use Rattle.job.specs.Outcome.{Outcome}
use Rattle.job.proofs.Says.{says_unique}
use Rattle.refusal.specs.Checked.{job_of, Measured}
use Rattle.job.specs.declared.Header.{Header}
use Rattle.result.specs.Write.{WriteOutcome}
use Rattle.reply.specs.Reply.{printed_of}
use Rattle.reply.specs.Steps.{Callable, Told, Comes}
use Rattle.reply.proofs.Calls.{handed, job_handed, told_refused, told_done}
use Rattle.reply.proofs.Writing.{left_silent}

module _ {h : Header} {one two three four work out l : List ℕ} (c : Callable h one two three four work out)
    (m : Measured h.kind h.r h.n l) {three' four' work' : List ℕ} where
  module _ {x : Refusal}
      (o : Outcome words (job_of h.kind h.r h.n h.p (handed l one two three four work)) (Err x)
      (buffers (take (get_or l 0 0) one) (take (get_or l 1 0) two) three' four' work')) where
    pub job_refused : Comes (Told h (one ∷ two ∷ three ∷ []) out) (Err x) out
    job_refused = λ last e put. told_refused (job_handed c m) o put

  module _ {a : Answer}
      (o : Outcome words (job_of h.kind h.r h.n h.p (handed l one two three four work)) a
      (buffers (take (get_or l 0 0) one) (take (get_or l 1 0) two) three' four' work')) (d : verdict_of a ≡ done) where
    pub job-told
        : {w : Result ℕ Refusal} {out' : List ℕ} → WriteOutcome h (printed_of h.kind three' four') out w out'
        → Comes (Told h (one ∷ two ∷ three ∷ []) out) w out'
    job-told {w} whole =
        let is = whole.brought (says_unique _ whole.verdict (left_silent o d out c.small.product c.room)) in
        rw is (told_done (job_handed c m) o d (whole.written _ is))
