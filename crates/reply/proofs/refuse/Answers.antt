-- `reply::refuse` meets its contract: the word, which leaves room for the numbers, and the number and the places of the
-- refusal.
-- Assumes nothing.
use Rattle.std.proofs.Common.{◌≡◌, List, ℕ}
use Rattle.job.specs.Refusal.{Verdict, done, refused, refusal_verdict}
use Rattle.text.specs.Put.{Put}
use Rattle.text.proofs.Puts.{put_more}
use Rattle.result.specs.declared.Places.{Places}
use Rattle.result.specs.Print.{places_of}
use Rattle.reply.specs.Reply.{refusal_line}
use Rattle.reply.specs.Steps.{Refuses}
use Rattle.reply.proofs.refuse.Goals as goal

refuses : (v : Verdict) (q : Places) {before after : List ℕ} {e : ℕ} → q ≡ places_of v
    → Put 0 (refusal_line q.0 q.1 q.2) before after e → Refuses v before after e
unfolding places_of
refuses done q is put = tt
refuses (refused number first second) q is put = rw is at put

pub returns : goal.returns
unfolding refusal_line
returns c =
    let one = c.from.ensures in
    let two = c.from-2.ensures in
    let put = put_more c.put_bytes-a.ensures c.put_three.ensures in
    refuses (refusal_verdict c.args.refusal) c.from-number.result c.from-number.ensures
    (rw (one, two) at put)
