-- What is printed for a text follows from the text: two replies are the same, and so is every byte of the buffer that
-- they are put into.
-- Assumes nothing.
use Rattle.std.proofs.Common.{◌≡◌, refl, sym, ap, ◌∙◌, List, ℕ}
use Rattle.job.specs.Refusal.{Verdict, done, refused, verdict_of}
use Rattle.job.proofs.Unique.{outcome_unique}
use Rattle.job.specs.declared.Header.{Header}
use Rattle.sheet.proofs.Unique.{job_outcome_unique}
use Rattle.reply.specs.Reply.{Called, Reply, Replied}

-- one text is printed for a job
called_unique : {h : Header} {rooms : List (List ℕ)} {t u : List ℕ} → Called h rooms t → Called h rooms u → t ≡ u
called_unique f g =
    let same = outcome_unique f.outcome g.outcome in
    f.prints ∙ sym (rw (sym same.0, sym same.1) at g.prints)

-- and for a text
pub reply_unique : {s t u : List ℕ} → Reply s t → Reply s u → t ≡ u
reply_unique {s} {t} {u} f g = by (verdict_of f.reading) refl
  where
    same : (f.reading ≡ g.reading) × (f.rooms ≡ g.rooms)
    same = job_outcome_unique f.read g.read

    by : (v : Verdict) → verdict_of f.reading ≡ v → t ≡ u
    by done e =
        let brought = (f.read.taken e).brought in
        let other = g.calls _ (sym same.0 ∙ brought) in
        called_unique (f.calls _ brought) (rw (sym same.1) at other)
    by (refused number first second) e =
        let other = ap verdict_of (sym same.0) ∙ e in
        f.refuses number first second e ∙ sym (g.refuses number first second other)

-- every byte afterwards and the length follow from the text and the buffer
pub replied_unique
    : {s before a b : List ℕ} {l m : ℕ} → Replied s before a l → Replied s before b m → (a ≡ b) × (l ≡ m)
replied_unique f g =
    let same = reply_unique f.reply g.reply in
    let other = rw (sym same) at g.put in
    (f.put.is ∙ sym other.is, f.put.end ∙ sym other.end)
