-- `pealvixen::tell` meets its contract, answer by answer.
-- Assumes nothing.
use Rattle.std.proofs.Common.{◌≡◌, sym, ap, ◌∙◌, ℕ, Result}
use Rattle.job.specs.declared.Header.{Header}
use Rattle.job.specs.declared.Refusal.{Refusal}
use Rattle.job.specs.Refusal.{verdict_of}
use Rattle.pealvixen.specs.declared.SheetRead.{SheetRead}
use Rattle.pealvixen.specs.Packing.{packed}
use Rattle.pealvixen.specs.Sheets.{told}
use Rattle.pealvixen.proofs.tell.Goals as goal

-- what is told of a header, with the answer and the number of the kind
sheet_of : Header → ℕ → ℕ → SheetRead
sheet_of h answer kind = record { answer = answer; kind = kind; r = h.r; n = h.n; p = h.p }

pub returns-in-Ok : goal.returns-in-Ok
unfolding told packed sheet_of
returns-in-Ok c =
    let h = c.in-Ok.field-0 in
    let answer : c.pack-answer.result ≡ 0 =
    c.pack-answer.ensures ∙ ap (λ (x : Result Header Refusal). packed (verdict_of x)) c.in-Ok.is in
    ap (λ (a : ℕ). sheet_of h a c.number_of.result) answer ∙ ap (sheet_of h 0) c.number_of.ensures
    ∙ sym (ap told c.in-Ok.is)

pub returns-in-Err : goal.returns-in-Err
unfolding told
returns-in-Err c =
    let e = c.pack-answer.ensures in
    rw c.in-Err.is (rw (e, c.in-Err.is))
