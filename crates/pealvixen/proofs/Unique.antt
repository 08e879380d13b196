-- The packed number gives the answer back; an exported job, reader or writer leaves one answer and one content of every
-- buffer.
-- Assumes nothing.
use Rattle.std.proofs.Common.{◌≡◌, sym, ap, ◌∙◌, List, ℕ, ◌<◌, arith, Result}
use Rattle.job.specs.declared.Refusal.{Refusal}
use Rattle.job.specs.Refusal.{done, refused, Answer, verdict_of}
use Rattle.job.specs.Job.{Job, Buffers, Handed}
use Rattle.job.proofs.Unique.{outcome_unique}
use Rattle.job.specs.declared.Header.{Header}
use Rattle.sheet.specs.Read.{JobOutcome}
use Rattle.sheet.proofs.Unique.{job_outcome_unique}
use Rattle.result.proofs.Unique.{outcome_unique as written_unique}
use Rattle.reread.specs.Read.{ResultOutcome}
use Rattle.reread.proofs.Unique.{result_outcome_unique}
use Rattle.pealvixen.specs.declared.SheetRead.{SheetRead}
use Rattle.pealvixen.specs.declared.SheetWritten.{SheetWritten}
use Rattle.pealvixen.specs.Packing.{packed, PackedOutcome}
use Rattle.pealvixen.specs.Sheets.{told, told_written, ReadTold, WriteTold}

-- places that fit: a refusal's number from 1 to 255, its first place below 2^24
pub record Fits (number first : ℕ) : Type 0 where
  pub some : 0 < number
  pub byte : number < 256
  pub near : first < 16777216

-- a packed refusal is read back uniquely
pub packed_refusal : {a b x y : ℕ} (c z : ℕ) → Fits a b → Fits x y → packed (refused a b c) ≡ packed (refused x y z)
    → (a ≡ x) × (b ≡ y) × (c ≡ z)
unfolding packed
packed_refusal c z f g e = (omega arith, omega arith, omega arith)

-- and it is not done
pub packed_not_done : {a b : ℕ} (c : ℕ) → Fits a b → ¬ (packed (refused a b c) ≡ packed done)
unfolding packed
packed_not_done c f e = omega arith

pub packed_outcome_unique : {h : Handed} {job : Job} {m n : ℕ} {s t : Buffers}
    → PackedOutcome h job m s → PackedOutcome h job n t → (m ≡ n) × (s ≡ t)
packed_outcome_unique f g =
    let same = outcome_unique f.outcome g.outcome in
    (f.code_is ∙ ap (λ (x : Answer). packed (verdict_of x)) same.0 ∙ sym g.code_is, same.1)

-- an exported reader leaves one answer and one content of every room, as the reader does
module _ {Leaves : Result Header Refusal → List (List ℕ) → Type 0}
    (one : (x y : Result Header Refusal) (a b : List (List ℕ)) → Leaves x a → Leaves y b → (x ≡ y) × (a ≡ b)) where
  pub read_told_unique : {x y : SheetRead} {a b : List (List ℕ)} → ReadTold Leaves x a → ReadTold Leaves y b
      → (x ≡ y) × (a ≡ b)
  read_told_unique f g =
      let same = one _ _ _ _ f.outcome g.outcome in
      (f.is ∙ ap told same.0 ∙ sym g.is, same.1)

pub job_told_unique : {s : List ℕ} {rooms a b : List (List ℕ)} {x y : SheetRead}
    → ReadTold (JobOutcome s rooms) x a → ReadTold (JobOutcome s rooms) y b → (x ≡ y) × (a ≡ b)
job_told_unique = read_told_unique (λ x y a b f g. job_outcome_unique f g)

pub result_told_unique : {s : List ℕ} {rooms a b : List (List ℕ)} {x y : SheetRead}
    → ReadTold (ResultOutcome s rooms) x a → ReadTold (ResultOutcome s rooms) y b → (x ≡ y) × (a ≡ b)
result_told_unique = read_told_unique (λ x y a b f g. result_outcome_unique f g)

-- and so does an exported writer
pub write_told_unique : {h : Header} {lent : List (List ℕ)} {text a b : List ℕ} {x y : SheetWritten}
    → WriteTold h lent text x a → WriteTold h lent text y b → (x ≡ y) × (a ≡ b)
write_told_unique f g =
    let same = written_unique f.outcome g.outcome in
    (f.is ∙ ap told_written same.0 ∙ sym g.is, same.1)
