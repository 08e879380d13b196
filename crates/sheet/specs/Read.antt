-- What a reader of sheets leaves behind: its answer, and every cell of its rooms afterwards.
-- Assumes nothing.
use Rattle.std.specs.Prelude.{◌≡◌, List, ℕ, ℤ, Result, Ok}
use Rattle.job.specs.declared.Refusal.{Refusal}
use Rattle.job.specs.Refusal.{done, refused, Says, verdict_of}
use Rattle.text.specs.Lines.{Form}
use Rattle.job.specs.declared.Header.{Header}
use Rattle.sheet.specs.Sheet.{Sheet, FirstLine}
use Rattle.sheet.specs.JobSheet.{job_forms, job_lengths}
use Rattle.sheet.specs.Rules.{sheet_rules}
use Rattle.sheet.specs.Rooms.{FilledAll}

-- the text is a sheet with the header h, the answer brings h, and the rooms hold the numbers, so many in each
pub record Taken (forms : Header → List Form) (lengths : Header → List ℕ) (s : List ℕ) (rooms : List (List ℕ))
    (answer : Result Header Refusal) (after : List (List ℕ)) : Type 0 where
  pub header : Header
  pub brought : answer ≡ Ok header
  pub numbers : ℕ → ℤ
  pub sheet : Sheet forms s header numbers
  pub filled : FilledAll header.p numbers 0 (lengths header) rooms after

-- a text is refused by the first rule that holds, whatever its header, and then every cell is what it was; or it is
-- taken
pub record ReadOutcome (forms : Header → List Form) (lengths : Header → List ℕ) (s : List ℕ) (rooms : List (List ℕ))
    (answer : Result Header Refusal) (after : List (List ℕ)) : Type 0 where
  pub verdict : (h : Header) → FirstLine forms s h → Says (sheet_rules forms s rooms h) (verdict_of answer)
  pub kept : (number first second : ℕ) → verdict_of answer ≡ refused number first second → after ≡ rooms
  pub taken : verdict_of answer ≡ done → Taken forms lengths s rooms answer after

-- the reader of job sheets, whose rooms take the job's read buffers in the order of their numbers
abbrev pub JobOutcome : List ℕ → List (List ℕ) → Result Header Refusal → List (List ℕ) → Type 0
JobOutcome = ReadOutcome job_forms job_lengths
