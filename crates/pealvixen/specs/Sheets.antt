-- What readers and writers of sheets tell callers in other languages, as numbers: the packed answer; and from a reader
-- kind, r, N and p, from a writer the text's length in bytes. Where a sheet is refused the others are 0.
-- Assumes nothing.
use Rattle.std.specs.Prelude.{◌≡◌, refl, List, ℕ, Result, Ok, Err}
use Rattle.job.specs.declared.Kind.{Kind}
use Rattle.job.specs.declared.Kind.TheVariants.{System, Basis, Equation}
use Rattle.job.specs.declared.Refusal.{Refusal}
use Rattle.job.specs.declared.Refusal.TheVariants.{Form}
use Rattle.job.specs.Refusal.{refusal_verdict, verdict_of}
use Rattle.job.specs.declared.Header.{Header}
use Rattle.result.specs.Write.{WriteOutcome}
use Rattle.pealvixen.specs.declared.SheetRead.{SheetRead}
use Rattle.pealvixen.specs.declared.SheetWritten.{SheetWritten}
use Rattle.pealvixen.specs.Packing.{packed}

unfoldable pub kind_number : Kind → ℕ
kind_number System = 1
kind_number Basis = 2
kind_number Equation = 3

-- a reader's refusal
abbrev pub refused_sheet : ℕ → SheetRead
refused_sheet code = record { answer = code; kind = 0; r = 0; n = 0; p = 0 }

unfoldable pub told : Result Header Refusal → SheetRead
told (Ok h) = record { answer = 0; kind = kind_number h.kind; r = h.r; n = h.n; p = h.p }
told (Err refusal) = refused_sheet (packed (refusal_verdict refusal))

-- line 2 is broken
told_example : told (Err (Form 2)) ≡ refused_sheet 521
unfolding told packed refusal_verdict
told_example = refl

unfoldable pub length_told : Result ℕ Refusal → ℕ
length_told (Ok length) = length
length_told (Err refusal) = 0

unfoldable pub told_written : Result ℕ Refusal → SheetWritten
told_written w = record { answer = packed (verdict_of w); length = length_told w }

-- what an exported reader leaves: an outcome of the reader, whose answer is told in numbers
pub record ReadTold (Leaves : Result Header Refusal → List (List ℕ) → Type 0) (x : SheetRead) (after : List (List ℕ))
    : Type 0 where
  pub reading : Result Header Refusal
  pub outcome : Leaves reading after
  pub is : x ≡ told reading

-- and an exported writer: an outcome of the writer, whose answer is told in numbers
pub record WriteTold (h : Header) (lent : List (List ℕ)) (text : List ℕ) (x : SheetWritten) (after : List ℕ)
    : Type 0 where
  pub answer : Result ℕ Refusal
  pub outcome : WriteOutcome h lent text answer after
  pub is : x ≡ told_written answer
