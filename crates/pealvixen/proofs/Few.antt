-- Sheets whose limits are kept have few lines, so that a broken line's number is small.
-- Assumes nothing.
use Rattle.std.proofs.Common.{
  ◌≡◌,
  refl,
  sym,
  List,
  [],
  ◌∷◌,
  ◌++◌,
  ℕ,
  zero,
  suc,
  ◌+◌,
  ◌*◌,
  ◌≤◌,
  arith,
  length,
  length-append,
  Result,
}
use native.Mathlib.Nat as N
use Rattle.job.specs.declared.Kind.{Kind}
use Rattle.job.specs.declared.Kind.TheVariants.{System, Basis, Equation}
use Rattle.job.specs.declared.Refusal.{Refusal}
use Rattle.job.specs.Job.{carried}
use Rattle.job.proofs.Accepted.{Limits}
use Rattle.text.specs.Lines.{Form}
use Rattle.lines.specs.Forms.{numbered, row_forms, matrix_forms}
use Rattle.lines.proofs.Forms.{length-rows}
use Rattle.job.specs.declared.Header.{Header}
use Rattle.body.specs.JobLines.{signed, job_lines}
use Rattle.sheet.specs.Sheet.{Keeps}
use Rattle.sheet.specs.JobSheet.{job_forms, job_lengths}
use Rattle.sheet.specs.Read.{ReadOutcome}
use Rattle.sheet.proofs.Unique.{job_header}
use Rattle.result.specs.ResultSheet.{balanced_form, result_lines, result_forms, result_lengths}
use Rattle.reread.proofs.Results.{result_header}
use Rattle.pealvixen.specs.Steps.{LineFits}
use Rattle.pealvixen.proofs.Broken.{broken_near}

pub length-matrix : (form : List ℕ → Form) (head : List ℕ) (columns i k : ℕ)
    → length (matrix_forms form head columns i k) ≡ k * columns
unfolding matrix_forms
length-matrix form head columns i zero = sym (N.zero-mul columns)
length-matrix form head columns i (suc k) =
    let row = row_forms form (numbered head i) 1 columns in
    let others = matrix_forms form head columns (suc i) k in
    omega (
      arith,
      length-append row others,
      length-rows form (numbered head i) 1 columns,
      length-matrix form head columns (suc i) k,
      N.suc-mul k columns,
    )

-- few lines stand behind line 1
lines_few : (kind : Kind) (series values : List ℕ → Form) (r : ℕ) → r ≤ 8
    → length (job_lines kind series values r) ≤ 129
unfolding job_lines
lines_few System series values r l =
    let matrix = matrix_forms series (65 ∷ []) r 1 r in
    let rows = row_forms series (98 ∷ []) 1 r in
    let last = values (118 ∷ []) ∷ [] in
    let all : length (job_lines System series values r) ≡ length ((matrix ++ rows) ++ last) = refl in
    omega (
      arith,
      all,
      length-append (matrix ++ rows) last,
      length-append matrix rows,
      length-matrix series (65 ∷ []) r 1 r,
      length-rows series (98 ∷ []) 1 r,
      N.mul-le-mul l l,
    )
lines_few Basis series values r l =
    let matrix = matrix_forms series (65 ∷ []) r 1 r in
    let rows = row_forms values (86 ∷ []) 1 r in
    let all : length (job_lines Basis series values r) ≡ length (matrix ++ rows) = refl in
    omega (
      arith,
      all,
      length-append matrix rows,
      length-matrix series (65 ∷ []) r 1 r,
      length-rows values (86 ∷ []) 1 r,
      N.mul-le-mul l l,
    )
lines_few Equation series values r l =
    let rows = row_forms series (97 ∷ []) 0 (r + 1) in
    let right = series (98 ∷ []) ∷ [] in
    let last = values (115 ∷ 116 ∷ 97 ∷ 114 ∷ 116 ∷ []) ∷ [] in
    let all : length (job_lines Equation series values r) ≡ length ((rows ++ right) ++ last) = refl in
    omega (
      arith,
      all,
      length-append (rows ++ right) last,
      length-append rows right,
      length-rows series (97 ∷ []) 0 (r + 1),
    )

pub job_few : (h : Header) → Limits h.r h.n h.p → length (job_forms h) ≤ 130
unfolding job_forms
job_few h l =
    let series = signed (carried h.kind h.n) in
    let behind = job_lines h.kind series (signed h.r) h.r in
    let all : length (job_forms h) ≡ suc (length behind) = refl in
    omega (arith, all, lines_few h.kind series (signed h.r) h.r l.order)

-- few lines stand behind line 1 of a result
results_few : (kind : Kind) (series : List ℕ → Form) (r : ℕ) → r ≤ 8 → length (result_lines kind series r) ≤ 129
unfolding result_lines
results_few System series r l = omega (arith, length-rows series (121 ∷ []) 1 r)
results_few Basis series r l =
    let first = matrix_forms series (89 ∷ []) r 1 r in
    let second = matrix_forms series (90 ∷ []) r 1 r in
    let all : length (result_lines Basis series r) ≡ length (first ++ second) = refl in
    omega (
      arith,
      all,
      length-append first second,
      length-matrix series (89 ∷ []) r 1 r,
      length-matrix series (90 ∷ []) r 1 r,
      N.mul-le-mul l l,
    )
results_few Equation series r l = omega (arith, length-rows series (121 ∷ []) 1 1)

pub result_few : (h : Header) → Limits h.r h.n h.p → length (result_forms h) ≤ 130
unfolding result_forms
result_few h l =
    let series = balanced_form h.p h.n in
    let all : length (result_forms h) ≡ suc (length (result_lines h.kind series h.r)) = refl in
    omega (arith, all, results_few h.kind series h.r l.order)

-- so a reader names a line that has room in its place
module _ (forms : Header → List Form) (few : (h : Header) → Limits h.r h.n h.p → length (forms h) ≤ 130)
    (decides : (s : List ℕ) (g h : Header) → Keeps forms s g 1 → Keeps forms s h 1 → g ≡ h)
    {lengths : Header → List ℕ} where
  line_fits : {s : List ℕ} {rooms after : List (List ℕ)} {x : Result Header Refusal}
      → ReadOutcome forms lengths s rooms x after → LineFits x
  line_fits {s} {rooms} f = record {
    small = λ line e. omega (arith, broken_near forms s few rooms (decides s) (rw e at f));
  }

pub job_line_fits : {s : List ℕ} {rooms after : List (List ℕ)} {x : Result Header Refusal}
    → ReadOutcome job_forms job_lengths s rooms x after → LineFits x
job_line_fits = line_fits job_forms job_few job_header

pub result_line_fits : {s : List ℕ} {rooms after : List (List ℕ)} {x : Result Header Refusal}
    → ReadOutcome result_forms result_lengths s rooms x after → LineFits x
result_line_fits = line_fits result_forms result_few result_header
