-- How many lines and numbers a job sheet has: its numbers are as many as the words of the job's read buffers.
-- Assumes nothing.
use Rattle.std.proofs.Common.{◌≡◌, ◌∙◌, List, [], ◌∷◌, ◌++◌, ℕ, ◌+◌, arith}
use Rattle.job.specs.declared.Kind.{Kind}
use Rattle.job.specs.declared.Kind.TheVariants.{System, Basis, Equation}
use Rattle.job.specs.Job.{carried, lengths_of, read_count}
use Rattle.text.specs.Lines.{total}
use Rattle.text.proofs.Lines.{total-append}
use Rattle.lines.specs.Forms.{row_forms, matrix_forms}
use Rattle.lines.specs.declared.Numbers.{Numbers}
use Rattle.lines.specs.Steps.{form_of}
use Rattle.lines.proofs.Forms.{total-rows, total-matrix}
use Rattle.body.specs.JobLines.{job_lines, read_lengths}

-- numbers of a job sheet
abbrev pub signed_numbers : ℕ → Numbers
signed_numbers count = record { count = count; low = 9223372036854775808; high = 9223372036854775807 }

unfoldable pub sum_of : List ℕ → ℕ
sum_of [] = 0
sum_of (l ∷ ls) = l + sum_of ls

-- by the counts of the numbers of a series and of r values
pub lines-total : (kind : Kind) (series values : Numbers) (r n : ℕ) → series.count ≡ carried kind n → values.count ≡ r
    → total (job_lines kind (form_of series) (form_of values) r) ≡ sum_of (read_lengths kind r n)
unfolding job_lines read_lengths read_count lengths_of sum_of total
lines-total System x y r n e f =
    let entries = matrix_forms (form_of x) (65 ∷ []) r 1 r in
    let rows = row_forms (form_of x) (98 ∷ []) 1 r in
    let a = total-matrix x.count x.low x.high (65 ∷ []) r 1 r in
    let b = total-rows x.count x.low x.high (98 ∷ []) 1 r in
    total-append (entries ++ rows) (form_of y (118 ∷ []) ∷ []) ∙ rw (total-append entries rows, a, b, e, f)
    (omega arith)
lines-total Basis x y r n e f =
    let entries = matrix_forms (form_of x) (65 ∷ []) r 1 r in
    let rows = row_forms (form_of y) (86 ∷ []) 1 r in
    let a = total-matrix x.count x.low x.high (65 ∷ []) r 1 r in
    let b = total-rows y.count y.low y.high (86 ∷ []) 1 r in
    total-append entries rows ∙ rw (a, b, e, f) (omega arith)
lines-total Equation x y r n e f =
    let rows = row_forms (form_of x) (97 ∷ []) 0 (r + 1) in
    let right = form_of x (98 ∷ []) ∷ [] in
    let a = total-rows x.count x.low x.high (97 ∷ []) 0 (r + 1) in
    total-append (rows ++ right) (form_of y (115 ∷ 116 ∷ 97 ∷ 114 ∷ 116 ∷ []) ∷ [])
    ∙ rw (total-append rows right, a, e, f) (omega arith)
