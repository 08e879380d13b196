-- Job sheets (document 01, "Sheets"), line by line:
--   system: `A i j c_0 ..` row by row, `b i c_0 ..`, one line `v v_1 .. v_r`;
--   basis: the A lines, then `V i` with r numbers for each row of Y0;
--   equation: `a i c_0 ..` for i from 0 to r, `b c_0 ..`, `start` with r numbers.
-- Assumes nothing.
use Rattle.std.specs.Prelude.{◌≡◌, refl, List, [], ◌∷◌, ℕ, ℤ, pos, negsuc, get_or}
use Rattle.job.specs.declared.Kind.TheVariants.{System}
use Rattle.job.specs.Job.{carried}
use Rattle.text.specs.Decimal.{digits, digits_up_to}
use Rattle.text.specs.Lines.{Form, items, lines}
use Rattle.lines.specs.Forms.{row_forms, matrix_forms}
use Rattle.job.specs.declared.Header.{Header}
use Rattle.header.specs.Header.{header, word_of, header_form}
use Rattle.body.specs.JobLines.{signed, job_lines, read_lengths}

-- all lines of the job sheet with a header
unfoldable pub job_forms : Header → List Form
job_forms h =
    header_form (word_of h.kind) h
    ∷ job_lines h.kind (signed (carried h.kind h.n)) (signed h.r) h.r

-- how many numbers go into each room
abbrev pub job_lengths : Header → List ℕ
job_lengths h = read_lengths h.kind h.r h.n

-- document 01's example: `system 1 3 7`, `A 1 1 1 0 0`, `b 1 0 0 0`, `v -6`
example : List ℕ
example =
    115 ∷ 121 ∷ 115 ∷ 116 ∷ 101 ∷ 109 ∷ 9 ∷ 49 ∷ 9 ∷ 51 ∷ 9 ∷ 55 ∷ 10 ∷
    65 ∷ 9 ∷ 49 ∷ 9 ∷ 49 ∷ 9 ∷ 49 ∷ 9 ∷ 48 ∷ 9 ∷ 48 ∷ 10 ∷
    98 ∷ 9 ∷ 49 ∷ 9 ∷ 48 ∷ 9 ∷ 48 ∷ 9 ∷ 48 ∷ 10 ∷
    118 ∷ 9 ∷ 45 ∷ 54 ∷ 10 ∷ []

numbers : List ℤ
numbers = pos 1 ∷ pos 0 ∷ pos 0 ∷ pos 0 ∷ pos 0 ∷ pos 0 ∷ negsuc 5 ∷ []

job_example : lines (job_forms (header System 1 3 7)) (λ k. get_or numbers k (pos 0)) 0 ≡ example
unfolding example numbers job_forms job_lines word_of row_forms matrix_forms carried lines items digits digits_up_to
job_example = refl
