-- Job sheets (document 01, "Sheets"), line by line:
--   system: `A i j c_0 ..` row by row, `b i c_0 ..`, one line `v v_1 .. v_r`;
--   basis: the A lines, then `V i` with r numbers for each row of Y0;
--   equation: `a i c_0 ..` for i from 0 to r, `b c_0 ..`, `start` with r numbers.
-- Assumes nothing.
use Rattle.std.specs.Prelude.{List, [], ◌∷◌, ◌++◌, ℕ, ◌+◌, take}
use Rattle.job.specs.declared.Kind.{Kind}
use Rattle.job.specs.declared.Kind.TheVariants.{System, Basis, Equation}
use Rattle.job.specs.Job.{lengths_of, read_count}
use Rattle.text.specs.Lines.{Form}
use Rattle.lines.specs.Forms.{shaped, row_forms, matrix_forms}

-- numbers from -9223372036854775808 to 9223372036854775807
abbrev pub signed : ℕ → List ℕ → Form
signed count = shaped count 9223372036854775808 9223372036854775807

-- the lines behind line 1, by the forms of lines with the coefficients of a series and of lines with r numbers. In
-- bytes, `A` is 65, `b` 98, `v` 118, `V` 86, `a` 97, and `start` 115 116 97 114 116
unfoldable pub job_lines : Kind → (List ℕ → Form) → (List ℕ → Form) → ℕ → List Form
job_lines System series values r =
    matrix_forms series (65 ∷ []) r 1 r ++ row_forms series (98 ∷ []) 1 r ++ (values (118 ∷ []) ∷ [])
job_lines Basis series values r = matrix_forms series (65 ∷ []) r 1 r ++ row_forms values (86 ∷ []) 1 r
job_lines Equation series values r =
    row_forms series (97 ∷ []) 0 (r + 1)
    ++ (series (98 ∷ []) ∷ [])
    ++ (values (115 ∷ 116 ∷ 97 ∷ 114 ∷ 116 ∷ []) ∷ [])

-- the numbers of a job sheet are, in this order, those of its read buffers, and these have so many
unfoldable pub read_lengths : Kind → ℕ → ℕ → List ℕ
read_lengths kind r n = take (read_count kind) (lengths_of kind r n)
