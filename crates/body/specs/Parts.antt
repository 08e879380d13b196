-- What the readers of a job sheet's lines ask and find.
-- Assumes nothing.
use Rattle.std.specs.Prelude.{◌≡◌, List, ℕ, ◌*◌, ◌≤◌, ◌<◌, ◌^◌, ℤ, length, get_or}
use Rattle.job.specs.declared.Kind.{Kind}
use Rattle.job.specs.Job.{carried}
use Rattle.text.specs.Lines.{Form}
use Rattle.cursor.specs.declared.Cursor.{Cursor}
use Rattle.lines.specs.declared.Numbers.{Numbers}
use Rattle.lines.specs.Steps.{form_of, Placed}
use Rattle.body.specs.declared.Lengths.{Lengths}
use Rattle.body.specs.JobLines.{job_lines, read_lengths}

-- the lines of a kind, by the numbers of a series and of r values
abbrev pub lines_of : Kind → Numbers → Numbers → ℕ → List Form
lines_of kind series values r = job_lines kind (form_of series) (form_of values) r

-- an order and a number of terms within the limits of a sheet
pub record Small (r n : ℕ) : Type 0 where
  pub order_least : 1 ≤ r
  pub order : r ≤ 8
  pub terms_least : 1 ≤ n
  pub product : r * r * n ≤ 1024

-- the lengths of the read buffers; a buffer that is not read counts 0
pub record Measured (kind : Kind) (r n : ℕ) (l : Lengths) : Type 0 where
  pub one : l.one ≡ get_or (read_lengths kind r n) 0 0
  pub two : l.two ≡ get_or (read_lengths kind r n) 1 0
  pub three : l.three ≡ get_or (read_lengths kind r n) 2 0

-- what reading the lines behind line 1 wants: the numbers of a series and of r values, and a buffer for all
pub record Waiting (kind : Kind) (r : ℕ) (series values : Numbers) (l : Lengths) (s : List ℕ) (c : Cursor)
    (w : List ℤ) : Type 0
  where
    pub terms : ℕ
    pub small : Small r terms
    pub measured : Measured kind r terms l
    pub coefficients : series.count ≡ carried kind terms
    pub width : values.count ≡ r
    pub placed : Placed s c
    pub field : c.field ≡ 0
    pub ranges : (series.low ≤ 2 ^ 63) × (series.high < 2 ^ 63) × (values.low ≤ 2 ^ 63) × (values.high < 2 ^ 63)
    pub room : 3080 ≤ length w
