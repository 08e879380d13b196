-- What the parts of the reader of result sheets ask and find.
-- Assumes nothing.
use Rattle.std.specs.Prelude.{◌≡◌, List, ℕ, ◌+◌, ◌≤◌, ◌<◌, ◌^◌, ℤ, length, get_or}
use Rattle.job.specs.declared.Kind.{Kind}
use Rattle.cursor.specs.declared.Cursor.{Cursor}
use Rattle.lines.specs.declared.Numbers.{Numbers}
use Rattle.lines.specs.Steps.{Placed}
use Rattle.body.specs.Parts.{Small}
use Rattle.result.specs.ResultSheet.{result_counts}
use Rattle.reread.specs.declared.Counts.{Counts}

-- the words of the buffers of a result; a buffer that is not there counts 0
pub record Counted (kind : Kind) (r n : ℕ) (l : Counts) : Type 0 where
  pub one : l.one ≡ get_or (result_counts kind r n) 0 0
  pub two : l.two ≡ get_or (result_counts kind r n) 1 0

-- what reading the lines behind line 1 wants: the numbers of a series, and a buffer for all
pub record Awaited (r : ℕ) (series : Numbers) (s : List ℕ) (c : Cursor) (w : List ℤ) : Type 0 where
  pub small : Small r series.count
  pub placed : Placed s c
  pub field : c.field ≡ 0
  pub low : series.low ≤ 2 ^ 63
  pub high : series.high < 2 ^ 63
  pub room : 2048 ≤ length w

-- two rooms of 2048 words
pub record Roomy (one two : List ℕ) : Type 0 where
  pub first : length one ≡ 2048
  pub second : length two ≡ 2048

-- what filling them wants
pub record Fillable (p : ℕ) (w : List ℤ) (l : Counts) (one two : List ℕ) : Type 0 where
  pub modulus : 0 < p
  pub numbers : l.one + l.two ≤ length w
  pub first : l.one ≤ length one
  pub second : l.two ≤ length two
