-- What the parts of the exported functions ask.
-- Assumes nothing.
use Rattle.std.specs.Prelude.{◌≡◌, ℕ, ◌<◌, Result, Err}
use Rattle.job.specs.declared.Refusal.{Refusal}
use Rattle.job.specs.declared.Refusal.TheVariants.{Form}

-- a broken line's number has room in its place of the packed number
pub record LineFits {A : Type 0} (x : Result A Refusal) : Type 0 where
  pub small : (line : ℕ) → x ≡ Err (Form line) → line < 16777216
