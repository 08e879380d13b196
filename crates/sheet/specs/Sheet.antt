-- What a sheet is (document 01, "Sheets"): the one text that its header and its numbers have. A sort of sheets is given
-- by the forms of its lines, line 1 among them, for each header.
-- Assumes nothing.
use Rattle.std.specs.Prelude.{◌≡◌, List, [], ℕ, ℤ, take}
use Rattle.text.specs.Lines.{Form, Begins}
use Rattle.job.specs.declared.Header.{Header}
use Rattle.header.specs.Header.{TenDigits}

-- the text is the sheet with the header h and the numbers z
pub record Sheet (forms : Header → List Form) (s : List ℕ) (h : Header) (z : ℕ → ℤ) : Type 0 where
  pub short : TenDigits h
  pub whole : Begins s (forms h) z 0 []

-- some sheet with the header h begins with the text's first k lines
pub record Keeps (forms : Header → List Form) (s : List ℕ) (h : Header) (k : ℕ) : Type 0 where
  pub short : TenDigits h
  pub numbers : ℕ → ℤ
  pub rest : List ℕ
  pub begins : Begins s (take k (forms h)) numbers 0 rest

-- h is the header of the text, if it has one: no sheet with another header begins with its first line
pub record FirstLine (forms : Header → List Form) (s : List ℕ) (h : Header) : Type 0 where
  pub same : (g : Header) → Keeps forms s g 1 → g ≡ h
