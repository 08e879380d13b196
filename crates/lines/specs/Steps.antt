-- What a cursor finds on its way through a text.
-- Assumes nothing.
use Rattle.std.specs.Prelude.{◌≡◌, cond, List, [], ◌∷◌, ◌++◌, ℕ, suc, ◌+◌, ◌≤◌, ◌<◌, ◌^◌, eqb, ℤ, pos}
use Rattle.std.specs.Prelude.{Option, Some, None, Result, Ok, Err}
use Rattle.std.specs.Prelude.{length, get_or, take, drop}
use Rattle.text.specs.Decimal.{spell}
use Rattle.text.specs.Lines.{Form, Within, Begins}
use Rattle.text.specs.Field.{Stop}
use Rattle.lines.specs.Forms.{shaped}
use Rattle.cursor.specs.declared.Cursor.{Cursor}
use Rattle.lines.specs.declared.Numbers.{Numbers}
use Rattle.lines.specs.declared.BrokenLine.{BrokenLine}

-- the number of index i in a buffer
abbrev pub nth : List ℤ → ℕ → ℤ
nth w i = get_or w i (pos 0)

-- the form of a line by its numbers and its head
abbrev pub form_of : Numbers → List ℕ → Form
form_of n = shaped n.count n.low n.high

-- a cursor within a text: it has passed no more lines and no more tabs than bytes
pub record Placed (s : List ℕ) (c : Cursor) : Type 0 where
  pub byte : c.byte ≤ length s
  pub line : c.line ≤ c.byte
  pub field : c.field ≤ c.byte

-- r is the end of the field that begins at `from`: no byte before it is up to 10, and the byte there, if any, is
pub record Field (s : List ℕ) (from r : ℕ) : Type 0 where
  pub order : from ≤ r
  pub within : r ≤ length s
  pub plain : (k : ℕ) → from ≤ k → k < r → 10 < get_or s k 0
  pub stop : r < length s → get_or s r 0 ≤ 10

-- the tabs among some bytes
unfoldable pub tabs : List ℕ → ℕ
tabs [] = 0
tabs (b ∷ t) = cond (eqb b 9) 1 0 + tabs t

-- the bytes h stand at the cursor c, and d is the place behind them
pub record Past (s : List ℕ) (c : Cursor) (h : List ℕ) (d : Cursor) : Type 0 where
  pub text : drop c.byte s ≡ h ++ drop d.byte s
  pub byte : d.byte ≡ c.byte + length h
  pub placed : Placed s d
  pub line : d.line ≡ c.line
  pub field : d.field ≡ c.field + tabs h

-- the bytes h at the cursor, or not
abbrev pub Headed : List ℕ → Cursor → List ℕ → Option Cursor → Type 0
Headed s c h (Some d) = Past s c h d
Headed s c h None = (t : List ℕ) → drop c.byte s ≡ h ++ t → ⊥

-- a tab and the number z stand at the cursor c, the field ends there, and d is the place behind it
pub record Behind (s : List ℕ) (c : Cursor) (z : ℤ) (d : Cursor) : Type 0 where
  pub text : drop c.byte s ≡ 9 ∷ (spell z ++ drop d.byte s)
  pub stop : Stop (drop d.byte s)
  pub further : c.byte < d.byte
  pub placed : Placed s d
  pub line : d.line ≡ c.line
  pub field : d.field ≡ c.field + 1

-- a tab and a number from -low to high at the cursor, or none
abbrev pub Itemed : List ℕ → Cursor → ℕ → ℕ → Option (ℤ × Cursor) → Type 0
Itemed s c low high (Some (z, d)) = Within low high z × Behind s c z d
Itemed s c low high None =
    (z : ℤ) (t : List ℕ) → Within low high z → Stop t → drop c.byte s ≡ 9 ∷ (spell z ++ t) → ⊥

-- what reading wants: a cursor within the text, a range of the machine's numbers, and a buffer with so many places
pub record Ready (s : List ℕ) (c : Cursor) (n : Numbers) (places : ℕ) (w : List ℤ) : Type 0 where
  pub placed : Placed s c
  pub low : n.low ≤ 2 ^ 63
  pub high : n.high < 2 ^ 63
  pub room : places ≤ length w

-- lines stand at the cursor c: d is the place behind them, and their numbers are stored from the index i on
pub record Passed (s : List ℕ) (c : Cursor) (fs : List Form) (i : ℕ) (old new : List ℤ) (d : Cursor) : Type 0 where
  pub placed : Placed s d
  pub order : c.byte ≤ d.byte
  pub line : d.line ≡ c.line + length fs
  pub field : d.field ≡ 0
  pub long : length new ≡ length old
  pub kept : (k : ℕ) → k < i → nth new k ≡ nth old k
  pub begins : Begins (drop c.byte s) fs (nth new) i (drop d.byte s)

-- lines should stand at the cursor c, and the line `number` of the text is the first that does not: those before it do,
-- and their numbers are stored from the index i on
pub record Breaks (s : List ℕ) (c : Cursor) (fs : List Form) (i : ℕ) (old new : List ℤ) (number : ℕ) : Type 0 where
  pub before : ℕ
  pub line : number ≡ c.line + suc before
  pub within : before < length fs
  pub kept : (k : ℕ) → k < i → nth new k ≡ nth old k
  pub rest : List ℕ
  pub begins : Begins (drop c.byte s) (take before fs) (nth new) i rest
  pub none : (z : ℕ → ℤ) (t : List ℕ) → Begins (drop c.byte s) (take (suc before) fs) z i t → ⊥

-- lines at the cursor, or the first that is broken
abbrev pub Read : List ℕ → Cursor → List Form → ℕ → List ℤ → List ℤ → Result Cursor BrokenLine → Type 0
Read s c fs i old new (Ok d) = Passed s c fs i old new d
Read s c fs i old new (Err b) = Breaks s c fs i old new b.line
