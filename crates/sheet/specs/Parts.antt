-- What the parts of a reader of sheets ask and find, whatever the sort of sheets; and then, of the reader of job
-- sheets, its rooms. A sort is given by the forms of its lines and by the fields that line 1 begins with.
-- Assumes nothing.
use Rattle.std.specs.Prelude.{
  ◌≡◌,
  List,
  [],
  ◌∷◌,
  ℕ,
  ◌+◌,
  ◌-◌,
  ◌≤◌,
  ◌<◌,
  ℤ,
  length,
  take,
  Option,
  Some,
  None,
  Result,
  Ok,
  Err,
}
use Rattle.job.specs.declared.Kind.{Kind}
use Rattle.job.specs.declared.Kind.TheVariants.{System, Basis, Equation}
use Rattle.job.specs.declared.Refusal.{Refusal}
use Rattle.job.specs.Refusal.{done, refused, Says, refusal_verdict, Answer, verdict_of}
use Rattle.text.specs.Lines.{Form}
use Rattle.cursor.specs.declared.Cursor.{Cursor}
use Rattle.lines.specs.Steps.{nth, Placed, Read}
use Rattle.lines.specs.declared.BrokenLine.{BrokenLine}
use Rattle.job.specs.declared.Header.{Header}
use Rattle.header.specs.Header.{header_form}
use Rattle.header.specs.Opened.{Opens}
use Rattle.body.specs.declared.Lengths.{Lengths}
use Rattle.sheet.specs.Sheet.{Sheet, Keeps, FirstLine}
use Rattle.sheet.specs.Rules.{open_rules, line_rules}
use Rattle.sheet.specs.Read.{Taken}

-- line 1 is the header behind the fields that lead
pub record Led (forms : Header → List Form) (lead : Kind → List ℕ) : Type 0 where
  pub first : (h : Header) → take 1 (forms h) ≡ header_form (lead h.kind) h ∷ []

-- the header of a sheet and the place behind line 1, or none
abbrev pub Opened : (Header → List Form) → (Kind → List ℕ) → List ℕ → Option (Header × Cursor) → Type 0
Opened forms lead s (Some (h, c)) = Opens (lead h.kind) s h c
Opened forms lead s None = (h : Header) → ¬ Keeps forms s h 1

-- so for every sort whose line 1 begins with these fields, by the kind
pub record OpenedKinds (system basis equation s : List ℕ) (o : Option (Header × Cursor)) : Type 0 where
  pub opened : (forms : Header → List Form) (lead : Kind → List ℕ) → Led forms lead → lead System ≡ system
      → lead Basis ≡ basis → lead Equation ≡ equation → Opened forms lead s o

-- a header that nothing refuses, and the place behind it
pub record Entered (forms : Header → List Form) (lead : Kind → List ℕ) (s : List ℕ) (h : Header) (c : Cursor) : Type 0
  where
    pub opens : Opens (lead h.kind) s h c
    pub says : Says (open_rules forms s h) done

-- such a header, or the refusal
abbrev pub Started
    : (Header → List Form) → (Kind → List ℕ) → List ℕ → Result (Header × Cursor) Refusal → Type 0
Started forms lead s (Ok (h, c)) = Entered forms lead s h c
Started forms lead s (Err x) = (h : Header) → FirstLine forms s h → Says (open_rules forms s h) (refusal_verdict x)

-- so for every sort, where line 1 is what the opening says
pub record Starting (s : List ℕ) (o : Option (Header × Cursor)) (x : Result (Header × Cursor) Refusal) : Type 0 where
  pub started : (forms : Header → List Form) (lead : Kind → List ℕ) → Led forms lead → Opened forms lead s o
      → Started forms lead s x

-- the place behind lines is within the text
abbrev pub Inside : List ℕ → Result Cursor BrokenLine → Type 0
Inside s (Ok d) = Placed s d
Inside s (Err b) = Unit {0}

-- the text is a whole sheet with these numbers, or it is refused, broken at a line
abbrev pub Bodied : (Header → List Form) → List ℕ → Header → List ℤ → Answer → Type 0
Bodied forms s h w (Ok a) = Sheet forms s h (nth w)
Bodied forms s h w (Err x) = Says (line_rules forms s h 2 (length (forms h) - 1)) (refusal_verdict x)

-- so for every sort, where the lines behind line 1 are what was read
pub record Closing (s : List ℕ) (t : Result Cursor BrokenLine) (b : Answer) : Type 0 where
  pub bodied : (forms : Header → List Form) (lead : List ℕ) (h : Header) (c : Cursor) (fs : List Form)
      (old new : List ℤ) → Opens lead s h c → forms h ≡ header_form lead h ∷ fs → Read s c fs 0 old new t
      → Bodied forms s h new b

-- behind a header that nothing refuses: the verdict of the remaining lines, and what is left in the rooms
pub record Finished (forms : Header → List Form) (lengths : Header → List ℕ) (s : List ℕ) (h : Header)
    (rooms : List (List ℕ)) (answer : Result Header Refusal) (after : List (List ℕ)) : Type 0 where
  pub verdict : Says (line_rules forms s h 2 (length (forms h) - 1)) (verdict_of answer)
  pub kept : (number first second : ℕ) → verdict_of answer ≡ refused number first second → after ≡ rooms
  pub taken : verdict_of answer ≡ done → Taken forms lengths s rooms answer after

-- three rooms of 2048 words
pub record Roomy (one two three : List ℕ) : Type 0 where
  pub first : length one ≡ 2048
  pub second : length two ≡ 2048
  pub third : length three ≡ 2048

-- what filling them wants
pub record Fillable (p : ℕ) (w : List ℤ) (l : Lengths) (one two three : List ℕ) : Type 0 where
  pub modulus : 0 < p
  pub numbers : l.one + l.two + l.three ≤ length w
  pub first : l.one ≤ length one
  pub second : l.two ≤ length two
  pub third : l.three ≤ length three
