-- What the parts of the solving program's work ask and find.
-- Assumes nothing.
use Rattle.std.specs.Prelude.{◌≡◌, refl, List, [], ◌∷◌, ℕ, length, replicate, Result, Ok, Err}
use Rattle.job.specs.declared.Kind.TheVariants.{Basis}
use Rattle.job.specs.declared.Refusal.{Refusal}
use Rattle.job.specs.Refusal.{Verdict, done, refused, refusal_verdict}
use Rattle.text.specs.Put.{Put}
use Rattle.job.specs.declared.Header.{Header}
use Rattle.body.specs.Parts.{Small}
use Rattle.sheet.specs.Parts.{Roomy}
use Rattle.reply.specs.Reply.{refusal_line, Called}

-- the line of a refusal stands at the beginning of a buffer
abbrev pub Refuses : Verdict → List ℕ → List ℕ → ℕ → Type 0
Refuses done before after e = Unit {0}
Refuses (refused number first second) before after e = Put 0 (refusal_line number first second) before after e

-- a buffer of so many zeros
pub record Blank (count : ℕ) (s : List ℕ) : Type 0 where
  pub zeros : s ≡ replicate count 0

blank_example : Blank 2 (0 ∷ 0 ∷ [])
blank_example = record { zeros = refl }

-- a job can be called that stands in rooms: its order and its number of terms are within the limits of a sheet, the
-- rooms are those of the reader, the buffers that are written hold zeros, room 3 for a basis among them, and there is
-- the room for the text
pub record Callable (h : Header) (one two three four work out : List ℕ) : Type 0 where
  pub small : Small h.r h.n
  pub rooms : Roomy one two three
  pub third : h.kind ≡ Basis → Blank 2048 three
  pub fourth : Blank 1024 four
  pub scratch : Blank 16384 work
  pub room : length out ≡ 65536

-- what is printed for the job that stands in rooms stands at the beginning of a buffer
pub record Told (h : Header) (rooms : List (List ℕ)) (before after : List ℕ) (e : ℕ) : Type 0 where
  pub text : List ℕ
  pub called : Called h rooms text
  pub put : Put 0 text before after e

-- what comes of a text or of its job, where P says of a buffer and a length what is printed: it stands there, or it
-- does as soon as the line of the refusal is put there
abbrev pub Comes : (List ℕ → ℕ → Type 0) → Result ℕ Refusal → List ℕ → Type 0
Comes P (Ok length) after = P after length
Comes P (Err refusal) after =
    (last : List ℕ) (length : ℕ) → Refuses (refusal_verdict refusal) after last length → P last length
