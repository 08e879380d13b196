-- What the solving program prints for a text (document 01, "Sheets"): the result sheet of the job that the text holds,
-- or the one line of the refusal. The text is read as a job sheet, the job that it holds is called, and the words that
-- the call leaves are written; each of the three steps is the one that its own definition says.
-- Assumes nothing.
use Rattle.std.specs.Prelude.{◌≡◌, refl, cond, List, [], ◌∷◌, ◌++◌, ℕ, ltb, take, replicate, get_or, Result, Ok}
use Rattle.job.specs.declared.Kind.{Kind}
use Rattle.job.specs.declared.Kind.TheVariants.{System, Basis, Equation}
use Rattle.job.specs.declared.Refusal.{Refusal}
use Rattle.job.specs.Refusal.{Verdict, done, refused, Answer, verdict_of}
use Rattle.job.specs.Job.{Job, Buffers, buffers, words, carried, room_of, lengths_of, read_count}
use Rattle.job.specs.Outcome.{Outcome}
use Rattle.refusal.specs.Checked.{job_of}
use Rattle.text.specs.Decimal.{digits, digits_up_to}
use Rattle.text.specs.Put.{Put}
use Rattle.lines.specs.Forms.{numbered}
use Rattle.job.specs.declared.Header.{Header}
use Rattle.sheet.specs.Read.{JobOutcome}
use Rattle.result.specs.ResultSheet.{result_text}

-- the bytes of `refused`
abbrev pub refused_word : List ℕ
refused_word = 114 ∷ 101 ∷ 102 ∷ 117 ∷ 115 ∷ 101 ∷ 100 ∷ []

-- the line of a refusal: `refused`, number, first place, second place
unfoldable pub refusal_line : ℕ → ℕ → ℕ → List ℕ
refusal_line number first second = numbered (numbered (numbered refused_word number) first) second ++ (10 ∷ [])

-- `refused`, 9, 2, 0
refusal_line_example
    : refusal_line 9 2 0 ≡ 114 ∷ 101 ∷ 102 ∷ 117 ∷ 115 ∷ 101 ∷ 100 ∷ 9 ∷ 57 ∷ 9 ∷ 50 ∷ 9 ∷ 48 ∷ 10 ∷ []
unfolding refusal_line digits digits_up_to
refusal_line_example = refl

-- the rooms of the reader: three of 2048 words, zeros throughout
abbrev pub fresh : List (List ℕ)
fresh = replicate 2048 0 ∷ replicate 2048 0 ∷ replicate 2048 0 ∷ []

-- the buffers of the job whose read buffers stand in rooms, each with its length: one that is only read has the first
-- words of its room, and the others hold zeros
unfoldable pub lent_of : Kind → ℕ → ℕ → List (List ℕ) → Buffers
lent_of kind r n rooms = buffers (lent 0) (lent 1) (lent 2) (lent 3) (lent 4)
  where
    lent : ℕ → List ℕ
    lent k =
        let count = get_or (lengths_of kind r n) k 0 in
        cond (ltb k (read_count kind)) (take count (get_or rooms k [])) (replicate count 0)

-- a basis of order 1 with two terms: A is 5 6, Y0 is 7
lent_of_example
    : lent_of Basis 1 2 ((5 ∷ 6 ∷ 1 ∷ []) ∷ (7 ∷ 1 ∷ []) ∷ (1 ∷ 1 ∷ []) ∷ [])
    ≡ buffers (5 ∷ 6 ∷ []) (7 ∷ []) (0 ∷ 0 ∷ []) (0 ∷ 0 ∷ []) (replicate 32 0)
unfolding lent_of lengths_of carried room_of read_count
lent_of_example = refl

-- the job of a header, in rooms
abbrev pub job_in : Header → List (List ℕ) → Job
job_in h rooms = job_of h.kind h.r h.n h.p (lent_of h.kind h.r h.n rooms)

-- what is printed of the third and the fourth buffer: y, or Y and Z
unfoldable pub printed_of : Kind → List ℕ → List ℕ → List (List ℕ)
printed_of System three four = four ∷ []
printed_of Basis three four = three ∷ four ∷ []
printed_of Equation three four = four ∷ []

printed_of_example : printed_of Basis (3 ∷ []) (4 ∷ []) ≡ (3 ∷ []) ∷ (4 ∷ []) ∷ []
unfolding printed_of
printed_of_example = refl

-- the text printed for a verdict: the result sheet, or the line of the refusal
unfoldable pub text_for : Verdict → List ℕ → List ℕ
text_for done sheet = sheet
text_for (refused number first second) sheet = refusal_line number first second

-- 7 is printed in the place of a sheet
text_for_example : text_for (refused 7 0 0) (1 ∷ []) ≡ refusal_line 7 0 0
unfolding text_for
text_for_example = refl

-- the text t is what is printed for the job that stands in rooms
pub record Called (h : Header) (rooms : List (List ℕ)) (t : List ℕ) : Type 0 where
  pub answer : Answer
  pub after : Buffers
  pub outcome : Outcome words (job_in h rooms) answer after
  pub prints : t ≡ text_for (verdict_of answer) (result_text h (printed_of h.kind after.three after.four))

-- the text t is what is printed for the text s
pub record Reply (s t : List ℕ) : Type 0 where
  pub reading : Result Header Refusal
  pub rooms : List (List ℕ)
  pub read : JobOutcome s fresh reading rooms
  pub refuses
      : (number first second : ℕ) → verdict_of reading ≡ refused number first second
      → t ≡ refusal_line number first second
  pub calls : (h : Header) → reading ≡ Ok h → Called h rooms t

-- it stands at the beginning of a buffer, has so many bytes, and the bytes behind it are what they were
pub record Replied (s before after : List ℕ) (length : ℕ) : Type 0 where
  pub text : List ℕ
  pub reply : Reply s text
  pub put : Put 0 text before after length
