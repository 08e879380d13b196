-- What a writer of result sheets leaves behind: its answer, and every byte of the text afterwards. It checks, in
-- document 01's order, 1 to 4, 10 for r*r*N, 5 and 6; the text, of 65536 bytes, is the last buffer.
-- Assumes nothing.
use Rattle.std.specs.Prelude.{◌≡◌, List, [], ◌∷◌, ◌++◌, ℕ, length, Result, Ok}
use Rattle.job.specs.declared.Refusal.{Refusal}
use Rattle.job.specs.Refusal.{done, refused, Rule, Says, verdict_of}
use Rattle.job.specs.Job.{words, bytes}
use Rattle.job.specs.Rules.{limit_rules, size_rules, length_rules, read_rules}
use Rattle.text.specs.Put.{Put}
use Rattle.job.specs.declared.Header.{Header}
use Rattle.result.specs.ResultSheet.{result_lengths, result_text}

-- all refusals of a writer, for a header, the buffers of words lent and the text lent
unfoldable pub write_rules : Header → List (List ℕ) → List ℕ → List Rule
write_rules h lent text =
    limit_rules h.r h.n h.p
    ++ size_rules bytes h.r h.n
    ++ length_rules words 1 (result_lengths h ++ (65536 ∷ [])) (lent ++ (text ∷ []))
    ++ read_rules words h.p 1 (length lent) (result_lengths h) lent

-- a writer is refused by the first rule that holds, and then the text is what it was; or it is done and brings the
-- sheet's length, the sheet stands at the text's beginning, and the bytes behind it are what they were
pub record WriteOutcome (h : Header) (lent : List (List ℕ)) (text : List ℕ) (answer : Result ℕ Refusal) (after : List ℕ)
    : Type 0 where
  pub verdict : Says (write_rules h lent text) (verdict_of answer)
  pub kept : (number first second : ℕ) → verdict_of answer ≡ refused number first second → after ≡ text
  pub brought : verdict_of answer ≡ done → answer ≡ Ok (length (result_text h lent))
  pub written : (l : ℕ) → answer ≡ Ok l → Put 0 (result_text h lent) text after l
