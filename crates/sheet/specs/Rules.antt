-- The refusals of the readers of sheets, in document 01's order: 5 for a room of another length than 2048 before all
-- else; 10 for bytes; 9 for line 1; 1, 2, 3, 4; 10 for r*r*N; 9 for the remaining lines. There is one rule for each
-- room and one for each line, lowest first. A missing line is broken at the number that it should have, and so is a
-- last line without its line feed; whatever follows the last line is broken at the next number.
-- Assumes nothing.
use Rattle.std.specs.Prelude.{List, [], ◌∷◌, ◌++◌, ℕ, zero, suc, ◌-◌, ◌<◌, ℤ, length, replicate}
use Rattle.job.specs.Refusal.{Rule, rule}
use Rattle.job.specs.Job.{words, bytes}
use Rattle.job.specs.Rules.{limit_rules, size_rules, length_rules}
use Rattle.text.specs.Lines.{Form}
use Rattle.job.specs.declared.Header.{Header}
use Rattle.sheet.specs.Sheet.{Sheet, Keeps}

-- 9, at a line
abbrev pub broken : ℕ → Type 0 → Rule
broken line holds = record { holds = holds; number = 9; first = line; second = 0 }

-- 5
unfoldable pub room_rules : List (List ℕ) → List Rule
room_rules rooms = length_rules words 1 (replicate (length rooms) 2048) rooms

-- 10 for bytes; 9 for line 1; 1, 2, 3, 4; 10 for r*r*N
unfoldable pub open_rules : (Header → List Form) → List ℕ → Header → List Rule
open_rules forms s h =
    rule 10 (65536 < length s)
    ∷ broken 1 (¬ Keeps forms s h 1)
    ∷ limit_rules h.r h.n h.p ++ size_rules bytes h.r h.n

-- 9 for so many lines, from line k on, and then for what follows them: line k is broken where no sheet begins with the
-- text's first k lines, and the text goes on behind its last line where it is no sheet
unfoldable pub line_rules : (Header → List Form) → List ℕ → Header → ℕ → ℕ → List Rule
line_rules forms s h k zero = broken k ((z : ℕ → ℤ) → ¬ Sheet forms s h z) ∷ []
line_rules forms s h k (suc count) = broken k (¬ Keeps forms s h k) ∷ line_rules forms s h (suc k) count

-- all refusals of a reader with such rooms, for a text whose header, if it has one, is h
unfoldable pub sheet_rules : (Header → List Form) → List ℕ → List (List ℕ) → Header → List Rule
sheet_rules forms s rooms h =
    room_rules rooms ++ open_rules forms s h ++ line_rules forms s h 2 (length (forms h) - 1)
