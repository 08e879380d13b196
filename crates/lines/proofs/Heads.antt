-- Given bytes at a cursor, and the place behind them with their tabs counted.
-- Assumes nothing.
use Rattle.std.proofs.Common.{◌≡◌, Bool, true, false, cond, refl, ◌≤◌, ◌-◌, ◌==◌, List, ◌∷◌, ◌++◌, ℕ, ◌+◌, arith}
use Rattle.std.proofs.Common.{length, drop, count_by, length-append, length-drop}
use Rattle.std.proofs.lemmas.List.Sums.{count_by-le-length}
use Rattle.std.proofs.lemmas.List.Recursion.{is_count_by}
use Rattle.cursor.specs.declared.Cursor.{Cursor}
use Rattle.lines.specs.Steps.{tabs, Placed, Past}

tabs_count : (h : List ℕ) → tabs h ≡ count_by (λ b. b == 9) h
unfolding tabs
tabs_count = is_count_by tabs (λ b. b == 9) refl step
  where
    step : (b : ℕ) (t : List ℕ) → tabs (b ∷ t) ≡ cond (b == 9) (1 + tabs t) (tabs t)
    step b t = go (b == 9)
      where
        go : (v : Bool) → cond v 1 0 + tabs t ≡ cond v (1 + tabs t) (tabs t)
        go true = refl
        go false = omega arith

pub head_past
    : (s : List ℕ) (c : Cursor) (h : List ℕ) (n : ℕ) → Placed s c → drop c.byte s ≡ h ++ drop (c.byte + length h) s
    → n ≡ count_by (λ b. b == 9) h
    → Past s c h (record { byte = c.byte + length h; line = c.line; field = c.field + n })
head_past s c h n p text count =
    let most = count_by-le-length (λ (b : ℕ). b == 9) h in
    let long : length h ≤ length (drop c.byte s) = rw text (simp length-append (omega arith)) in
    let all : length (drop c.byte s) ≡ length s - c.byte = simp length-drop in
    record {
      text = text;
      byte = refl;
      placed = record {
        byte = omega (arith, p.byte);
        line = omega (arith, p.line);
        field = omega (arith, p.field);
      };
      line = refl;
      field = omega (arith, tabs_count h);
    }
