-- The numbers of a line, read one after the other: `Going` holds of the first j of them, from the start over each next
-- number to the line feed.
-- Assumes nothing.
use Rattle.std.proofs.Common.{Some, None, ◌≡◌, refl, sym, ap, ◌∙◌, List, [], ◌∷◌, ◌++◌, append_assoc, ℕ, suc, ◌+◌}
use Rattle.std.proofs.Common.{◌-◌, ◌<◌, ◌≤◌, arith, add-one, ℤ, pos, length, drop, set, length-set, get_or-set_same}
use Rattle.std.proofs.Common.{get_or-set_other}
use Rattle.std.proofs.Math.Decide.{ℕ_discrete}
use Rattle.text.specs.Decimal.{spell}
use Rattle.text.specs.Lines.{Form, Within, items, line}
use Rattle.text.proofs.Lines.{items_stop, items_snoc, items_ext, items_front, line_cut}
use Rattle.lines.specs.Forms.{shaped}
use Rattle.cursor.specs.declared.Cursor.{Cursor}
use Rattle.lines.specs.Steps.{nth, Placed, Itemed, Passed, Breaks}
use Rattle.lines.proofs.Passes.{line_passed, line-broken}

-- j numbers are read, from the place c to the place d, and whatever numbers the line has, the rest of them stand at d
pub record Going (s : List ℕ) (c d : Cursor) (f : Form) (i j : ℕ) (old new : List ℤ) : Type 0 where
  pub most : j ≤ f.count
  pub long : length new ≡ length old
  pub placed : Placed s d
  pub order : c.byte ≤ d.byte
  pub ranged : (k : ℕ) → k < j → Within f.low f.high (nth new (i + k))
  pub kept : (k : ℕ) → k < i → nth new k ≡ nth old k
  pub read : drop c.byte s ≡ items (nth new) i j ++ drop d.byte s
  pub left
      : (z : ℕ → ℤ) (t : List ℕ) → drop c.byte s ≡ items z i f.count ++ (10 ∷ t)
      → drop d.byte s ≡ items z (i + j) (f.count - j) ++ (10 ∷ t)

-- the form of numbers and a line feed alone
abbrev bare : ℕ → ℕ → ℕ → Form
bare n low high = shaped n low high []

pub Going-start
    : (s : List ℕ) (c : Cursor) (n low high i : ℕ) (old : List ℤ) → Placed s c
    → Going s c c (bare n low high) i 0 old old
unfolding items
Going-start s c n low high i old p =
    let e : i + 0 ≡ i = omega arith in
    let g : n - 0 ≡ n = omega arith in
    record {
      most = omega arith;
      long = refl;
      placed = p;
      order = omega arith;
      ranged = λ k h. absurd (omega arith);
      kept = λ k h. refl;
      read = refl;
      left = λ z t q. rw (e, g) q;
    }

module _ {s : List ℕ} {c d : Cursor} {n low high i j : ℕ} {old new : List ℤ}
    (g : Going s c d (bare n low high) i j old new) where
  abbrev f : Form
  f = bare n low high

  module _ (h : j < n) where
    rest
        : (z : ℕ → ℤ) (t : List ℕ) → drop c.byte s ≡ items z i n ++ (10 ∷ t)
        → drop d.byte s ≡ items z (i + j) (suc (n - (j + 1))) ++ (10 ∷ t)
    rest z t q = let e : n - j ≡ suc (n - (j + 1)) = omega arith in rw e at (g.left z t q)

    pub Going-more
        : (x : ℤ) (e : Cursor) → i + n ≤ length old → Itemed s d low high (Some (x, e))
        → Going s c e f i (j + 1) old (set new (i + j) x)
    Going-more x e l w =
        let new' = set new (i + j) x in
        let same : (k : ℕ) → (k ≡ i + j → ⊥) → nth new' k ≡ nth new k =
        λ k q. get_or-set_other new (i + j) k x (pos 0) q in
        let here : nth new' (i + j) ≡ x = get_or-set_same new (i + j) x (pos 0) (omega (arith, g.long)) in
        let before = items_ext (nth new') (nth new) i j (record { at = λ k p. same (i + k) (omega arith) }) in
        let b : i + (j + 1) ≡ suc (i + j) = omega arith in
        record {
          most = omega arith;
          long = length-set new (i + j) x ∙ g.long;
          placed = w.1.placed;
          order = omega (arith, g.order, w.1.further);
          ranged = λ k p. elim (ℕ_discrete k j) [
            | yes q ↦ rw (q, here) w.0
            | no q ↦ rw (same (i + k) (omega arith)) (g.ranged k (omega arith))
          ];
          kept = λ k p. same k (omega arith) ∙ g.kept k p;
          read =
              g.read ∙ rw (w.1.text, add-one j, items_snoc (nth new') i j, here, before)
              (sym (append_assoc (items (nth new) i j) (9 ∷ spell x) (drop e.byte s)));
          left = λ z t q. rw b
              (items_front x (drop d.byte s) (drop e.byte s) w.1.text w.1.stop z (i + j) (n - (j + 1)) t
              (rest z t q)).1;
        }

    pub going_not : Itemed s d low high None → Breaks s c (f ∷ []) i old new (c.line + 1)
    unfolding items
    going_not w = line-broken s c f i old new g.kept (λ z t r q.
        let others = items z (suc (i + j)) (n - (j + 1)) in
        w (z (i + j)) (others ++ (10 ∷ t)) (r j h) (items_stop z (suc (i + j)) (n - (j + 1)) t)
        (rest z t (q ∙ line_cut f z i t)
        ∙ ap (λ (x : List ℕ). 9 ∷ x) (append_assoc (spell (z (i + j))) others (10 ∷ t))))

  module _ (h : n ≤ j) where
    last : (z : ℕ → ℤ) (t : List ℕ) → drop c.byte s ≡ line f z i ++ t → drop d.byte s ≡ 10 ∷ t
    unfolding items
    last z t q = let e : n - j ≡ 0 = omega arith in rw e at (g.left z t (q ∙ line_cut f z i t))

    pub going_end : ((t : List ℕ) → drop d.byte s ≡ 10 ∷ t → ⊥) → Breaks s c (f ∷ []) i old new (c.line + 1)
    going_end b = line-broken s c f i old new g.kept (λ z t r q. b t (last z t q))

    pub Going-done
        : drop d.byte s ≡ 10 ∷ drop (d.byte + 1) s → d.byte < length s → c.line ≤ c.byte
        → Passed s c (f ∷ []) i old new (record { byte = d.byte + 1; line = c.line + 1; field = 0 })
    Going-done b l o =
        let e : j ≡ n = omega (arith, g.most) in
        line_passed s c f i old new g.kept (record { byte = d.byte + 1; line = c.line + 1; field = 0 })
        (record { byte = omega arith; line = omega (arith, g.order); field = omega arith })
        (omega (arith, g.order)) refl refl g.long (λ k p. g.ranged k (omega arith))
        (g.read ∙ rw (e, b) (sym (line_cut f (nth new) i (drop (d.byte + 1) s))))
