-- A tab and a field at a place of a text: the field's bytes are cut from the text in one way, and they spell a number
-- of the range, or no number of the range stands there.
-- Assumes nothing.
use Rattle.std.proofs.Common.{◌≡◌, Some, None, Bool, true, false, cond, not, nat_le, nat_lt, unwrap_or, position}
use Rattle.std.proofs.Common.{ltb-false, leb-false, leb-true, get_or-drop, length-drop, refl, sym, ap, ◌∙◌, List, []}
use Rattle.std.proofs.Common.{◌∷◌, ◌++◌, append-nil, ℕ, suc, ◌+◌, ◌-◌, ◌<◌, ◌≤◌, arith, ℤ, length, get_or, take, drop}
use Rattle.std.proofs.Common.{take-append-drop, drop_of_length-le, length-drop, drop-drop, get_or-take, get_or-drop}
use Rattle.std.proofs.Common.{length-take-le}
use Rattle.std.specs.List.{position_or_len}
use Rattle.std.proofs.lemmas.List.Sums.{prefix_len-le-length, fails_before_first, passes_at_first}
use Rattle.text.specs.Decimal.{spell}
use Rattle.text.specs.Field.{Stop, Numbered}
use Rattle.text.proofs.Spelling.{Plain, spell_plain}
use Rattle.text.proofs.Lines.{cut_same}
use Rattle.cursor.specs.declared.Cursor.{Cursor}
use Rattle.lines.specs.Steps.{Placed, Field, Itemed}
use Rattle.lines.proofs.Bytes.{stop_at}

-- the first byte up to 10, or the end of the bytes
abbrev is_stop : ℕ → Bool
is_stop b = nat_le b 10

module _ (f : List ℕ) where
  most : position_or_len is_stop f ≤ length f
  most = prefix_len-le-length (λ (b : ℕ). not (is_stop b)) f

  first_or_end : unwrap_or (position is_stop f) (length f) ≡ position_or_len is_stop f
  first_or_end = go (nat_lt (position_or_len is_stop f) (length f)) refl
    where
      go : (t : Bool) → nat_lt (position_or_len is_stop f) (length f) ≡ t
          → unwrap_or (cond t (Some (position_or_len is_stop f)) None) (length f) ≡ position_or_len is_stop f
      go true e = refl
      go false e = omega (arith, most, ltb-false _ _ e)

-- a field that begins at `from` ends there
pub field_first
    : (s : List ℕ) (from r : ℕ) → from ≤ length s
    → r ≡ unwrap_or (position (λ b. nat_le b 10) (drop from s)) (length (drop from s)) → Field s from (from + r)
field_first s from r h e =
    let f = drop from s in
    let long : length f ≡ length s - from = simp length-drop in
    let at : r ≡ position_or_len is_stop f = e ∙ first_or_end f in
    record {
      order = omega arith;
      within = omega (arith, most f);
      plain = λ k o l.
          let same : from + (k - from) ≡ k = omega arith in
          let b = leb-false _ _ (fails_before_first is_stop f (k - from) 0 (omega arith)) in
          rw (get_or-drop from s (k - from) 0, same) at b;
      stop = λ l.
          let b = leb-true _ _ (passes_at_first is_stop f 0 (omega arith)) in
          rw (← at, get_or-drop from s r 0) at b;
    }

-- the bytes of the field from `from` to e
abbrev pub field : List ℕ → ℕ → ℕ → List ℕ
field s from e = take (e - from) (drop from s)

all_plain : (f : List ℕ) → ((k : ℕ) → k < length f → 10 < get_or f k 0) → Plain f
unfolding Plain
all_plain [] h = tt
all_plain (b ∷ t) h = (h 0 (omega arith), all_plain t (λ k l. h (suc k) (omega arith)))

module _ (s : List ℕ) (from e : ℕ) (F : Field s from e) where
  field_cut : drop from s ≡ field s from e ++ drop e s
  field_cut =
      let q : from + (e - from) ≡ e = omega (arith, F.order) in
      let behind = drop-drop (e - from) from s ∙ ap (λ (k : ℕ). drop k s) q in
      sym (take-append-drop (e - from) (drop from s)) ∙ ap (λ (t : List ℕ). field s from e ++ t) behind

  field-length : length (field s from e) ≡ e - from
  field-length = length-take-le (e - from) (drop from s) (simp length-drop (omega (arith, F.order, F.within)))

  field_plain : Plain (field s from e)
  field_plain = all_plain (field s from e) (λ k h.
      let l : k < e - from = omega (arith, field-length) in
      rw (get_or-take (e - from) (drop from s) k 0 l, get_or-drop from s k 0)
      (F.plain (from + k) (omega arith) (omega (arith, F.order))))

-- a field does not run to the end of a text that goes on behind a number
endless : (f g t : List ℕ) → Plain f → Stop t → f ≡ g ++ t → ⊥
unfolding Plain
endless [] [] t p u e = let w : Stop [] = rw (sym e) at u in w
endless (x ∷ f) [] t p u e = let w : Stop (x ∷ f) = rw (sym e) at u in omega (arith, p.0)
endless [] (y ∷ g) t p u e = let q : ◌≡◌ {A = ℕ} 0 1 = cc in omega arith
endless (x ∷ f) (y ∷ g) t p u e = let q : f ≡ g ++ t = cc in endless f g t p.1 u q

-- after a tab at the cursor, a field to e
module _ (s : List ℕ) (c : Cursor) (e : ℕ) (b : drop c.byte s ≡ 9 ∷ drop (c.byte + 1) s) (F : Field s (c.byte + 1) e)
  where
    tabbed : drop c.byte s ≡ 9 ∷ (field s (c.byte + 1) e ++ drop e s)
    tabbed = b ∙ ap (λ (t : List ℕ). 9 ∷ t) (field_cut s (c.byte + 1) e F)

    pub item_unended : length s ≤ e → (low high : ℕ) → Itemed s c low high None
    item_unended l low high z t w u q =
        let f = field s (c.byte + 1) e in
        let n : drop e s ≡ [] = drop_of_length-le s {i = e} l in
        let g : f ++ drop e s ≡ spell z ++ t = cc tabbed in
        endless f (spell z) t (field_plain s (c.byte + 1) e F) u (sym (append-nil f) ∙ rw n at g)

    module _ (l : e < length s) (low high : ℕ) where
      stop : Stop (drop e s)
      stop = stop_at s e l (F.stop l)

      pub item_is
          : Placed s c → (z : ℤ) → Numbered (field s (c.byte + 1) e) low high (Some z)
          → Itemed s c low high (Some (z, record { byte = e; line = c.line; field = c.field + 1 }))
      item_is p z n = (
        n.1,
        record {
          text = tabbed ∙ rw n.0;
          stop = stop;
          further = omega (arith, F.order);
          placed = record {
            byte = F.within;
            line = omega (arith, p.line, F.order);
            field = omega (arith, p.field, F.order);
          };
          line = refl;
          field = refl;
        },
      )

      pub item_not : Numbered (field s (c.byte + 1) e) low high None → Itemed s c low high None
      item_not n z t w u q =
          let f = field s (c.byte + 1) e in
          let g : f ++ drop e s ≡ spell z ++ t = cc tabbed in
          n z w (cut_same f (spell z) (drop e s) t (field_plain s (c.byte + 1) e F) (spell_plain z) stop u g).0
