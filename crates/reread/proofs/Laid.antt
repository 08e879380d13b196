-- Buffers laid into rooms: rooms filled by numbers whose residues are the buffers' words.
-- Assumes nothing.
use Rattle.std.proofs.Common.{
  ◌≡◌,
  refl,
  sym,
  ap,
  ◌∙◌,
  List,
  [],
  ◌∷◌,
  ◌++◌,
  map,
  ℕ,
  ◌+◌,
  ◌-◌,
  ◌*◌,
  ◌<◌,
  ◌≤◌,
  arith,
  ℤ,
  length,
  get_or,
  drop,
  length-append,
  length-drop,
  get_or-append-add,
  get_or-drop,
}
use mathlib.Core.List.{flatten}
use lib.ListN.{get_or-append}
use Rattle.job.specs.declared.Kind.{Kind}
use Rattle.job.specs.declared.Kind.TheVariants.{System, Basis, Equation}
use Rattle.text.specs.Class.{residue}
use Rattle.body.specs.Parts.{Small}
use Rattle.body.proofs.Sizes.{sizes}
use Rattle.sheet.specs.Rooms.{Filled, FilledAll}
use Rattle.result.specs.ResultSheet.{result_counts}
use Rattle.reread.specs.Back.{laid_in}

-- the words of the buffers, one after the other, are the residues of the numbers from the index i on
pub record Residues (p : ℕ) (z : ℕ → ℤ) (i : ℕ) (words : List ℕ) : Type 0 where
  pub at : (k : ℕ) → k < length words → get_or words k 0 ≡ residue (z (i + k)) p

module _ {p : ℕ} {z : ℕ → ℤ} {i : ℕ} (b rest : List ℕ) (r : Residues p z i (b ++ rest)) where
  residues_first : Residues p z i b
  residues_first = record {
    at = λ k h. sym (get_or-append b rest 0 k h) ∙ r.at k (omega (arith, length-append b rest));
  }

  residues-rest : Residues p z (i + length b) rest
  residues-rest = record {
    at = λ k h.
        let e : i + length b + k ≡ i + (length b + k) = omega arith in
        rw e (sym (get_or-append-add b rest k 0) ∙ r.at (length b + k) (omega (arith, length-append b rest)));
  }

-- one room
room_laid : {p : ℕ} {z : ℕ → ℤ} {i : ℕ} (b s : List ℕ) → length b ≤ length s → Residues p z i b
    → Filled p z i (length b) s (b ++ drop (length b) s)
room_laid b s l r = record {
  len = length-append b (drop (length b) s) ∙ omega (arith, length-drop (length b) s);
  words = λ k h. get_or-append b (drop (length b) s) 0 k h ∙ r.at k h;
  others = λ k h.
      let e : k ≡ length b + (k - length b) = omega arith in
      ap (λ (j : ℕ). get_or (b ++ drop (length b) s) j 0) e
      ∙ get_or-append-add b (drop (length b) s) (k - length b) 0
      ∙ get_or-drop (length b) s (k - length b) 0
      ∙ ap (λ (j : ℕ). get_or s j 0) (sym e);
}

-- there is a room for each buffer, and it is long enough
unfoldable pub Fit : List (List ℕ) → List (List ℕ) → Type 0
Fit [] rooms = Unit {0}
Fit (b ∷ lent) [] = ⊥
Fit (b ∷ lent) (s ∷ rooms) = (length b ≤ length s) × Fit lent rooms

none_filled : (p : ℕ) (z : ℕ → ℤ) (i : ℕ) (rooms : List (List ℕ)) → FilledAll p z i [] rooms rooms
unfolding FilledAll
none_filled p z i [] = tt
none_filled p z i (s ∷ rooms) = (refl, none_filled p z i rooms)

pub laid_filled : (p : ℕ) (z : ℕ → ℤ) (i : ℕ) (lent rooms : List (List ℕ)) → Fit lent rooms
    → Residues p z i (flatten lent) → FilledAll p z i (map length lent) rooms (laid_in lent rooms)
unfolding Fit FilledAll laid_in flatten
laid_filled p z i [] rooms f r = none_filled p z i rooms
laid_filled p z i (b ∷ lent) [] f r = absurd f
laid_filled p z i (b ∷ lent) (s ∷ rooms) f r = (
  room_laid b s f.0 (residues_first b (flatten lent) r),
  laid_filled p z (i + length b) lent rooms f.1 (residues-rest b (flatten lent) r),
)

-- the buffers of a result within the limits fit two rooms
pub result_fit : (one two : List ℕ) → length one ≡ 2048 → length two ≡ 2048 → (kind : Kind) (r n : ℕ) → Small r n
    → (lent : List (List ℕ)) → map length lent ≡ result_counts kind r n → Fit lent (one ∷ two ∷ [])
unfolding result_counts Fit
result_fit one two a b kind r n m [] e = tt
result_fit one two a b System r n m (y ∷ []) e =
    let s = sizes m in let c : length y ≡ r * n = cc in (omega arith, tt)
result_fit one two a b System r n m (y ∷ z ∷ lent) e = absurd (let q : ◌≡◌ {A = ℕ} 0 1 = cc in omega arith)
result_fit one two a b Basis r n m (y ∷ []) e = absurd (let q : ◌≡◌ {A = ℕ} 0 1 = cc in omega arith)
result_fit one two a b Basis r n m (y ∷ z ∷ []) e =
    let s = sizes m in
    let c : length y ≡ r * r * n = cc in
    let d : length z ≡ r * r * n = cc in
    (omega arith, (omega arith, tt))
result_fit one two a b Basis r n m (y ∷ z ∷ x ∷ lent) e = absurd (let q : ◌≡◌ {A = ℕ} 0 1 = cc in omega arith)
result_fit one two a b Equation r n m (y ∷ []) e =
    let s = sizes m in let c : length y ≡ n = cc in (omega arith, tt)
result_fit one two a b Equation r n m (y ∷ z ∷ lent) e = absurd (let q : ◌≡◌ {A = ℕ} 0 1 = cc in omega arith)
