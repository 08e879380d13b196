-- Rooms: filled word by word; and the three rooms of a job, where a room with no length is as it was.
-- Assumes nothing.
use Rattle.std.proofs.Common.{
  ◌≡◌,
  refl,
  sym,
  ◌∙◌,
  List,
  [],
  ◌∷◌,
  ℕ,
  ◌+◌,
  ◌<◌,
  arith,
  ℤ,
  length,
  get_or,
  set,
  length-set,
  get_or-set_same,
  get_or-set_other,
  ext_get_or,
  ◌-◌,
  ◌≤◌,
  pos,
  drop,
  ap,
  length-drop,
}
use native.Mathlib.Decide.{ℕ_discrete}
use Rattle.job.specs.declared.Kind.{Kind}
use Rattle.job.specs.declared.Kind.TheVariants.{System, Basis, Equation}
use Rattle.job.specs.Job.{lengths_of, read_count}
use Rattle.text.specs.Class.{residue}
use Rattle.std.specs.List.{slice_range}
use Rattle.std.proofs.lemmas.List.{get_or-take, get_or-drop, length-take-le}
use Rattle.lines.specs.Steps.{nth}
use Rattle.body.specs.declared.Lengths.{Lengths}
use Rattle.body.specs.JobLines.{read_lengths}
use Rattle.sheet.specs.Rooms.{Filled, FilledAll}
use Rattle.body.specs.Parts.{Measured}

pub filled_none : (p : ℕ) (z : ℕ → ℤ) (i : ℕ) (before : List ℕ) → Filled p z i 0 before before
filled_none p z i before = record { len = refl; words = λ k h. absurd (omega arith); others = λ k h. refl }

-- one word more
pub filled_more : {p : ℕ} {z : ℕ → ℤ} {i n : ℕ} {before after : List ℕ} → Filled p z i n before after
    → n < length before → (x : ℕ) → x ≡ residue (z (i + n)) p → Filled p z i (n + 1) before (set after n x)
filled_more {p} {z} {i} {n} {before} {after} f l x e =
    let here = get_or-set_same after n x 0 (omega (arith, f.len)) in
    let other : (k : ℕ) → (k ≡ n → ⊥) → get_or (set after n x) k 0 ≡ get_or after k 0 =
    λ k q. get_or-set_other after n k x 0 q in
    record {
      len = length-set after n x ∙ f.len;
      words = λ k h. elim (ℕ_discrete k n) [
        | yes q ↦ rw q (here ∙ e)
        | no q ↦ other k q ∙ f.words k (omega arith)
      ];
      others = λ k h. other k (omega arith) ∙ f.others k (omega arith);
    }

-- a room that gets no word
pub filled_nothing : {p : ℕ} {z : ℕ → ℤ} {i : ℕ} {before after : List ℕ} → Filled p z i 0 before after → after ≡ before
filled_nothing {before = before} {after = after} f =
    ext_get_or 0 after before f.len (λ k l. f.others k (omega arith))

-- a room filled by n numbers of a list from the place a on
pub filled_part : {p : ℕ} {before after : List ℕ} (w : List ℤ) (a b n : ℕ) → b ≡ a + n → b ≤ length w
    → Filled p (nth (slice_range w a b)) 0 (length (slice_range w a b)) before after → Filled p (nth w) a n before after
filled_part {p} w a b n e within f =
    let long : length (slice_range w a b) ≡ n =
    omega (arith, length-take-le (b - a) (drop a w), length-drop a w) in
    record {
      len = f.len;
      words = λ k h.
          let q : 0 + k ≡ k = omega arith in
          let same : nth (slice_range w a b) (0 + k) ≡ nth w (a + k) =
          rw q (get_or-take (b - a) (drop a w) k (pos 0) (omega arith) ∙ get_or-drop a w k (pos 0)) in
          f.words k (omega arith) ∙ ap (λ (x : ℤ). residue x p) same;
      others = λ k h. f.others k (omega arith);
    }

module _ {p : ℕ} {z : ℕ → ℤ} {one two three one' two' three' : List ℕ} where
  three_filled : {a b c : ℕ} → Filled p z 0 a one one' → Filled p z a b two two' → Filled p z (a + b) c three three'
      → FilledAll p z 0 (a ∷ b ∷ c ∷ []) (one ∷ two ∷ three ∷ []) (one' ∷ two' ∷ three' ∷ [])
  unfolding FilledAll
  three_filled {a} {b} {c} f g h =
      let e : 0 + a ≡ a = omega arith in
      rw e (f, (g, (h, tt)))

  two_filled : {a b : ℕ} → Filled p z 0 a one one' → Filled p z a b two two' → three' ≡ three
      → FilledAll p z 0 (a ∷ b ∷ []) (one ∷ two ∷ three ∷ []) (one' ∷ two' ∷ three' ∷ [])
  unfolding FilledAll
  two_filled {a} f g h =
      let e : 0 + a ≡ a = omega arith in
      rw e (f, (g, (h, tt)))

  -- the rooms of a job of each kind
  pub rooms-filled : (kind : Kind) (r n : ℕ) (l : Lengths) → Measured kind r n l → Filled p z 0 l.one one one'
      → Filled p z l.one l.two two two' → Filled p z (l.one + l.two) l.three three three'
      → FilledAll p z 0 (read_lengths kind r n) (one ∷ two ∷ three ∷ []) (one' ∷ two' ∷ three' ∷ [])
  unfolding read_lengths read_count lengths_of
  rooms-filled System r n l m f g h = rw (sym m.one, sym m.two, sym m.three) (three_filled f g h)
  rooms-filled Basis r n l m f g h =
      rw (sym m.one, sym m.two) (two_filled f g (filled_nothing (rw m.three at h)))
  rooms-filled Equation r n l m f g h = rw (sym m.one, sym m.two, sym m.three) (three_filled f g h)
