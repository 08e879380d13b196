-- Entries, which are runs of one length that stand so many words apart. `stride`: an entry ends before the next begins;
-- `by_entries`: a word is one of theirs or none of them; where a loop that fills them one after the other stands; and
-- of filled entries: the words between and outside them, words below p, and that the list is fixed.
-- Assumes nothing.
use Rattle.std.proofs.Common.{◌≡◌, sym, ◌∙◌, ◌⊎◌, ◌≢◌, inl, inr, ⊎_elim, List, ℕ, zero, suc, ◌+◌, ◌-◌, ◌*◌, ◌<◌}
use Rattle.std.proofs.Common.{◌≤◌, mul-le-mul_right, suc-mul, arith, length, get_or, ext_get_or}
use native.Mathlib.Decide.{dec_lt, ℕ_discrete}
use Rattle.room.specs.Room.{Put, OffEntries, PutEntries}

-- an entry ends before the next begins
pub stride : (n : ℕ) {e f : ℕ} → e < f → e * n + n ≤ f * n
stride n {e} {f} h = rw suc-mul at (mul-le-mul_right n h)

-- a word that is none of a run's is before or behind it
pub beside_run : {to m c : ℕ} → ((d : ℕ) → d < m → c ≢ to + d) → (c < to) ⊎ (to + m ≤ c)
beside_run {to} {m} {c} h =
    elim (dec_lt c to) [
      | yes l ↦ inl l
      | no l ↦ elim (dec_lt c (to + m)) [
        | yes g ↦ absurd (h (c - to) (omega arith) (omega arith))
        | no g ↦ inr (omega arith)
      ]
    ]

-- a word is one of those of the first entries, or none
pub by_entries : (to entries n m k : ℕ) (P : Type 0)
    → ((e j : ℕ) → e < entries → j < m → k ≡ to + e * n + j → P) → (OffEntries to entries n m k → P) → P
by_entries to zero n m k P hit miss = miss (λ e j h _ _. absurd (omega arith))
by_entries to (suc d) n m k P hit miss =
    by_entries to d n m k P (λ e j h. hit e j (omega arith)) (λ none.
    elim (dec_lt k (to + d * n)) [
      | yes h ↦ miss (more none (λ j l i. absurd (omega arith)))
      | no h ↦ elim (dec_lt k (to + d * n + m)) [
        | yes g ↦ hit d (k - (to + d * n)) (omega arith) (omega arith) (omega arith)
        | no g ↦ miss (more none (λ j l i. absurd (omega arith)))
      ]
    ])
  where
    more : OffEntries to d n m k → ((j : ℕ) → j < m → k ≢ to + d * n + j) → OffEntries to (suc d) n m k
    more none last e j h l i =
        elim (ℕ_discrete e d) [
          | yes q ↦ last j l (rw q at i)
          | no q ↦ none e j (omega arith) l i
        ]

-- e of the entries are filled, and the list has kept its length
pub record EntryTurn (to entries n m : ℕ) (f : ℕ → ℕ → ℕ) (w₀ w : List ℕ) (e : ℕ) : Type 0 where
  pub within : e ≤ entries
  pub len : length w ≡ length w₀
  pub put : PutEntries to e n m f w₀ w

module _ {to entries n m : ℕ} {f : ℕ → ℕ → ℕ} {w₀ w : List ℕ} {e : ℕ} (t : EntryTurn to entries n m f w₀ w e) where
  -- one entry more
  pub entries_next : {v : List ℕ} {g : ℕ → ℕ} → m ≤ n → e < entries → length v ≡ length w → Put (to + e * n) m g w v
      → ((j : ℕ) → g j ≡ f e j) → EntryTurn to entries n m f w₀ v (e + 1)
  entries_next {v} {g} apart more same put values = record {
    within = omega arith;
    len = same ∙ t.len;
    put = record { new = new; old = old };
  }
    where
      new : (d j : ℕ) → d < e + 1 → j < m → get_or v (to + d * n + j) 0 ≡ f d j
      new d j h l =
          elim (ℕ_discrete d e) [
            | yes q ↦ rw q (put.new j l ∙ values j)
            | no q ↦
                let less : d < e = omega arith in
                put.old (to + d * n + j) (inl (omega (arith, stride n less))) ∙ t.put.new d j less l
          ]

      old : (k : ℕ) → OffEntries to (e + 1) n m k → get_or v k 0 ≡ get_or w₀ k 0
      old k none =
          put.old k (beside_run (λ j l. none e j (omega arith) l))
          ∙ t.put.old k (λ d j h. none d j (omega arith))

module _ {to entries n m : ℕ} {f : ℕ → ℕ → ℕ} {w₀ w : List ℕ} (put : PutEntries to entries n m f w₀ w) where
  -- a word between two entries
  pub entries_between : (e j : ℕ) → m ≤ j → j < n → get_or w (to + e * n + j) 0 ≡ get_or w₀ (to + e * n + j) 0
  entries_between e j low high = put.old (to + e * n + j) off
    where
      off : OffEntries to entries n m (to + e * n + j)
      off d i _ l q =
          elim (ℕ_discrete d e) [
            | yes s ↦ let same : to + e * n + j ≡ to + e * n + i = rw s at q in omega arith
            | no s ↦ elim (dec_lt d e) [
              | yes less ↦ omega (arith, stride n less)
              | no less ↦ let more : e < d = omega arith in omega (arith, stride n more)
            ]
          ]

  -- a word before or behind all entries
  pub entries-outside : (k : ℕ) → m ≤ n → (k < to) ⊎ (to + entries * n ≤ k) → get_or w k 0 ≡ get_or w₀ k 0
  entries-outside k apart out =
      put.old k (λ d i h l q.
      let last = stride n h in
      ⊎_elim (λ s. omega arith) (λ s. omega arith) out)

  pub entries_below : {p : ℕ} → ((e j : ℕ) → e < entries → j < m → f e j < p) → ((k : ℕ) → get_or w₀ k 0 < p) → (k : ℕ)
      → get_or w k 0 < p
  entries_below {p} small given k =
      by_entries to entries n m k (get_or w k 0 < p)
      (λ e j h l i. rw (i, put.new e j h l) (small e j h l))
      (λ none. rw (put.old k none) (given k))

  pub entries_unique : {v : List ℕ} → length w ≡ length v → PutEntries to entries n m f w₀ v → w ≡ v
  entries_unique {v} same other =
      ext_get_or 0 w v same (λ k _.
      by_entries to entries n m k (get_or w k 0 ≡ get_or v k 0)
      (λ e j h l i. rw i (put.new e j h l ∙ sym (other.new e j h l)))
      (λ none. put.old k none ∙ sym (other.old k none)))
