-- Laws of buffers of bytes: the word at a place whose four bytes are set or kept; words that are written one by one
-- (`Turn`, the invariant of the loop, with its start, its next turn and its end); and bytes that carry words.
-- Assumes nothing.
use Rattle.std.proofs.Common.{◌≡◌, refl, ◌∙◌, ◌⊎◌, inl, ⊎_elim, List, ℕ, ◌+◌, ◌*◌, ◌/◌, ◌%◌, ◌≤◌, ◌<◌, arith, length}
use Rattle.std.proofs.Common.{get_or, set, length-set, get_or-set_same, get_or-set_other}
use native.Mathlib.Decide.{dec_lt, ℕ_discrete}
use lib.ListN.{get_or-eq_default}
use Rattle.job.specs.Job.{words, bytes, word_at}
use Rattle.octets.specs.Octets.{Carries, WordPut, Encoded}

-- four cells from i on are set, one behind the other
abbrev set_four : List ℕ → ℕ → ℕ → ℕ → ℕ → ℕ → List ℕ
set_four s i a b c d = set (set (set (set s i a) (i + 1) b) (i + 2) c) (i + 3) d

module _ (s : List ℕ) (i a b c d : ℕ) (inside : i + 4 ≤ length s) where
  one : List ℕ
  one = set s i a

  two : List ℕ
  two = set one (i + 1) b

  three : List ℕ
  three = set two (i + 2) c

  long_one : length one ≡ length s
  unfolding one
  long_one = length-set s i a

  long_two : length two ≡ length s
  unfolding two
  long_two = length-set one (i + 1) b ∙ long_one

  long_three : length three ≡ length s
  unfolding three
  long_three = length-set two (i + 2) c ∙ long_two

  four_0 : get_or (set_four s i a b c d) i 0 ≡ a
  unfolding one two three
  four_0 =
      get_or-set_other three (i + 3) i d 0 (λ e. omega arith)
      ∙ get_or-set_other two (i + 2) i c 0 (λ e. omega arith)
      ∙ get_or-set_other one (i + 1) i b 0 (λ e. omega arith)
      ∙ get_or-set_same s i a 0 (omega arith)

  four_1 : get_or (set_four s i a b c d) (i + 1) 0 ≡ b
  unfolding one two three
  four_1 =
      get_or-set_other three (i + 3) (i + 1) d 0 (λ e. omega arith)
      ∙ get_or-set_other two (i + 2) (i + 1) c 0 (λ e. omega arith)
      ∙ get_or-set_same one (i + 1) b 0 (omega (arith, long_one))

  four_2 : get_or (set_four s i a b c d) (i + 2) 0 ≡ c
  unfolding one two three
  four_2 =
      get_or-set_other three (i + 3) (i + 2) d 0 (λ e. omega arith)
      ∙ get_or-set_same two (i + 2) c 0 (omega (arith, long_two))

  four_3 : get_or (set_four s i a b c d) (i + 3) 0 ≡ d
  unfolding one two three
  four_3 = get_or-set_same three (i + 3) d 0 (omega (arith, long_three))

  four_old : (j : ℕ) → (j < i) ⊎ (i + 4 ≤ j) → get_or (set_four s i a b c d) j 0 ≡ get_or s j 0
  unfolding one two three
  four_old j h =
      get_or-set_other three (i + 3) j d 0 (λ e. ⊎_elim (λ l. omega arith) (λ l. omega arith) h)
      ∙ get_or-set_other two (i + 2) j c 0 (λ e. ⊎_elim (λ l. omega arith) (λ l. omega arith) h)
      ∙ get_or-set_other one (i + 1) j b 0 (λ e. ⊎_elim (λ l. omega arith) (λ l. omega arith) h)
      ∙ get_or-set_other s i j a 0 (λ e. ⊎_elim (λ l. omega arith) (λ l. omega arith) h)

-- a property of four numbers in a row
by_four : (i : ℕ) (P : ℕ → Type 0) → P i → P (i + 1) → P (i + 2) → P (i + 3) → (j : ℕ) → i ≤ j → j < i + 4 → P j
by_four i P a b c d j l m =
    elim (ℕ_discrete j i) [
      | yes e ↦ rw e a
      | no e ↦ elim (ℕ_discrete j (i + 1)) [
        | yes f ↦ rw f b
        | no f ↦ elim (ℕ_discrete j (i + 2)) [
          | yes g ↦ rw g c
          | no g ↦ let h : j ≡ i + 3 = omega arith in rw h d
        ]
      ]
    ]

-- the four bytes of a word, low byte first, stand at its place
pub word_put : (s : List ℕ) (k x : ℕ) → x < 4294967296 → 4 * k + 4 ≤ length s
    → WordPut k x s (set_four s (4 * k) (x % 256) (x / 256 % 256) (x / 65536 % 256) (x / 16777216))
unfolding word_at
word_put s k x small inside =
    let a = x % 256 in
    let b = x / 256 % 256 in
    let c = x / 65536 % 256 in
    let d = x / 16777216 in
    let i = 4 * k in
    let e = four_0 s i a b c d inside in
    let f = four_1 s i a b c d inside in
    let g = four_2 s i a b c d inside in
    let h = four_3 s i a b c d inside in
    record {
      word = omega arith;
      cells = by_four i (λ j. get_or (set_four s i a b c d) j 0 < 256)
          (omega arith) (omega arith) (omega arith) (omega arith);
      old = four_old s i a b c d inside;
    }

-- a word whose four bytes are kept
word_kept : (s t : List ℕ) (j : ℕ) → ((i : ℕ) → 4 * j ≤ i → i < 4 * j + 4 → get_or s i 0 ≡ get_or t i 0)
    → word_at bytes s j ≡ word_at bytes t j
unfolding word_at
word_kept s t j same =
    omega (
      arith,
      same (4 * j) (omega arith) (omega arith),
      same (4 * j + 1) (omega arith) (omega arith),
      same (4 * j + 2) (omega arith) (omega arith),
      same (4 * j + 3) (omega arith) (omega arith),
    )

-- bytes carry words when they do so as far as the words go: behind both there is nothing
pub carries_of : (s w : List ℕ) → length s ≡ 4 * length w
    → ((k : ℕ) → k < length w → word_at bytes s k ≡ get_or w k 0) → Carries s w
unfolding word_at
carries_of s w long same = record { long = long; word = all }
  where
    behind : (i : ℕ) → length s ≤ i → get_or s i 0 ≡ 0
    behind i l = get_or-eq_default s 0 {n = i} l

    all : (k : ℕ) → word_at bytes s k ≡ word_at words w k
    all k =
        elim (dec_lt k (length w)) [
          | yes l ↦ same k l
          | no l ↦ omega (
            arith,
            get_or-eq_default w 0 {n = k} (omega arith),
            behind (4 * k) (omega arith),
            behind (4 * k + 1) (omega arith),
            behind (4 * k + 2) (omega arith),
            behind (4 * k + 3) (omega arith),
          )
        ]

-- k words of w are written to s, which was s₀
pub record Turn (w s₀ s : List ℕ) (k : ℕ) : Type 0 where
  pub within : k ≤ length w
  pub len : length s ≡ length s₀
  pub word : (j : ℕ) → j < k → word_at bytes s j ≡ get_or w j 0
  pub cells : (i : ℕ) → i < 4 * k → get_or s i 0 < 256

pub turn_start : (w s : List ℕ) → Turn w s s 0
turn_start w s = record {
  within = omega arith;
  len = refl;
  word = λ j l. absurd (omega arith);
  cells = λ i l. absurd (omega arith);
}

module _ {w s₀ s : List ℕ} {k : ℕ} (turn : Turn w s₀ s k) where
  -- one word more
  pub turn_next : {t : List ℕ} → k < length w → length t ≡ length s → WordPut k (get_or w k 0) s t → Turn w s₀ t (k + 1)
  turn_next {t} more same put = record {
    within = omega arith;
    len = same ∙ turn.len;
    word = λ j l. elim (ℕ_discrete j k) [
      | yes e ↦ rw e put.word
      | no e ↦ word_kept t s j (λ i lo hi. put.old i (inl (omega arith))) ∙ turn.word j (omega arith)
    ];
    cells = λ i l. elim (dec_lt i (4 * k)) [
      | yes h ↦ rw (put.old i (inl h)) (turn.cells i h)
      | no h ↦ put.cells i (omega arith) (omega arith)
    ];
  }

  -- all words are written
  pub turn_done : length s₀ ≡ 4 * length w → length w ≤ k → Encoded w s
  turn_done long all = record {
    carries = carries_of s w (turn.len ∙ long) (λ j l. turn.word j (omega arith));
    cells = λ i. elim (dec_lt i (4 * k)) [
      | yes h ↦ turn.cells i h
      | no h ↦ rw (get_or-eq_default s 0 {n = i} (omega (arith, turn.len))) (omega arith)
    ];
  }
