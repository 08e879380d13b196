-- Buffers of bytes beside buffers of words (document 01: four to a word, low byte first), and the size of a byte job.
-- Assumes nothing.
use Rattle.std.specs.Prelude.{◌≡◌, ◌⊎◌, List, ℕ, ◌+◌, ◌*◌, ◌≤◌, ◌<◌, length, get_or}
use Rattle.job.specs.declared.Kind.{Kind}
use Rattle.job.specs.Job.{words, bytes, word_at, lengths_of}

-- the bytes of s are the words of w
pub record Carries (s w : List ℕ) : Type 0 where
  pub long : length s ≡ 4 * length w
  pub word : (k : ℕ) → word_at bytes s k ≡ word_at words w k

-- the word at k is x now, its cells are bytes, and the other cells are as they were
pub record WordPut (k x : ℕ) (before after : List ℕ) : Type 0 where
  pub word : word_at bytes after k ≡ x
  pub cells : (i : ℕ) → 4 * k ≤ i → i < 4 * k + 4 → get_or after i 0 < 256
  pub old : (i : ℕ) → (i < 4 * k) ⊎ (4 * k + 4 ≤ i) → get_or after i 0 ≡ get_or before i 0

-- the words of w are written out, and every cell is a byte
pub record Encoded (w s : List ℕ) : Type 0 where
  pub carries : Carries s w
  pub cells : (i : ℕ) → get_or s i 0 < 256

-- order and terms of a job of at most the size of a byte job
pub record Small (r n : ℕ) : Type 0 where
  pub order_least : 1 ≤ r
  pub order : r ≤ 8
  pub terms_least : 1 ≤ n
  pub size : r * r * n ≤ 1024

-- such a job, and buffers of these lengths that have exactly its bytes
pub record Fitting (kind : Kind) (r n : ℕ) (lengths : List ℕ) : Type 0 where
  pub small : Small r n
  pub exact : (k : ℕ) → k < 5 → get_or lengths k 0 ≡ 4 * get_or (lengths_of kind r n) k 0
