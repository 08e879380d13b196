-- What the contracts fix: the words that bytes carry, and the bytes that carry words.
-- Assumes nothing.
use Rattle.std.proofs.Common.{◌≡◌, refl, sym, ◌∙◌, List, ℕ, ◌+◌, ◌*◌, ◌<◌, arith, length, get_or, ext_get_or}
use Rattle.job.specs.Job.{bytes, word_at}
use Rattle.job.specs.Outcome.{Filled}
use Rattle.job.proofs.Cells.{filled-same}
use Rattle.octets.specs.Octets.{Carries, Encoded}

pub decoded_unique : {s w z : List ℕ} → Carries s w → Carries s z → w ≡ z
unfolding word_at
decoded_unique {s} {w} {z} f g =
    ext_get_or 0 w z (omega (arith, f.long, g.long)) (λ k l. sym (f.word k) ∙ g.word k)

-- four bytes are below 2^32
word_bound : (s : List ℕ) → ((i : ℕ) → get_or s i 0 < 256) → (k : ℕ) → word_at bytes s k < 4294967296
unfolding word_at
word_bound s cells k =
    omega (arith, cells (4 * k), cells (4 * k + 1), cells (4 * k + 2), cells (4 * k + 3))

-- encoded words as results of a job
as_results : {w s : List ℕ} → Encoded w s → {t : List ℕ} → length s ≡ length t
    → Filled bytes 4294967296 (length w) t s
as_results {w} {s} f same = record { len = same; cells = f.cells; below = λ k _. word_bound s f.cells k }

pub encoded_unique : {w s t : List ℕ} → Encoded w s → Encoded w t → s ≡ t
encoded_unique {w} {s} {t} f g =
    let same : length t ≡ length s = omega (arith, f.carries.long, g.carries.long) in
    filled-same bytes {before = s} f.carries.long (as_results f refl) (as_results g same)
    (λ k l. f.carries.word k ∙ sym (g.carries.word k))
