-- The numbers of words of a job: they fit, and an entry lies inside its matrix.
-- Assumes nothing.
use Rattle.std.proofs.Common.{ℕ, ◌+◌, ◌*◌, ◌<◌, ◌≤◌, mul-le-mul, arith}
use Rattle.matrix.proofs.Written.{stride, entry-below}

-- the entries of a matrix, and its words
pub square_few : {r : ℕ} → r ≤ 8 → r * r ≤ 64
square_few order = mul-le-mul order order

pub size_few : {r n : ℕ} → r ≤ 8 → n ≤ 4096 → r * r * n ≤ 262144
size_few order terms = mul-le-mul (square_few order) terms

-- the words from one entry of the diagonal to the next
pub step_few : {r n : ℕ} → r ≤ 8 → n ≤ 4096 → (r + 1) * n ≤ 36864
step_few {r} order terms = let more : r + 1 ≤ 9 = omega arith in mul-le-mul more terms

pub step_least : (r : ℕ) {n : ℕ} → 1 ≤ n → 1 ≤ (r + 1) * n
step_least r some = let more : 1 ≤ r + 1 = omega arith in mul-le-mul more some

-- term k of the entry in row i and column j
pub entry_inside : {r n k i j : ℕ} → k < n → i < r → j < r → (i * r + j) * n + k < r * r * n
entry_inside {r} {n} l x y = omega (arith, stride n (entry-below {r = r} {c = r} x y))
