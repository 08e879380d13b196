-- Products: a stride, a factor, and the room of rows and of matrices of lines.
-- Assumes nothing.
use Rattle.std.proofs.Common.{
  ◌≡◌,
  ap,
  ◌∙◌,
  ℕ,
  zero,
  suc,
  ◌+◌,
  ◌*◌,
  ◌≤◌,
  ◌<◌,
  zero-mul,
  suc-mul,
  mul-add,
  mul_comm,
  mul_left_comm,
  mul-le-mul_right,
  arith,
}
use Rattle.result.specs.Print.{line_room}

pub stride : {i n : ℕ} (step : ℕ) → i < n → i * step + step ≤ n * step
stride {i} step h = rw (suc-mul i step) at (mul-le-mul_right step h)

pub factor_within : (n x : ℕ) → n * x ≤ n * (n * x)
factor_within zero x = omega (arith, zero-mul x)
factor_within (suc m) x = rw (suc-mul m (suc m * x)) (omega arith)

-- the room of r lines, and of r times r
pub rows-sum : (head r n : ℕ) → r * line_room head n ≡ (head + 22) * r + 22 * (r * n)
rows-sum head r n =
    let e : line_room head n ≡ (head + 22) + 22 * n = omega arith in
    rw (e, mul-add r (head + 22) (22 * n), mul_comm r (head + 22), mul_left_comm r 22 n)

pub matrix-sum : (r n : ℕ) → r * (r * line_room 3 n) ≡ 25 * (r * r) + 22 * (r * (r * n))
matrix-sum r n =
    ap (λ (k : ℕ). r * k) (rows-sum 3 r n) ∙ mul-add r (25 * r) (22 * (r * n))
    ∙ rw (mul_left_comm r 25 r, mul_left_comm r 22 (r * n))
