-- Sizes of a sheet's job: within the limits no length wraps, and every length fits its room.
-- Assumes nothing.
use Rattle.std.proofs.Common.{ℕ, ◌+◌, ◌*◌, ◌≤◌, mul-le-mul, mul-le-mul_left, mul-le-mul_right, mul-one, one-mul, arith}
use Rattle.job.specs.declared.Kind.{Kind}
use Rattle.job.specs.declared.Kind.TheVariants.{System, Basis, Equation}
use Rattle.job.specs.Job.{carried, lengths_of, read_count}
use Rattle.body.specs.declared.Lengths.{Lengths}
use Rattle.body.specs.JobLines.{read_lengths}
use Rattle.body.specs.Parts.{Small, Measured}

-- what follows from the limits
pub record Sizes (r n : ℕ) : Type 0 where
  pub square : r * r ≤ 64
  pub vector : r * n ≤ 1024
  pub terms : n ≤ 1024

pub sizes : {r n : ℕ} → Small r n → Sizes r n
sizes {r} {n} m =
    let r-square : r * 1 ≤ r * r = mul-le-mul_left r m.order_least in
    let least : r ≤ r * r = omega (arith, r-square, mul-one r) in
    let one : 1 ≤ r * r = omega (arith, least, m.order_least) in
    let vector : r * n ≤ r * r * n = mul-le-mul_right n least in
    let terms : 1 * n ≤ r * r * n = mul-le-mul_right n one in
    record {
      square = mul-le-mul m.order m.order;
      vector = omega (arith, vector, m.product);
      terms = omega (arith, terms, one-mul n, m.product);
    }

-- the lengths of the buffers that are read
pub record Fits (l : Lengths) : Type 0 where
  pub one : l.one ≤ 2048
  pub two : l.two ≤ 2048
  pub three : l.three ≤ 2048
  pub all : l.one + l.two + l.three ≤ 3080

pub lengths_fit : (kind : Kind) (r n : ℕ) (l : Lengths) → Small r n → Measured kind r n l → Fits l
unfolding read_lengths read_count lengths_of carried
lengths_fit System r n l m k =
    let s = sizes m in
    record { one = omega arith; two = omega arith; three = omega arith; all = omega arith }
lengths_fit Basis r n l m k =
    let s = sizes m in
    record { one = omega arith; two = omega arith; three = omega arith; all = omega arith }
lengths_fit Equation r n l m k =
    let s = sizes m in
    record { one = omega arith; two = omega arith; three = omega arith; all = omega arith }
