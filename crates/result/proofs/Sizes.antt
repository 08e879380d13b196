-- What the limits say of sizes: the words of a result sheet are at most 1024 a buffer, and the text fits 65536 bytes.
-- Assumes nothing.
use Rattle.std.proofs.Common.{◌≡◌, List, ◌++◌, ℕ, ◌*◌, ◌≤◌, ◌<◌, mul_assoc, mul-le-mul, mul-le-mul_right, arith, length}
use Rattle.job.specs.declared.Kind.{Kind}
use Rattle.job.specs.declared.Kind.TheVariants.{System, Basis, Equation}
use Rattle.job.specs.Refusal.{done, Says}
use Rattle.job.specs.Job.{words, bytes}
use Rattle.job.specs.Rules.{limit_rules, size_rules, word_rules}
use Rattle.job.proofs.Says.{says_split}
use Rattle.job.proofs.Accepted.{Limits, limits_of, small_of, below_of}
use Rattle.job.proofs.Outcomes.{words_below}
use Rattle.result.specs.Print.{Rows, VectorReady, BasisReady}
use Rattle.result.proofs.Products.{factor_within, rows-sum, matrix-sum}

module _ (r n p : ℕ) (passed : Says (limit_rules r n p ++ size_rules bytes r n) done) where
  pub limits : Limits r n p
  limits = limits_of r n p (says_split (limit_rules r n p) _ passed).0

  pub small : r * r * n ≤ 1024
  small = small_of r n (says_split (limit_rules r n p) _ passed).1

  positive : 0 < p
  positive = omega (arith, limits.terms_least, limits.few)

  pub square : r * r ≤ 64
  square = mul-le-mul limits.order limits.order

  -- the rows of y, and its words
  pub rows_few : (kind : Kind) (rows : ℕ) → Rows kind r rows → (rows ≤ 8) × (rows * n ≤ 1024)
  rows_few System rows e = rw e (limits.order, omega (arith, small, factor_within r n, mul_assoc r r n))
  rows_few Basis rows e = absurd e
  rows_few Equation rows e =
      let more = mul-le-mul_right n limits.order_least in
      rw e (omega arith, omega (arith, small, factor_within r n, mul_assoc r r n, more))

  pub vector_ready
      : (kind : Kind) (rows : ℕ) {y text : List ℕ} → Rows kind r rows → length y ≡ rows * n → length text ≡ 65536
      → Says (word_rules words p 1 y 0 (rows * n)) done → VectorReady kind r rows n p y text
  vector_ready kind rows {y} order exact whole silent = record {
    order = order;
    modulus = omega (arith, limits.half);
    exact = exact;
    ready = record {
      below = words_below positive exact (below_of words p 1 y _ silent);
      room = omega (arith, rows-sum 1 rows n, rows_few kind rows order);
    };
  }

  pub basis_ready
      : {y z text : List ℕ} → length y ≡ r * r * n → length z ≡ r * r * n → length text ≡ 65536
      → Says (word_rules words p 1 y 0 (r * r * n)) done → Says (word_rules words p 2 z 0 (r * r * n)) done
      → BasisReady r n p y z text
  basis_ready {y} {z} y-exact z-exact whole y-silent z-silent =
      let entries = square in
      let few = small in
      let flat = mul_assoc r r n in
      let sum = matrix-sum r n in
      record {
        order = limits.order;
        modulus = omega (arith, limits.half);
        exact = (omega arith, omega arith);
        first = record {
          below = words_below positive y-exact (below_of words p 1 y _ y-silent);
          room = omega arith;
        };
        second = record {
          below = words_below positive z-exact (below_of words p 2 z _ z-silent);
          room = omega arith;
        };
      }
