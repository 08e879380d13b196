-- The rooms of words of a byte job: how long they have to be, by the job's size; that the local arrays are long enough.
-- Assumes nothing.
use Rattle.std.proofs.Common.{add-mul, mul-le-mul_left, mul-le-mul_right, one-mul, ◌≡◌, refl, List, ℕ, ◌*◌, ◌/◌}
use Rattle.std.proofs.Common.{◌≤◌, ◌<◌, arith, length, get_or, take, replicate, length-take-le}
use lib.ListN.{length-replicate}
use Rattle.job.specs.declared.Kind.{Kind}
use Rattle.job.specs.declared.Kind.TheVariants.{System, Basis, Equation}
use Rattle.job.specs.Job.{carried, room_of, lengths_of, read_count}
use Rattle.octets.specs.Octets.{Fitting}
use Rattle.bytejobs.specs.declared.Solver.{Solver}
use Rattle.bytejobs.specs.declared.Solver.TheVariants.{
  SystemHalving,
  SystemNewton,
  BasisNewton,
  EquationHalving,
  EquationNewton,
}
use Rattle.bytejobs.specs.Solvers.{kind_of, read_of, Sized, Fitted}

-- the words of the buffers of a job of at most the size m
record Lengths (m : ℕ) (l : List ℕ) : Type 0 where
  pub one : get_or l 0 0 ≤ 2 * m
  pub two : get_or l 1 0 ≤ m
  pub three : get_or l 2 0 ≤ m
  pub four : get_or l 3 0 ≤ m
  pub five : get_or l 4 0 ≤ 16 * m

module _ {r n m : ℕ} (order : 1 ≤ r) (terms : 1 ≤ n) (within : r * r * n ≤ m) where
  square_of_order : r ≤ r * r
  square_of_order = omega (arith, mul-le-mul_left r order)

  matrix_of-square : r * r ≤ r * r * n
  matrix_of-square = omega (arith, mul-le-mul_left (r * r) terms)

  matrix_of_vector : r * n ≤ r * r * n
  matrix_of_vector = mul-le-mul_right n square_of_order

  matrix_of-terms : n ≤ r * r * n
  matrix_of-terms = omega (arith, mul-le-mul_right n order, one-mul n, matrix_of_vector)

  lengths_within : (kind : Kind) → Lengths m (lengths_of kind r n)
  unfolding lengths_of carried room_of
  lengths_within System = record {
    one = omega arith;
    two = omega (arith, matrix_of_vector);
    three = omega (arith, square_of_order, matrix_of-square);
    four = omega (arith, matrix_of_vector);
    five = omega arith;
  }
  lengths_within Basis = record {
    one = omega arith;
    two = omega (arith, matrix_of-square);
    three = omega arith;
    four = omega arith;
    five = omega arith;
  }
  lengths_within Equation = record {
    one = omega (arith, add-mul r 1 n, one-mul n, matrix_of_vector, matrix_of-terms);
    two = omega (arith, matrix_of-terms);
    three = omega (arith, square_of_order, matrix_of-square);
    four = omega (arith, matrix_of-terms);
    five = omega arith;
  }

-- the work room is sixteen matrices long
room_length : (kind : Kind) (r n : ℕ) → get_or (lengths_of kind r n) 4 0 ≡ 16 * (r * r * n)
unfolding lengths_of room_of
room_length System r n = refl
room_length Basis r n = refl
room_length Equation r n = refl

module _ {x y z : ℕ} {kind : Kind} {r n : ℕ} {one two three c d : List ℕ} {room : ℕ}
    (sized : Sized x y z kind r n one two three c d room)
  where
    -- a work room of at most 1024 words is that of a short job
    pub sized_short : room ≤ 1024 → Sized 128 64 1024 kind r n one two three c d room
    sized_short short =
        let small : r * r * n ≤ 64 = omega (arith, sized.room_is, room_length kind r n) in
        let lengths = lengths_within sized.order_least sized.terms_least small kind in
        record {
          order_least = sized.order_least;
          terms_least = sized.terms_least;
          one_long = sized.one_long;
          two_long = sized.two_long;
          three_long = sized.three_long;
          four_long = sized.four_long;
          room_is = sized.room_is;
          one_within = omega (arith, sized.one_long, lengths.one);
          two_within = omega (arith, sized.two_long, lengths.two);
          room_within = short;
        }

-- a part that is lent from the front of an array of m zeros
pub front_length : (m k : ℕ) → k ≤ m → length (take k (replicate {A = ℕ} m 0)) ≡ k
front_length m k l = length-take-le k (replicate {A = ℕ} m 0) (omega (arith, length-replicate {A = ℕ} m 0))

-- a job that fits
module _ {kind : Kind} {r n : ℕ} {l : List ℕ} (fitting : Fitting kind r n l) where
  within_most : Lengths 1024 (lengths_of kind r n)
  within_most =
      lengths_within fitting.small.order_least fitting.small.terms_least fitting.small.size kind

  pub three_within : get_or l 2 0 / 4 ≤ 1024
  three_within = omega (arith, fitting.exact 2 (omega arith), within_most.three)

  pub four_within : get_or l 3 0 / 4 ≤ 1024
  four_within = omega (arith, fitting.exact 3 (omega arith), within_most.four)

  pub three_whole : {m : ℕ} → m ≡ get_or l 2 0 / 4 → get_or l 2 0 ≡ 4 * m
  three_whole long = omega (arith, fitting.exact 2 (omega arith))

  pub four_whole : {m : ℕ} → m ≡ get_or l 3 0 / 4 → get_or l 3 0 ≡ 4 * m
  four_whole long = omega (arith, fitting.exact 3 (omega arith))

-- it can be solved
pub fitted_sized : {kind : Kind} {r n : ℕ} {one two three four five c d : List ℕ}
    → Fitted kind r n one two three four five c d
    → Sized 2048 1024 16384 kind r n one two three c d (length five / 4)
fitted_sized fitted =
    let exact = fitted.fitting.exact in
    let within = within_most fitted.fitting in
    record {
      order_least = fitted.fitting.small.order_least;
      terms_least = fitted.fitting.small.terms_least;
      one_long = exact 0 (omega arith);
      two_long = exact 1 (omega arith);
      three_long = fitted.three_long;
      four_long = omega (arith, exact 3 (omega arith), fitted.four_long);
      room_is = omega (arith, exact 4 (omega arith));
      one_within = omega (arith, exact 0 (omega arith), within.one);
      two_within = omega (arith, exact 1 (omega arith), within.two);
      room_within = omega (arith, exact 4 (omega arith), within.five);
    }

-- the buffers that a solver only reads are those of its kind
read_count_lem : (solver : Solver) → read_of solver ≡ read_count (kind_of solver)
unfolding read_count
read_count_lem SystemHalving = refl
read_count_lem SystemNewton = refl
read_count_lem BasisNewton = refl
read_count_lem EquationHalving = refl
read_count_lem EquationNewton = refl

pub third_read_lem : (solver : Solver) → 2 < read_of solver → 2 < read_count (kind_of solver)
third_read_lem solver reads = omega (arith, read_count_lem solver)

-- a third buffer that is only read has a word for each row
pub third_rows : (solver : Solver) {r n : ℕ} {l : List ℕ} → 2 < read_of solver → Fitting (kind_of solver) r n l
    → get_or l 2 0 / 4 ≤ 8
unfolding lengths_of
third_rows SystemHalving reads fitting = omega (arith, fitting.exact 2 (omega arith), fitting.small.order)
third_rows SystemNewton reads fitting = omega (arith, fitting.exact 2 (omega arith), fitting.small.order)
third_rows BasisNewton reads fitting = absurd (omega arith)
third_rows EquationHalving reads fitting = omega (arith, fitting.exact 2 (omega arith), fitting.small.order)
third_rows EquationNewton reads fitting = omega (arith, fitting.exact 2 (omega arith), fitting.small.order)
