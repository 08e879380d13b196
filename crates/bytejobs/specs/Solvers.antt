-- The word jobs behind the byte jobs: what they are given, as words that bytes carry, and what they answer.
-- Assumes nothing.
use Rattle.std.specs.Prelude.{◌≡◌, refl, List, [], ◌∷◌, ℕ, ◌*◌, ◌≤◌, length, get_or}
use Rattle.job.specs.declared.Kind.{Kind}
use Rattle.job.specs.declared.Kind.TheVariants.{System, Basis, Equation}
use Rattle.job.specs.Refusal.{Answer}
use Rattle.job.specs.Job.{Buffers, words, lengths_of}
use Rattle.job.specs.Outcome.{Outcome}
use Rattle.refusal.specs.Checked.{job_of}
use Rattle.octets.specs.Octets.{Carries, Fitting}
use Rattle.bytejobs.specs.declared.Solver.{Solver}
use Rattle.bytejobs.specs.declared.Solver.TheVariants.{
  SystemHalving,
  SystemNewton,
  BasisNewton,
  EquationHalving,
  EquationNewton,
}

-- the kind of the jobs that a solver does
abbrev pub kind_of : Solver → Kind
kind_of SystemHalving = System
kind_of SystemNewton = System
kind_of BasisNewton = Basis
kind_of EquationHalving = Equation
kind_of EquationNewton = Equation

kind_of_example : kind_of SystemNewton ≡ System
kind_of_example = refl

-- how many buffers a solver only reads
abbrev pub read_of : Solver → ℕ
read_of SystemHalving = 3
read_of SystemNewton = 3
read_of BasisNewton = 2
read_of EquationHalving = 3
read_of EquationNewton = 3

read_of_example : read_of BasisNewton ≡ 2
read_of_example = refl

-- rooms of words for the five buffers: the first three are filled from bytes, the other two have their lengths
pub record Roomy (kind : Kind) (r n : ℕ) (one two three a b c d e : List ℕ) : Type 0 where
  pub one_long : length one ≡ 4 * length a
  pub two_long : length two ≡ 4 * length b
  pub three_long : length three ≡ 4 * length c
  pub four_long : length d ≡ get_or (lengths_of kind r n) 3 0
  pub five_long : length e ≡ get_or (lengths_of kind r n) 4 0

-- bytes of a job, rooms of words for its third and fourth buffer, and the words of its work room; its first two
-- buffers have at most x and y words, and its work room at most z
pub record Sized (x y z : ℕ) (kind : Kind) (r n : ℕ) (one two three c d : List ℕ) (room : ℕ) : Type 0 where
  pub order_least : 1 ≤ r
  pub terms_least : 1 ≤ n
  pub one_long : length one ≡ 4 * get_or (lengths_of kind r n) 0 0
  pub two_long : length two ≡ 4 * get_or (lengths_of kind r n) 1 0
  pub three_long : length three ≡ 4 * length c
  pub four_long : length d ≡ get_or (lengths_of kind r n) 3 0
  pub room_is : room ≡ get_or (lengths_of kind r n) 4 0
  pub one_within : length one ≤ 4 * x
  pub two_within : length two ≤ 4 * y
  pub room_within : room ≤ z

-- bytes of a job that fits, and rooms of words for its third and fourth buffer
pub record Fitted (kind : Kind) (r n : ℕ) (one two three four five c d : List ℕ) : Type 0 where
  pub fitting : Fitting kind r n (length one ∷ length two ∷ length three ∷ length four ∷ length five ∷ [])
  pub three_long : length three ≡ 4 * length c
  pub four_long : length four ≡ 4 * length d

-- the outcome of a job on words: its first three buffers are carried by the bytes one, two and three, and afterwards
-- its third and fourth are c and d
pub record Answered (kind : Kind) (r n p : ℕ) (one two three c d : List ℕ) (answer : Answer) : Type 0 where
  pub lent : Buffers
  pub after : Buffers
  pub one_carried : Carries one lent.one
  pub two_carried : Carries two lent.two
  pub three_carried : Carries three lent.three
  pub four_long : length lent.four ≡ get_or (lengths_of kind r n) 3 0
  pub five_long : length lent.five ≡ get_or (lengths_of kind r n) 4 0
  pub outcome : Outcome words (job_of kind r n p lent) answer after
  pub three_after : after.three ≡ c
  pub four_after : after.four ≡ d
