-- A loop over the lengths of the buffers: the rules of those that it passed are silent, so what the rules that are left
-- say, all say. `LengthsPassed` is the loop's invariant, with its laws: at the start, one length on, at a wrong length,
-- and at the end.
-- Assumes nothing.
use Rattle.std.proofs.Common.{
  ◌≡◌,
  sym,
  ap,
  ◌∙◌,
  ◌≢◌,
  List,
  [],
  map,
  ℕ,
  suc,
  ◌+◌,
  ◌*◌,
  ◌≤◌,
  ◌<◌,
  add-one,
  arith,
  length,
  get_or,
  drop,
  drop_of_length-le,
  drop-cons,
  Ok,
  Err,
}
use lib.ListN.{length-map, get_or-map}
use Rattle.job.specs.declared.Refusal.TheVariants.{Length}
use Rattle.job.specs.Refusal.{Verdict, done, Says, refusal_verdict}
use Rattle.job.specs.Job.{Handed, cells_of}
use Rattle.job.specs.Rules.{length_rules}
use Rattle.job.proofs.Says.{says_none, says_here, says_past}
use Rattle.refusal.specs.Checked.{Compared}

pub record LengthsPassed (cells : ℕ) (should are : List ℕ) (i : ℕ) : Type 0 where
  pub rest
      : (h : Handed) (lent : List (List ℕ)) → cells ≡ cells_of h → are ≡ map length lent
      → (v : Verdict) → Says (length_rules h (suc i) (drop i should) (drop i lent)) v
      → Says (length_rules h 1 should lent) v

pub lengths_start : (cells : ℕ) (should are : List ℕ) → LengthsPassed cells should are 0
lengths_start cells should are = record { rest = λ h lent e f v t. t }

-- the buffer at i, of buffers with these lengths
module _ {are : List ℕ} (lent : List (List ℕ)) (lengths : are ≡ map length lent) (i : ℕ) where
  lent_at : length (get_or lent i []) ≡ get_or are i 0
  lent_at = sym (ap (λ (l : List ℕ). get_or l i 0) lengths ∙ get_or-map length lent i [])

  lent_long : i < length are → i < length lent
  lent_long there = omega (arith, ap length lengths, length-map lent length)

module _ {cells : ℕ} {should are : List ℕ} {i : ℕ} (passed : LengthsPassed cells should are i) where
  pub lengths_next
      : i < length should → i < length are → get_or are i 0 ≡ cells * get_or should i 0
      → LengthsPassed cells should are (i + 1)
  unfolding length_rules
  lengths_next more there right = record {
    rest = λ h lent e f v t.
        let same : length (get_or lent i []) ≡ cells_of h * get_or should i 0 = cc (lent_at lent f i) in
        let long = lent_long lent f i there in
        passed.rest h lent e f v
        (rw (drop-cons should i 0 more, drop-cons lent i [] long)
        (says_past _ _ v (λ wrong. wrong same) (rw add-one at t)));
  }

  pub lengths_wrong
      : i < length should → i < length are → get_or are i 0 ≢ cells * get_or should i 0
      → Compared cells should are (Err (Length (i + 1)))
  unfolding length_rules refusal_verdict
  lengths_wrong more there wrong = record {
    says = λ h lent e f.
        let holds : length (get_or lent i []) ≢ cells_of h * get_or should i 0 =
        λ same. wrong (cc (lent_at lent f i)) in
        let long = lent_long lent f i there in
        passed.rest h lent e f _
        (rw (add-one, drop-cons should i 0 more, drop-cons lent i [] long) (says_here _ _ holds));
  }

  pub lengths_all : length should ≤ i → Compared cells should are (Ok tt)
  unfolding length_rules
  lengths_all all = record {
    says = λ h lent e f. passed.rest h lent e f done (rw (drop_of_length-le should all) says_none);
  }
