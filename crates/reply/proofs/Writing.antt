-- What a call that is done leaves to be printed: the buffers are as long as they were, and within the limits of a sheet
-- the writer refuses nothing of them.
-- Assumes nothing.
use Rattle.std.proofs.Common.{◌≡◌, refl, ap, ◌∙◌, List, ◌++◌, ℕ, ◌*◌, ◌≤◌, one-mul, arith, length, get_or}
use Rattle.job.specs.declared.Kind.{Kind}
use Rattle.job.specs.declared.Kind.TheVariants.{System, Basis, Equation}
use Rattle.job.specs.Refusal.{done, Says, Answer, verdict_of}
use Rattle.job.specs.Job.{Job, Buffers, listed, words, bytes, lengths_of}
use Rattle.job.specs.Rules.{limit_rules, size_rules, length_rules, check_rules, call_rules}
use Rattle.job.specs.Outcome.{Filled, Solved, Outcome}
use Rattle.job.proofs.Says.{says_none, says_past, says_split, says-append_done}
use Rattle.job.proofs.Accepted.{WordsBelow, accepted}
use Rattle.header.specs.Header.{header}
use Rattle.result.specs.Write.{write_rules}
use Rattle.result.proofs.Checks.{vector_silent, basis_silent}
use Rattle.reply.specs.Reply.{printed_of}

-- a buffer of results has no word that is p or more
filled-below
    : {p count : ℕ} {before after : List ℕ} → Filled words p count before after → WordsBelow words p count after
filled-below f = record { below = f.below }

module _ (r n p : ℕ) (lent after : Buffers) where
  -- the third and the fourth buffer are as long as they were
  solved_lengths
      : (kind : Kind) → Solved words kind r n p lent after
      → (length after.three ≡ length lent.three) × (length after.four ≡ length lent.four)
  unfolding Solved
  solved_lengths System s = (ap length s.2, s.3.len)
  solved_lengths Basis s = (s.2.len, s.3.len)
  solved_lengths Equation s = (ap length s.2, s.3.len)

  -- no rule of the writer holds
  solved_silent
      : (kind : Kind) (out : List ℕ) → Solved words kind r n p lent after
      → length after.three ≡ get_or (lengths_of kind r n) 2 0 → length after.four ≡ get_or (lengths_of kind r n) 3 0
      → Says (limit_rules r n p ++ size_rules bytes r n) done → length out ≡ 65536
      → Says (write_rules (header kind r n p) (printed_of kind after.three after.four) out) done
  unfolding Solved printed_of lengths_of
  solved_silent System out s third fourth limits whole =
      vector_silent System r n p after.four out r refl limits fourth whole (filled-below s.3)
  solved_silent Basis out s third fourth limits whole =
      basis_silent r n p after.three after.four out limits third fourth whole (filled-below s.2) (filled-below s.3)
  solved_silent Equation out s third fourth limits whole =
      let one = one-mul n in
      vector_silent Equation r n p after.four out 1 refl limits (omega arith) whole (rw one-mul (filled-below s.3))

-- a call that is done
module _ {job : Job} {a : Answer} {after : Buffers} (o : Outcome words job a after) (d : verdict_of a ≡ done) where
  checked : Says (check_rules words job) done
  unfolding call_rules
  checked = (says_split (check_rules words job) _ (rw d at o.verdict)).0

  -- it has passed its limits
  limits_passed : Says (limit_rules job.r job.n job.p) done
  unfolding check_rules
  limits_passed =
      let limits = limit_rules job.r job.n job.p in
      let sized = limits ++ size_rules words job.r job.n in
      let exact = length_rules words 1 (lengths_of job.kind job.r job.n) (listed job.lent) in
      (says_split limits _ (says_split sized exact (says_split (sized ++ exact) _ checked).0).0).0

  pub left_lengths
      : (length after.three ≡ get_or (lengths_of job.kind job.r job.n) 2 0)
      × (length after.four ≡ get_or (lengths_of job.kind job.r job.n) 3 0)
  left_lengths =
      let same = solved_lengths job.r job.n job.p job.lent after job.kind (o.solved d) in
      let sized = (accepted words job checked).lengths in
      (same.0 ∙ omega (arith, sized.three), same.1 ∙ omega (arith, sized.four))

  pub left_silent
      : (out : List ℕ) → job.r * job.r * job.n ≤ 1024 → length out ≡ 65536
      → Says (write_rules (header job.kind job.r job.n job.p)
      (printed_of job.kind after.three after.four) out) done
  unfolding size_rules
  left_silent out small whole =
      let size : Says (size_rules bytes job.r job.n) done = says_past _ _ done (λ q. omega arith) says_none in
      let limits = says-append_done (limit_rules job.r job.n job.p) _ done limits_passed size in
      solved_silent job.r job.n job.p job.lent after job.kind out (o.solved d)
      left_lengths.0 left_lengths.1 limits whole
