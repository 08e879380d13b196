-- Lists of rules of which a part is silent: it may be left out, and another silent part may stand there.
-- Assumes nothing.
use Rattle.std.proofs.Common.{inl, inr, List, [], ◌∷◌, ◌++◌, ℕ, ◌*◌, ◌≤◌, arith}
use Rattle.job.specs.declared.Kind.{Kind}
use Rattle.job.specs.declared.Kind.TheVariants.{System, Basis, Equation}
use Rattle.job.specs.Refusal.{Verdict, done, Rule, Says}
use Rattle.job.specs.Job.{Buffers, listed, Handed, words, bytes, lengths_of}
use Rattle.job.specs.Rules.{size_rules, length_rules}
use Rattle.job.proofs.Says.{says_none, says_past, says_head, says_tail, says-append_done}
use Rattle.job.proofs.Accepted.{Sized}

-- the first list is silent, so what both say the second says
says_skip : (ss us : List Rule) (v : Verdict) → Says ss done → Says (ss ++ us) v → Says us v
unfolding Says
says_skip [] us v s t = t
says_skip (r ∷ ss) us v s (inl t) = absurd (says_head r ss s t.0)
says_skip (r ∷ ss) us v s (inr t) = says_skip ss us v (says_tail r ss s) t.1

-- one silent part in the place of another
pub says_swap : (rs ss ts us : List Rule) (v : Verdict) → Says ss done → Says ts done
    → Says (rs ++ (ss ++ us)) v → Says (rs ++ (ts ++ us)) v
unfolding Says
says_swap [] ss ts us v s t h = says-append_done ts us v t (says_skip ss us v s h)
says_swap (r ∷ rs) ss ts us v s t (inl h) = inl h
says_swap (r ∷ rs) ss ts us v s t (inr h) = inr (h.0, says_swap rs ss ts us v s t h.1)

-- 10: a job of at most 1024 is not refused for its size
pub size_silent : (h : Handed) (r n : ℕ) → r * r * n ≤ 1024 → Says (size_rules h r n) done
unfolding size_rules
size_silent words r n small = says_none
size_silent bytes r n small = says_past _ _ done (λ more. omega arith) says_none

-- 5, for any five lengths
five : (h : Handed) (lent : Buffers) (a b c d e : ℕ) → Sized h (a ∷ b ∷ c ∷ d ∷ e ∷ []) lent
    → Says (length_rules h 1 (a ∷ b ∷ c ∷ d ∷ e ∷ []) (listed lent)) done
unfolding length_rules
five h lent a b c d e sized =
    says_past _ _ done (λ wrong. wrong sized.one)
    (says_past _ _ done (λ wrong. wrong sized.two)
    (says_past _ _ done (λ wrong. wrong sized.three)
    (says_past _ _ done (λ wrong. wrong sized.four)
    (says_past _ _ done (λ wrong. wrong sized.five) says_none))))

-- 5: buffers of the right lengths are not refused for them
pub lengths_silent : (h : Handed) (kind : Kind) (r n : ℕ) (lent : Buffers) → Sized h (lengths_of kind r n) lent
    → Says (length_rules h 1 (lengths_of kind r n) (listed lent)) done
unfolding lengths_of
lengths_silent h System r n lent sized = five h lent _ _ _ _ _ sized
lengths_silent h Basis r n lent sized = five h lent _ _ _ _ _ sized
lengths_silent h Equation r n lent sized = five h lent _ _ _ _ _ sized
