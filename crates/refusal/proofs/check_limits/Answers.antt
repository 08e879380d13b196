-- `refusal::check_limits` meets its contract: at each way out the earlier rules are silent, and the next one holds.
-- Assumes nothing.
use Rattle.std.proofs.Common.{rules, tests}
use Rattle.refusal.proofs.Limits.{
  Among,
  order_wrong,
  terms_wrong,
  modulus_outside,
  modulus_no_prime,
  terms_over,
  limits_kept,
}
use Rattle.refusal.proofs.check_limits.Goals as goal
use Rattle.refusal.proofs.check_limits.Goals.{
  Else-not-contains,
  Else-not-contains-2,
  Else-not-contains-3,
  then-not-contains-3-via-then-not-contains-3,
  then-not-contains-3-via-else-not-contains-3+then-not-is_prime,
}

pub returns-then-not-contains : goal.returns-then-not-contains
returns-then-not-contains c = order_wrong _ _ _ (λ a. search (rules, tests))

order : (c : Else-not-contains) → Among 1 8 c.args.r
order c = search (rules, tests)

pub returns-then-not-contains-2 : goal.returns-then-not-contains-2
returns-then-not-contains-2 c =
    terms_wrong _ _ _ (order (goal.at.returns-then-not-contains-2 c).Else-not-contains) (λ a. search (rules, tests))

terms : (c : Else-not-contains-2) → Among 1 4096 c.args.n
terms c = search (rules, tests)

pub returns-then-not-contains-3 : goal.returns-then-not-contains-3
returns-then-not-contains-3 c =
    let at = goal.at.returns-then-not-contains-3 c in
    let o : Among 1 8 c.args.r = order at.Else-not-contains in
    let t : Among 1 4096 c.args.n = terms at.Else-not-contains-2 in
    elim c.then-not-contains-3.branch [
      | then-not-contains-3-via-then-not-contains-3 w ↦ modulus_outside _ _ _ o t (λ a. search (rules, tests))
      | then-not-contains-3-via-else-not-contains-3+then-not-is_prime w ↦
          modulus_no_prime _ _ _ o t (w.is_prime.ensures.no w.if-not-is_prime.true)
    ]

range : (c : Else-not-contains-3) → Among 2 2147483647 c.args.p
range c = search (rules, tests)

pub returns-then-p-n : goal.returns-then-p-n
returns-then-p-n c =
    let at = goal.at.returns-then-p-n c in
    terms_over _ _ _ (order at.Else-not-contains) (terms at.Else-not-contains-2) (range at.Else-not-contains-3)
    (c.is_prime.ensures.yes c.if-not-is_prime.false) c.if-p-n.true

pub returns : goal.returns
returns c =
    let at = goal.at.returns c in
    limits_kept _ _ _ (order at.Else-not-contains) (terms at.Else-not-contains-2) (range at.Else-not-contains-3)
    (c.is_prime.ensures.yes c.if-not-is_prime.false) c.if-p-n.false
