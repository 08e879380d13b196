-- What is read so far are the digits of n, and whatever number the whole field writes, the rest takes n there.
use Rattle.std.proofs.Common.{◌≡◌, ◌++◌, ℕ, ◌≤◌, ◌<◌, drop}
use Rattle.text.specs.Decimal.{digits}
use Rattle.text.proofs.Digits.{Goes}
use Rattle.text.proofs.read_natural.Given as goal

abbrev pub invariant-loop-b : goal.invariant-loop-b
invariant-loop-b l = record {
  most : l.n ≤ l.most;
  none : l.b-index ≡ 0 → l.n ≡ 0;
  read : 0 < l.b-index → l.f ≡ digits l.n ++ drop l.b-index l.f;
  goes : (x : ℕ) → l.f ≡ digits x → Goes l.b-index l.n (drop l.b-index l.f) x;
}
