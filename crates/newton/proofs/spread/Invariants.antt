-- The invariant.
use Rattle.matrix.specs.Product.{first_terms}
use Rattle.matrix.proofs.Written.{Filled}
use Rattle.newton.specs.Basis.{spread_term}
use Rattle.newton.proofs.spread.Given as goal

abbrev pub invariant-loop-e : goal.invariant-loop-e
invariant-loop-e l = Filled l.entries l.n (first_terms l.at 1) (spread_term l.src l.from) l.initial.w l.w l.e
