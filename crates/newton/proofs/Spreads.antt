-- Words that are spread over entries, one by one.
-- Assumes nothing.
use Rattle.std.proofs.Common.{◌≡◌, refl, ap, List, ℕ, ◌+◌, ◌*◌, ◌<◌, arith, length, get_or}
use Rattle.room.specs.Room.{words_from, Put}
use Rattle.matrix.specs.Product.{first_terms}
use Rattle.matrix.proofs.Written.{Filled, filled_next}
use Rattle.newton.specs.Basis.{Spreadable, spread_term}

module _ {entries n from at : ℕ} {src w₀ w : List ℕ} {e : ℕ} (given : Spreadable entries n src from at w₀)
    (filled : Filled entries n (first_terms at 1) (spread_term src from) w₀ w e) (more : e < entries) where
  pub spread_next : {v : List ℕ} → length v ≡ length w → Put (at + e * n) 1 (words_from src (from + e)) w v
      → Filled entries n (first_terms at 1) (spread_term src from) w₀ v (e + 1)
  spread_next same put =
      filled_next filled (omega arith) given.terms more (omega arith) refl same put
      (λ d l. ap (λ x. get_or src x 0) (omega arith))
