-- `result::put_class` meets its contract: one text after another, and the number is the balanced one.
-- Assumes nothing.
use Rattle.std.proofs.Common.{ap, ◌∙◌, ◌∷◌, ℤ, w64, to_z-of_z}
use Rattle.text.specs.Decimal.{spell}
use Rattle.text.proofs.Puts.{put_more, put_as}
use Rattle.result.proofs.put_class.Goals as goal

pub returns : goal.returns
returns c =
    let passed = to_z-of_z {w = w64} (record { sfits = c.balance.type_inv }) in
    put_as (ap (λ (z : ℤ). 9 ∷ spell z) (passed ∙ c.balance.ensures))
    (put_more c.put_byte-a.ensures c.put_number.ensures)
