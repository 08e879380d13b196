-- `result::put_field` meets its contract: one text after another.
-- Assumes nothing.
use Rattle.text.proofs.Puts.{put_more}
use Rattle.result.proofs.put_field.Goals as goal

pub returns : goal.returns
returns c =
    put_more c.put_byte-a.ensures c.put_natural.ensures
