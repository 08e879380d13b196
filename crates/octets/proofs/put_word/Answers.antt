-- `octets::put_word` meets its contract: the four bytes are those of `word_put`.
-- Assumes nothing.
use Rattle.std.proofs.Common.{arith}
use Rattle.octets.proofs.Bytes.{word_put}
use Rattle.octets.proofs.put_word.Goals as goal

pub returns : goal.returns
returns c = word_put _ _ _ (omega arith) c.requires
