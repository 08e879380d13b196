-- The measure is x.
-- Assumes nothing.
use Rattle.text.proofs.+put_natural.Given as goal

abbrev pub decreases-put_natural : goal.decreases-put_natural
decreases-put_natural l = l.x
