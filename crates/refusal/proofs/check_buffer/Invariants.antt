-- The invariant.
use Rattle.refusal.proofs.Words.{WordsPassed}
use Rattle.refusal.proofs.check_buffer.Given as goal

abbrev pub invariant-loop-k : goal.invariant-loop-k
invariant-loop-k g l = WordsPassed g.C.Cell.handed l.p l.b (g.C.Cell.seen l.s) l.count l.k
