-- `pealvixen::tell_written` meets its contract: the answer packed, and the length, or 0.
-- Assumes nothing.
use Rattle.std.proofs.Common.{◌≡◌, refl, ℕ, Result, Ok, Err}
use Rattle.std.specs.Result.{result_unwrap_or}
use Rattle.job.specs.declared.Refusal.{Refusal}
use Rattle.pealvixen.specs.Sheets.{length_told, told_written}
use Rattle.pealvixen.proofs.tell_written.Goals as goal

length_is : (w : Result ℕ Refusal) → result_unwrap_or w 0 ≡ length_told w
unfolding length_told
length_is (Ok length) = refl
length_is (Err refusal) = refl

pub returns : goal.returns
unfolding told_written
returns c =
    let packs = c.pack.ensures in
    let length = c.unwrap_or.ensures in
    rw (packs, length, length_is c.args.w)
