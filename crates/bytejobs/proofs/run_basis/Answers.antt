-- `bytejobs::run_basis` meets its contract: what the job on words answers decides, and its results are encoded.
-- Assumes nothing.
use Rattle.std.proofs.Common.{arith}
use Rattle.std.proofs.lemmas.Result.{err_from_is_err_and}
use Rattle.job.specs.Job.{read_count}
use Rattle.bytejobs.proofs.Rooms.{fitted_sized}
use Rattle.bytejobs.proofs.Outcomes.{answered_refused, basis_done}
use Rattle.bytejobs.proofs.run_basis.Goals as goal

pub solve_bytes-requires : goal.solve_bytes-requires
solve_bytes-requires c =
    fitted_sized c.requires

pub returns-in_err-solve_bytes : goal.returns-in_err-solve_bytes
returns-in_err-solve_bytes c =
    let p = err_from_is_err_and c.from_residual.result c.from_residual.ensures.1 in
    rw (p.1, p.2) (answered_refused c.requires.fitting c.in_err-solve_bytes.ensures)

pub returns : goal.returns
unfolding read_count
returns c =
    basis_done c.requires.fitting c.in_ok-solve_bytes.ensures
    c.encode-2.auto.s c.encode-2.ensures c.clear.auto.s c.clear.ensures
    (omega arith) c.encode.auto.s c.encode.ensures
