-- `bytejobs::run_vector` meets its contract: what the job on words answers decides, and its results are encoded.
-- Assumes nothing.
use Rattle.std.proofs.lemmas.Result.{err_from_is_err_and}
use Rattle.bytejobs.proofs.Rooms.{fitted_sized, third_read_lem}
use Rattle.bytejobs.proofs.Outcomes.{answered_refused, vector_done}
use Rattle.bytejobs.proofs.run_vector.Goals as goal

pub solve_bytes-requires : goal.solve_bytes-requires
solve_bytes-requires c = fitted_sized c.requires.1

pub returns-in_err-solve_bytes : goal.returns-in_err-solve_bytes
returns-in_err-solve_bytes c =
    let p = err_from_is_err_and c.from_residual.result c.from_residual.ensures.1 in
    rw (p.1, p.2) (answered_refused c.requires.1.fitting c.in_err-solve_bytes.ensures)

pub returns : goal.returns
returns c =
    vector_done c.requires.1.fitting c.in_ok-solve_bytes.ensures
    c.encode.auto.s c.encode.ensures c.clear.auto.s c.clear.ensures
    (third_read_lem c.args.g.solver c.requires.0)
