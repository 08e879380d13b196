-- `bytejobs::vector` meets its contract: a job that does not fit is refused by the checks, and one that fits has room
-- in the arrays and is run.
-- Assumes nothing.
use Rattle.std.proofs.Common.{sym, [], ◌∷◌, ◌/◌, ◌≤◌, length}
use Rattle.octets.specs.Octets.{Fitting}
use Rattle.octets.proofs.Carry.{outcome_unfit}
use Rattle.bytejobs.specs.Solvers.{kind_of}
use Rattle.bytejobs.proofs.Rooms.{third_rows, four_within, three_whole, four_whole, front_length}
use Rattle.bytejobs.proofs.vector.Goals as goal
use Rattle.bytejobs.proofs.vector.Goals.{Else-not-fits}

pub returns-then-not-fits : goal.returns-then-not-fits
returns-then-not-fits c =
    let kind = c.kind_of.ensures in
    let unfit = c.fits.ensures.no c.if-not-fits.true in
    outcome_unfit (rw kind at unfit) (rw kind at c.check_bytes.ensures)

-- the job fits
fitting : (c : Else-not-fits)
    → let s = c.args in
    Fitting (kind_of s.g.solver) s.g.r s.g.n
    (length s.g.one.now ∷ length s.g.two.now ∷ length s.g.three.now ∷ length s.four.now
    ∷ length s.five.now ∷ [])
fitting c =
    rw c.kind_of.ensures at (c.fits.ensures.yes c.if-not-fits.false)

-- its third buffer has at most eight words
rows_within : (c : Else-not-fits) → length c.args.g.three.now / 4 ≤ 8
rows_within c = third_rows c.args.g.solver c.requires (fitting c)

pub slice_bounds-c-end : goal.slice_bounds-c-end
slice_bounds-c-end c = rows_within (goal.at.slice_bounds-c-end c).Else-not-fits

pub slice_bounds-run_vector-end : goal.slice_bounds-run_vector-end
slice_bounds-run_vector-end c =
    sym (front_length 8 _ (rows_within (goal.at.slice_bounds-run_vector-end c).Else-not-fits))

pub slice_bounds-d-end : goal.slice_bounds-d-end
slice_bounds-d-end c = four_within (fitting (goal.at.slice_bounds-d-end c).Else-not-fits)

pub slice_bounds-run_vector-end-2 : goal.slice_bounds-run_vector-end-2
slice_bounds-run_vector-end-2 c =
    let fit = fitting (goal.at.slice_bounds-run_vector-end-2 c).Else-not-fits in
    sym (front_length 1024 _ (four_within fit))

pub run_vector-requires : goal.run_vector-requires
run_vector-requires c =
    let fit = fitting (goal.at.run_vector-requires c).Else-not-fits in (
      c.requires,
      record {
        fitting = fit;
        three_long = three_whole fit (front_length 8 _ (rows_within (goal.at.run_vector-requires c).Else-not-fits));
        four_long = four_whole fit (front_length 1024 _ (four_within fit));
      },
    )
