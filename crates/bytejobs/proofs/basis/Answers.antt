-- `bytejobs::basis` meets its contract: a job that does not fit is refused by the checks, and one that fits has room
-- in the arrays and is run.
-- Assumes nothing.
use Rattle.std.proofs.Common.{sym, [], ◌∷◌, length}
use Rattle.job.specs.declared.Kind.TheVariants.{Basis}
use Rattle.octets.specs.Octets.{Fitting}
use Rattle.octets.proofs.Carry.{outcome_unfit}
use Rattle.bytejobs.proofs.Rooms.{three_within, four_within, three_whole, four_whole, front_length}
use Rattle.bytejobs.proofs.basis.Goals as goal
use Rattle.bytejobs.proofs.basis.Goals.{Else-not-fits}

pub returns-then-not-fits : goal.returns-then-not-fits
returns-then-not-fits c =
    outcome_unfit (c.fits.ensures.no c.if-not-fits.true) c.check_bytes.ensures

-- the job fits
fitting : (c : Else-not-fits)
    → let s = c.args in
    Fitting Basis s.r s.n
    (length s.a.now ∷ length s.y0.now ∷ length s.y.now ∷ length s.z.now ∷ length s.work.now ∷ [])
fitting c = c.fits.ensures.yes c.if-not-fits.false

pub slice_bounds-c-end : goal.slice_bounds-c-end
slice_bounds-c-end c = three_within (fitting (goal.at.slice_bounds-c-end c).Else-not-fits)

pub slice_bounds-run_basis-end : goal.slice_bounds-run_basis-end
slice_bounds-run_basis-end c =
    let fit = fitting (goal.at.slice_bounds-run_basis-end c).Else-not-fits in
    sym (front_length 1024 _ (three_within fit))

pub slice_bounds-d-end : goal.slice_bounds-d-end
slice_bounds-d-end c = four_within (fitting (goal.at.slice_bounds-d-end c).Else-not-fits)

pub slice_bounds-run_basis-end-2 : goal.slice_bounds-run_basis-end-2
slice_bounds-run_basis-end-2 c =
    let fit = fitting (goal.at.slice_bounds-run_basis-end-2 c).Else-not-fits in
    sym (front_length 1024 _ (four_within fit))

pub run_basis-requires : goal.run_basis-requires
run_basis-requires c =
    let fit = fitting (goal.at.run_basis-requires c).Else-not-fits in
    record {
      fitting = fit;
      three_long = three_whole fit (front_length 1024 _ (three_within fit));
      four_long = four_whole fit (front_length 1024 _ (four_within fit));
    }
