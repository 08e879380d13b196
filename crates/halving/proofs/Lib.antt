-- Laws, from the bottom up. `Words`: residues; `Row`, `Rows`: what a loop has done; `Rest`, `Turned`,
-- `Scaled`: the loops over rows; `Passed`: what the lower terms pass on; `Halves`: the two halves make the whole;
-- `Solved`: the whole room; `Loads`, `Jobs`, `Outcomes`: the system job; `Unique`: what the contracts fix.
pub mod Words
pub mod Row
pub mod Rows
pub mod Rest
pub mod Turned
pub mod Scaled
pub mod Passed
pub mod Halves
pub mod Solved
pub mod Loads
pub mod Jobs
pub mod Outcomes
pub mod Unique
