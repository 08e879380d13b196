-- `Layout`: series of matrices in a room of words; `Product`: what is computed of them; `Sums` and `Steps`: what the
-- private functions promise to one another, and what `add_runs` asks and gives.
pub mod Layout
pub mod Product
pub mod Sums
pub mod Steps
