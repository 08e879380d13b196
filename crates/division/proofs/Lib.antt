-- `Degrees` has laws of the words that count, `Products` those of products of series, `Terms` those of one coefficient
-- of the quotient, `Written` those of the two places that it is written to, `Turns` those of the loop that finds terms
-- one by one, `Passing` and `Halves` those of terms by halves, `Whole` those of the whole division, and `Parts`
-- those of one of parts of lists; and `Unique` says what the contracts fix.
pub mod Degrees
pub mod Parts
pub mod Products
pub mod Terms
pub mod Written
pub mod Turns
pub mod Passing
pub mod Halves
pub mod Whole
pub mod Unique
