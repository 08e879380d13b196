pub mod Totals
pub mod Sizes
pub mod Waits
