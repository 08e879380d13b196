pub mod JobLines
pub mod Parts
