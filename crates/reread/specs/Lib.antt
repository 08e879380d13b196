pub mod Read
pub mod Parts
pub mod Back
