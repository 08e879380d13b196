pub mod Results
pub mod Unique
pub mod Laid
pub mod Words
pub mod Back
