pub mod Calls
pub mod Writing
pub mod Answers
pub mod Reading
pub mod Unique
pub mod Known
