pub mod Unique
pub mod Broken
pub mod Few
pub mod NoLine
