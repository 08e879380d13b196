pub mod Judged
pub mod Limits
pub mod Products
pub mod Exact
pub mod Words
pub mod Call
