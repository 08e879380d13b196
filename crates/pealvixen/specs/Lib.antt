pub mod Packing
pub mod Sheets
pub mod Steps
