pub mod ResultSheet
pub mod Write
pub mod Print
