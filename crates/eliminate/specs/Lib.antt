pub mod Square
pub mod Steps
