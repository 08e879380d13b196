pub mod Headers
pub mod Unique
pub mod Before
pub mod Verdicts
pub mod Rooms
pub mod Outcomes
