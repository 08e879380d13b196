pub mod Sheet
pub mod JobSheet
pub mod Rules
pub mod Rooms
pub mod Read
pub mod Parts
