pub mod Basis
pub mod System
