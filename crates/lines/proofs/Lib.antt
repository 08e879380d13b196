pub mod Bytes
pub mod Heads
pub mod Items
pub mod Going
pub mod Forms
pub mod Passes
pub mod Blocks
