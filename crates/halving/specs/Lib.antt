-- What callers read: `Layout`, where things stand in the room, and of `Halving` its last two records.
-- What the private functions promise to one another: `Rows`, `Shares`, `Halving`, and from there to the job `System`.
pub mod Layout
pub mod Rows
pub mod Shares
pub mod Halving
pub mod System
