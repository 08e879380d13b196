-- `Places`: where things stand; `Quotients`: divisions in a room; `Row`: the last row; `System`: the whole translation;
-- `Unique`: what it fixes; `Rooms`: the job in whichever room; `Halving`, `Newton`: in that of each solver; `Verdicts`:
-- refusals, and the job's outcome; `Agree`: both methods give the same.
pub mod Places
pub mod Quotients
pub mod Row
pub mod System
pub mod Unique
pub mod Rooms
pub mod Halving
pub mod Newton
pub mod Verdicts
pub mod Agree
