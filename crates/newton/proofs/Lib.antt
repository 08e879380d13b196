-- `Sizes`: how many words there are; `Spreads`: words spread over entries; `Starts`: Y0 and its inverse; `Units`: the
-- identity; `Matrices`: the room with A; `Places`, `Solutions`: the rooms of a basis and of a system; `Handovers`: Y
-- and Z handed over; `Outcomes`: the outcomes of both jobs.
pub mod Sizes
pub mod Spreads
pub mod Starts
pub mod Units
pub mod Matrices
pub mod Places
pub mod Solutions
pub mod Handovers
pub mod Outcomes
