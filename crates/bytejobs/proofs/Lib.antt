-- `Rooms`: the lengths of the rooms of words; `Outcomes`: from the answer of the job on words to the outcome on bytes.
pub mod Rooms
pub mod Outcomes
