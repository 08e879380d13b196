-- `Ladder`: the term counts; `Layout`: where things stand in the room; `Newton`: what the solver's functions take and
-- give.
pub mod Ladder
pub mod Layout
pub mod Newton
