-- `Translation`: an equation as a system in a room; `Equation`: the job.
pub mod Translation
pub mod Equation
