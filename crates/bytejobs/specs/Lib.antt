pub mod Solvers
