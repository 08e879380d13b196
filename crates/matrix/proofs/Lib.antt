-- `Sums` and `Signs`: laws of sums and of signed residues; `Windows`: a product with only some terms counted, and the
-- full one; `Written`: terms that are written, entry by entry; `Runs`, `Lines`, `Entries`: one term of a product, and
-- the terms of an entry one by one; `Blocks`, `Triangles`, `Shapes`: the terms of an entry all at once; `Products`: the
-- entries; `Copies`, `Integrals`: the steps of a copy and of an integral; `Coefficients`: what a caller goes on with;
-- `Unique`: what the contracts fix.
pub mod Sums
pub mod Signs
pub mod Windows
pub mod Written
pub mod Runs
pub mod Lines
pub mod Entries
pub mod Blocks
pub mod Triangles
pub mod Shapes
pub mod Products
pub mod Copies
pub mod Integrals
pub mod Coefficients
pub mod Unique
