-- `Bytes`: words read and written one by one; `Verdicts`: lists of rules of which a part is silent; `Carry`: the
-- outcome of a job on words is that of the job on the bytes that carry them; `Unique`: what the contracts fix.
pub mod Bytes
pub mod Verdicts
pub mod Carry
pub mod Unique
