-- `Division` is what callers read; `Steps` is what the private functions promise.
pub mod Division
pub mod Steps
