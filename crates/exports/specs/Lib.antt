pub mod Told
pub mod Passed
pub mod Buffers
pub mod Unify
pub mod Attributes
pub mod Editing
