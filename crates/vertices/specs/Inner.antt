-- What private functions' contracts cite; no reader of the public ones needs it.
pub mod Small
pub mod Plan
pub mod Lanes
pub mod Capped
