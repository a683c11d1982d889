-- What private functions' contracts cite; no reader of the public ones needs it.
pub mod Small
pub mod View
pub mod Measure
pub mod Measured
pub mod HallRecords
pub mod Order
pub mod Judging
pub mod Counting
pub mod Walk
pub mod Seeking
pub mod NewIndices
pub mod Taking
pub mod Spans
pub mod Kinds
