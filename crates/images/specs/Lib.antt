pub mod Image
pub mod Saving
pub mod Fronts
pub mod Runs
pub mod Claim
pub mod PutBlocks
