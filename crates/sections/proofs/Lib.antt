pub mod EditLaws
pub mod LeLaws
pub mod Runs
pub mod AddressLaws
