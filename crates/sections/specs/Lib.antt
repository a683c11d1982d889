pub mod Le
pub mod Edit
pub mod Address
pub mod Lists
