pub mod Hosts
pub mod Calls
pub mod Alike
pub mod Scripts
pub mod Examples
