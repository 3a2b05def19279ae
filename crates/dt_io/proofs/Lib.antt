pub mod Extending
pub mod Reporting
pub mod ByName
pub mod Named
pub mod Places
pub mod FirstPlace
pub mod Distinct
