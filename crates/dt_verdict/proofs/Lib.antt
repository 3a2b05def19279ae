pub mod FileEntries
pub mod OneVerdict
