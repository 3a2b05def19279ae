pub mod Lines
pub mod Spans
pub mod Places
pub mod Faults
pub mod SoFar
pub mod Gathering
pub mod Numbers
