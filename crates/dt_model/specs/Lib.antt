pub mod Options
pub mod Patterns
pub mod Trees
pub mod SetOrder
pub mod View
pub mod Models
pub mod Sound
