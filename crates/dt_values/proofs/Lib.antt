pub mod NameText
pub mod Parts
pub mod StoredRanges
pub mod ArgumentItems
