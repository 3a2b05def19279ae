pub mod Entries
pub mod EmptyGroups
pub mod Knots
pub mod Refusals
pub mod PatternKnots
pub mod Splits
pub mod Commons
pub mod Answers
