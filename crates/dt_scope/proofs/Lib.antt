pub mod Widths
pub mod BinaryNumbers
pub mod PatternDigits
pub mod PatternNames
pub mod Gathering
pub mod Fits
pub mod Spelling
