pub mod Inference
pub mod LineArguments
pub mod LineBits
pub mod LineNames
pub mod FormatLines
pub mod PatternLines
