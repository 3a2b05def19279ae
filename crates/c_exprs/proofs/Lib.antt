pub mod Views
pub mod Fits
pub mod SegmentsRead
pub mod FoldsRead
pub mod FoldLoops
pub mod ConstantsRead
pub mod ConstantWords
pub mod ExprsRead
