pub mod Folding
pub mod Forms
pub mod Signs
