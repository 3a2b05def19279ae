pub mod OneDue
pub mod Refusing
pub mod Loading
pub mod Sources
pub mod Contents
pub mod Right
pub mod RunLines
pub mod Evaluating
