pub mod ExprLayout
pub mod Marked
pub mod Lines
pub mod Printed
pub mod Examples
