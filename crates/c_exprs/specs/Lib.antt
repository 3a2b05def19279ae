pub mod Exprs
pub mod Spelling
pub mod Forms
pub mod View
pub mod ExprParsing
