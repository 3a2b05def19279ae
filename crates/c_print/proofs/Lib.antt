pub mod WordEnds
pub mod ExprTokens
pub mod LineTokens
pub mod StmtTokens
pub mod LoadTokens
pub mod ProgramTokens
