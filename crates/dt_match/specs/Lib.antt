pub mod FieldValues
pub mod Arguments
pub mod Trial
pub mod Readable
pub mod Matching
pub mod ScriptTrials
pub mod Examples
