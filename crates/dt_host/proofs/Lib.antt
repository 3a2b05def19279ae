pub mod AlikeHosts
pub mod ScriptCalls
