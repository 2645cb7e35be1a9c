pub mod ScriptRules
pub mod LawProofs
