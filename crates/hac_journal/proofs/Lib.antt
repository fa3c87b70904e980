pub mod AppendLemmas
pub mod CrashLemmas
pub mod FoundLemmas
pub mod LawLemmas
pub mod LogLemmas
pub mod RecordLemmas
pub mod WindowLemmas
