pub mod LetterCalls
pub mod MethodCalls
pub mod CompositionCalls
pub mod SpellerCalls
pub mod LineCalls
pub mod Counts
pub mod Header
