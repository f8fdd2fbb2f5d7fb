pub mod WorkedSession
pub mod LawCases
pub mod WorkedCases
