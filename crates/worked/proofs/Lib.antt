pub mod WorkedNumbers
pub mod LawNumbers
