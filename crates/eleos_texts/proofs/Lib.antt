pub mod Answers
mod DigitValues
mod Ended
mod HexPairs
pub mod Inversion
mod Numerals
mod Others
pub mod Texts
