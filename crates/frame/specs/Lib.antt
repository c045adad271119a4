pub mod Digits
pub mod Kinds
pub mod Lines
pub mod LineLengths
pub mod Written
