pub mod Answered
pub mod Feeding
pub mod Lent
pub mod Parts
pub mod Standing
