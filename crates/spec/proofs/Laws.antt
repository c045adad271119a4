-- Laws of the definitions, by which all theorems reason.
pub mod Every
pub mod Layout
pub mod Order
pub mod Room
pub mod Feasible
pub mod Places
pub mod Entries
pub mod Clients
pub mod Sound
pub mod Accepted
pub mod Digits
pub mod Answers
