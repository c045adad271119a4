-- Slices that a function is lent, holds and lends on, whole, in part, and local arrays; and the calls that they are lent to.
pub mod Again
pub mod Arrays
pub mod At
pub mod Calls
pub mod Inside
pub mod Lent
pub mod Loans
pub mod Parts
pub mod References
