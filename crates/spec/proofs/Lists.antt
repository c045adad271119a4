-- What a list of calls comes to.
pub mod Trace
pub mod Counts
pub mod Largest
pub mod Passing
pub mod Windows
pub mod Alone
pub mod Printed
pub mod SinceOpen
