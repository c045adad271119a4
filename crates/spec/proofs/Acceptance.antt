-- What the definitions compute: document 01's worked reads and sessions, the refusals in order, damaged tables, a list read off, an open's marks.
pub mod Computed
pub mod Cases
pub mod Sessions
pub mod Refusals
pub mod Damaged
pub mod ReadOff
pub mod Printed
pub mod Marks
