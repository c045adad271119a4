-- Tests, sums and counts.
pub mod Tests
pub mod Sums
pub mod Count
pub mod Sorted
pub mod Hours
