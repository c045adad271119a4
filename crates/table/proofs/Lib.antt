pub mod ChangedCounts
pub mod MovedRecords
pub mod Remaining
