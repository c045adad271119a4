pub mod BestClient
pub mod Ratios
pub mod StartsAndSegments
pub mod Columns
pub mod LastOfEach
pub mod Searches
pub mod Fours
