pub mod Charted
pub mod Scans
pub mod Fours
