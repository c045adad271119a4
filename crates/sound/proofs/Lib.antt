pub mod Parts
pub mod RecordTests
pub mod Turns
pub mod Fours
pub mod Pass
pub mod Rooms
pub mod Verdict
pub mod Contents
