pub mod Reply
pub mod Matches
pub mod Open
pub mod Submit
pub mod Tick
pub mod Report
pub mod Chart
