-- What the parts of each call come to together: what its definition says.
pub mod Replies
pub mod Refusals
pub mod Open
pub mod Tick
pub mod Report
pub mod Chart
pub mod Decision
pub mod Deadlines
pub mod Victim
pub mod Searches
pub mod Placement
pub mod Submit
