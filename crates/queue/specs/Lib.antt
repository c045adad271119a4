pub mod Decision
pub mod Gives
pub mod Placement
pub mod Runs
pub mod Serving
