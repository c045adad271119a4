-- The queue's own plan, and the chart as a placing.
pub mod Chart
pub mod Book
pub mod Seat
pub mod Own
pub mod Agree
pub mod Placing
pub mod Words
pub mod Rivals
pub mod Runs
