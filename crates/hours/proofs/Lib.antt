pub mod Sums
pub mod MarkedHours
pub mod Counts
pub mod OpenSlots
pub mod Lines
pub mod Stretches
