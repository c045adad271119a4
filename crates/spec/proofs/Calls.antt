-- What each call does: its kind, refusals, soundness, the victim, the chart.
pub mod CallKinds
pub mod Refused
pub mod Victim
pub mod Keeps
pub mod Fair
pub mod LatestSlots
pub mod Segments
pub mod AllOpen
pub mod Widths
