-- Document 01, "Session lines".
pub mod Frames
pub mod Session
pub mod Printed
