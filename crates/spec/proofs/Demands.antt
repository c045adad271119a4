-- What is promised: the three demands, stated of the definitions, each under its sentence.
pub mod Words
pub mod Demand1
pub mod Demand2
pub mod Demand3
pub mod AllOpen
pub mod Sessions
