pub mod Failures
pub mod Program
