pub mod Acceptance
pub mod Laws
pub mod Calls
pub mod Lists
pub mod Demands
