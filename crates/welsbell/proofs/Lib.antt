pub mod ExportLaws
pub mod Lists
pub mod Marks
