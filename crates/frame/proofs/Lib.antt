pub mod FieldDigits
pub mod FrameKinds
pub mod LineParts
pub mod LinesPut
