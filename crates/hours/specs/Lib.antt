pub mod Week
