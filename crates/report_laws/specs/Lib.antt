pub mod Mask
pub mod Made
pub mod Divided
pub mod Filled
