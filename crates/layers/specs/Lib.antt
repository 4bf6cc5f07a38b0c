pub mod Held
pub mod Hiding
pub mod Reference
pub mod Sight
pub mod Table
pub mod Views
