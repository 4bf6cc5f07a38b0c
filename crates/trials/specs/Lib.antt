pub mod Generator
pub mod Table
