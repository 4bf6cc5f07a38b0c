pub mod Fields
pub mod Grammar
pub mod Said
pub mod Viewed
pub mod Written
