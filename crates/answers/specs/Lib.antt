pub mod Letters
pub mod Printed
pub mod Reasons
pub mod Text
