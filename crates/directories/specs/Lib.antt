pub mod Columns
pub mod Frozen
pub mod Meanings
pub mod Opening
pub mod Slots
pub mod Trees
