pub mod Lawful
pub mod Walk
pub mod Spans
pub mod Descended
pub mod Measured
pub mod Leaves
pub mod Sizes
pub mod Trees
