pub mod Declines
pub mod Meaning
pub mod Seeking
