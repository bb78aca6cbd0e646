pub mod Copy
pub mod CopyCells
