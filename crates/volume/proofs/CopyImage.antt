-- A copy of an image.
pub mod CopiedImages
pub mod CopyOrder
