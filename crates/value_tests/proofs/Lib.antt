pub mod Alike
pub mod Faces
