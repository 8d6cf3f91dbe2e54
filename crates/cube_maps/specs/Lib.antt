pub mod CubeMaps
pub mod Parts
