pub mod Begin
pub mod Cells
pub mod Frames
pub mod State
pub mod Contexts
pub mod Step
pub mod Run
