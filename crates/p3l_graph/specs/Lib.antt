pub mod Boxes
pub mod Frames
pub mod Graph
pub mod Numbered
pub mod Processes
