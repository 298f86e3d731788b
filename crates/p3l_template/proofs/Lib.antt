pub mod Within
pub mod Slots
pub mod PipeSteps
pub mod LineSteps
pub mod FanSlots
pub mod StageSlots
