mod FrameSteps
mod NumberedSteps
