mod LoadSteps
mod NumberedSteps
mod PlacedSteps
mod Ranges
mod RateSteps
mod Wider
