mod ComparisonSteps
pub mod Steps
pub mod WriteSteps
pub mod FeedSteps
pub mod TraceSteps
pub mod FiringSteps
pub mod StartSteps
pub mod RunSteps
pub mod StoppedSteps
pub mod ExecutionSteps
pub mod TimedSteps
pub mod ReplaySteps
