pub mod Change
pub mod Content
pub mod Causes
pub mod Calls
pub mod MemSource
pub mod MemSink
pub mod MemFiles
