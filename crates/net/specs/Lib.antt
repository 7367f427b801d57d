pub mod Largest
pub mod Limits
pub mod Lowest
pub mod Routes
pub mod Marks
pub mod Checked
pub mod Proper
