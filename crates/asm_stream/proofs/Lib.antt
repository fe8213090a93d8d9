pub mod LineLaws
pub mod Steps
pub mod PieceLaws
pub mod Streaming
