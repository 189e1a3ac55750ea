pub mod Apart
pub mod Beside
pub mod Given
pub mod Moved
pub mod Moving
pub mod Rising
