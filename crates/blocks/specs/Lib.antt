pub mod Block
pub mod Close
pub mod LocalsSteady
pub mod Room
pub mod State
