pub mod Typed
pub mod Traces
pub mod AmongTyped
pub mod Among
pub mod AmongSeveral
pub mod Calls
pub mod Moves
pub mod Resets
