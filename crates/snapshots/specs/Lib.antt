pub mod Snapshots
pub mod Tally
pub mod Laws
