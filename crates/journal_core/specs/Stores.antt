-- What each call of a journal keeps, and which faults the store counts.
pub use Rattle.scim_key.specs.Stores.{HasRisen, CountsFault, CountsFaults, LeavesNoMore, LeavesOr, OnlyReads, WritesOnce, Reopens, IsQuiet}
