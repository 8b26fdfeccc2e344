-- What carries a journal over from an older format.
pub mod CarryTexts
pub mod Copying
pub mod Carrying
pub mod Keeping
pub mod Carried
pub mod Ending
pub mod Firsts
pub mod Seconds
pub mod Moving
pub mod MakingTexts
pub mod Made
