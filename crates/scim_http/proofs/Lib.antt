pub mod ReplyLaws
pub mod ResponseLaws
pub mod LocationLaws
pub mod MeaningLaws
pub mod NumberLemmas
pub mod SearchLemmas
pub mod SegmentLaws
pub mod SegmentLemmas
