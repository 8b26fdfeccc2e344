pub mod KeyLemmas
pub mod RecordLaws
pub mod IdLemmas
pub mod BaseLemmas
pub mod RevisionLaws
