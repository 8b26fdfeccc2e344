pub mod ServicePaths
pub mod Requests
pub mod Spelling
pub mod Answers
pub mod Exchanges
pub mod AnswerLaws
pub mod Codes
