pub mod BodyTrips
pub mod Pages
pub mod Written
