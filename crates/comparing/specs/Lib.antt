pub mod Aspects
pub mod Laws
