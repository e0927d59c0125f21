pub mod Listed
pub mod Mirror
pub mod Counts
pub mod Triples
