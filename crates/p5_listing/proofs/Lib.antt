pub mod Plain
pub mod Quick
pub mod Computed
pub mod Complete
pub mod Nodes
pub mod Numbering
pub mod Counts
pub mod Triples
