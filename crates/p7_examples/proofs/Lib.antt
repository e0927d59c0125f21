pub mod Hold
