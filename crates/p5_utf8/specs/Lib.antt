pub mod Rfc3629
