pub mod GridBytes
