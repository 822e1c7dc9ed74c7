pub mod Lent
mod Comp
