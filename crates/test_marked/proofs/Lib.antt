pub mod MarkedNumbers
