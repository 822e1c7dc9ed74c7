pub mod CallEnds
