pub mod RangesCall
