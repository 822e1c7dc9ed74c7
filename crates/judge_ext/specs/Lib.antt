pub mod ExtParts
