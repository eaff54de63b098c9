pub mod SizeRanges
pub mod RowRanges
pub mod Valid
pub mod SizeLaws
pub mod Refusals
