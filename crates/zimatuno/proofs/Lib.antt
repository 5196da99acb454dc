pub mod ReadBack
pub mod InCDetermined
