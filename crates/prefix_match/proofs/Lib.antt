pub mod PrefixStateLaws
pub mod PrefixRecognized
pub mod PrefixScanLaws
