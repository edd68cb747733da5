pub mod ScanStepLaws
