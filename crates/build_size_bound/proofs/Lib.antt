pub mod SizeBoundLaws
