pub mod FirstByteLaws
