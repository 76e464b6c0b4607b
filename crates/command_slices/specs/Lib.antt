pub mod SliceLaws
