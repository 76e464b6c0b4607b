pub mod ListedLaws
pub mod Pieces
pub mod PieceLaws
