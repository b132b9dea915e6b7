pub mod ClassLaws
pub mod Words
pub mod Values
pub mod PieceLaws
pub mod TokenLaws
pub mod LoopLaws
pub mod StandsLaws
