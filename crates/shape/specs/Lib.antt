pub mod Shape
