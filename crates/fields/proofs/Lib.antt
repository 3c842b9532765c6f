pub mod TypedLines
