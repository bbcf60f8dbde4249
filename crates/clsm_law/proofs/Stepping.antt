-- The steps as they are made, what they keep, and which words they touch.
pub mod Words
pub mod Steps
pub mod Stepped
pub mod Machine
pub mod StepsKeep
pub mod SteppedKeeps
pub mod Keeping
pub mod Small
