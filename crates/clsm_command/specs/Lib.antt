pub mod Program
pub mod Answers
pub mod Doing
