pub mod Calls
pub mod Play
pub mod Printed
pub mod Run
pub mod Turns
pub mod Workload
