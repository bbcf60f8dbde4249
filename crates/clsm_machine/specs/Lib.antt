pub mod MachineState
pub mod StepWords
