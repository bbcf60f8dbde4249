pub mod MergingTests
pub mod MergingNumbers
pub mod MergingSources
pub mod MergingRuns
pub mod MergingDecision
pub mod MergingWritten
