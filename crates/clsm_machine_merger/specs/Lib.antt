pub mod MergeReads
