pub mod BlockLemmas
pub mod CutLemmas
pub mod FileLemmas
pub mod PaddingLemmas
