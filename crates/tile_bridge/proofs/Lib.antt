mod Common
pub mod AddLemmas
pub mod BaseLemmas
pub mod ConvertLemmas
pub mod FewAddLemmas
pub mod FoldLemmas
pub mod FillingLemmas
pub mod LeavesLemmas
pub mod Members
pub mod OutcomeLemmas
pub mod PatchedRows
pub mod ReadingBackLemmas
pub mod ResolveLemmas
pub mod SizeLemmas
pub mod StandsLemmas
pub mod StoreLemmas
pub mod WritingLemmas
