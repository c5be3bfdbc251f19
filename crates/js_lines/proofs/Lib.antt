pub mod ColumnLemmas
pub mod ContentLemmas
pub mod LineLemmas
