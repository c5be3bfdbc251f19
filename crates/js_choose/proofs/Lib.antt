pub mod AtEnd
pub mod Causes
pub mod ChosenLemmas
pub mod KindTables
pub mod LastTokenLemmas
pub mod SessionLemmas
