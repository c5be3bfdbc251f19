pub mod Faults
pub mod KindTables
pub mod LastTokens
pub mod Operands
pub mod Rules
