pub mod Ledgers
pub mod Orderly
pub mod Calls
pub mod KnownValues
pub mod LedgerLooks
