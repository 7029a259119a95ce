pub mod Binding
pub mod Fronts
pub mod Base32Groups
pub mod Base32Bytes
pub mod Base32Law
pub mod AddressLaw
mod Rows
pub mod FaultsNumbered
