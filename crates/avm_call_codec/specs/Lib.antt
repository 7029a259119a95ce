pub mod CallEncoding
pub mod CallReader
pub mod CallRoundTrip
pub mod WorkedCallBytes
pub mod FaultNames
