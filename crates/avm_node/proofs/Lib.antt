pub mod CallParts
pub mod PoolAnswers
pub mod NodeAnswers
pub mod FullSets
