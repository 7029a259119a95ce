pub mod Listed
pub mod ListedMeaning
pub mod AssembledListing
pub mod ShortestEncoding
pub mod TextCost
pub mod ProgramRules
pub mod TextRelation
pub mod TextRules
