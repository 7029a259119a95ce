pub mod Questions
pub mod Counting
pub mod Puts
pub mod SameItems
pub mod Orders
pub mod PutBack
pub mod Passes
pub mod RulesKept
pub mod InPlace
pub mod Lookups
mod MapOrders
pub mod Appending
pub mod OneMore
