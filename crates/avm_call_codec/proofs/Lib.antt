pub mod CallBack
pub mod CallEncoded
pub mod CallRead
