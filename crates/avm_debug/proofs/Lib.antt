pub mod OpenedLive
pub mod CallsBefore
