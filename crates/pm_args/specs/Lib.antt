pub mod Words
pub mod Jobs
pub mod JobViews
pub mod Inside
