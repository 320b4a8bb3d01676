pub mod Job
pub mod Place
