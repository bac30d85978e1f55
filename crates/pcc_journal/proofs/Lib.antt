pub mod Written
pub mod EventsGrow
