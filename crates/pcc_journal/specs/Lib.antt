pub mod WithSpare
pub mod Records
pub mod JournalText
pub mod Events
pub mod WorkedEvents
