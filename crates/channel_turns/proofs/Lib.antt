pub mod AskRuns
pub mod AnswerRuns
pub mod Standings
pub mod Tellings
pub mod Polls
pub mod Counting
pub mod Calls
pub mod Working
