mod Replies
pub mod Steps
pub mod Headlines
pub mod Several
mod ChannelLists
pub mod Starting
pub mod OpenedScripts
mod Counting
mod MadeUp
mod Values
mod Answered
mod Wishes
pub mod Requests
pub mod Ranged
