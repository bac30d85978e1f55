pub mod Polls
