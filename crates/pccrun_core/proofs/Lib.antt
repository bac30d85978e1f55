mod Woven
mod Weavable
mod Refused
mod OneScript
mod Audits
mod Counting
mod Small
mod Ranges
mod Packaged
mod Tops
mod OneLine
mod OneAnswer
pub mod Headlined
