pub mod RateLimits
