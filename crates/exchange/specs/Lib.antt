pub mod Exchanges
pub mod RoundTrip
