pub mod Cases
pub mod RoundTrip
pub mod Traces
