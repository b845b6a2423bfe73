pub mod Scanning
pub mod Forms
pub mod Chains
