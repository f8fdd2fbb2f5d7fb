pub mod Chains
pub mod Asking
pub mod Entry
pub mod FirstLookup
