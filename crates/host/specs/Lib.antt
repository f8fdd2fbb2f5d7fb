pub mod Holdings
pub mod Entries
-- the dense host
pub mod Dense
pub mod DenseHosts
pub mod DenseLemmas
-- the change host
pub mod Changes
pub mod ChangeHosts
pub mod ChangesLemmas
-- sums
pub mod Sums
pub mod SumsLemmas
