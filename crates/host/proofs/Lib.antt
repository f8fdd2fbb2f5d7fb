-- what all kinds share
pub mod Fitness
pub mod InTurn
pub mod OneEntry
pub mod Adding
-- the dense host
pub mod RowTables
-- the change host
pub mod Told
pub mod Kept
pub mod OneChange
