pub mod OldRanks
