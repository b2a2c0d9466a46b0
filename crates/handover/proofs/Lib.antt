mod Heaps
pub mod Balances
