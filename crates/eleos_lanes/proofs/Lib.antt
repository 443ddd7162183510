mod Bits
mod SBoxCircuit
mod Exchange
mod MixedBytes
pub mod Mirrors
mod XorBytes
mod Values
mod RowSums
mod Masks
mod Remainders
mod Lookups
mod Sums
mod Parts
mod Swaps
pub mod Fronts
mod States
mod PowerLemmas
