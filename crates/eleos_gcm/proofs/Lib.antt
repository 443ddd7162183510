mod Counters
mod Padding
mod HornerRule
mod Fours
mod HashParts
