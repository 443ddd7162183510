pub mod Holding
pub mod Refusing
pub mod OnPages
pub mod Complete
pub mod Exchanged
pub mod OwnCalls
pub mod Desking
