pub mod PublicFunctions
pub mod CallContracts
pub mod Promises
