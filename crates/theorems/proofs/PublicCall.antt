-- What is proved of every public call, whatever it returns: it terminates, accesses only the memory that it was given, and has no precondition. Each call has
-- a file. It has, in this order and where it applies: the contract as a relation (`Post`, generated from the contract; `CallContracts` has those that
-- `Promises` names); that the call terminates and has no precondition (`Call`); for any bytes, its answers, its refusals and the caller's buffers afterwards;
-- and for any tree that the check accepts, the proof of its records of `Promises`.
pub use Rattle.theory_adequacy.specs.TotalCorrectness.{Function, TotallyCorrect}
pub use Rattle.theory_adequacy.specs.Preconditions.{NoPrecondition, Call, call, Each, each-ends, each-asks-nothing}
pub use Rattle.theorems.specs.CallContracts.{Borrowed, BorrowedMut}
