-- What is proved of every public call, whatever it returns: it terminates, it accesses only the memory that it was given, and it has no precondition.
-- docs/FORMAT.md: "What is proved".
use Rattle.std.specs.Prelude.{List, [], ◌∷◌, ◌≡◌}
use seplogic.Ra.Ura.{Ura}
use base.Logic.{SProp, emp}
use prog.Memory.{Memory}
use prog.Routine.{Routine, Callee}
use prog.Wired.{Code}
use types.Logic.{Logic}
use ghost.Model as Closed
use contract.Lifetimes.{Lfts}
use contract.Monad.{Fun}
use denote.Signature.{Signature}
use denote.Triple.Entry.{Args}
use denote.Triple.Spec.{Spec}
use Rattle.theory_adequacy.specs.TotalCorrectness.{Function, MeetsContract, TotallyCorrect, ends}

-- No precondition: the contract requires nothing of a caller, for any lifetimes and arguments.
abbrev pub NoPrecondition : Function → Type 2
NoPrecondition f =
    (𝓤 : Ura Closed.Res) (𝓛 : Logic 𝓤) (mem : Memory → SProp 𝓤) (run : Routine → Fun 𝓤)
    (κs : Lfts f.signature.lifetimes) (a : Args f.signature κs)
    → (g : (f.clauses 𝓤 𝓛 mem run κs a).ghost) × ((f.clauses 𝓤 𝓛 mem run κs a).requires g ≡ emp 𝓤)

-- A call: its function, with the proofs that it is totally correct (`TotallyCorrect`) and has no precondition.
pub record Call : Type 2 where
  pub function : Function
  pub ends : TotallyCorrect function
  pub asks_nothing : NoPrecondition function

-- A call is made of the theorem that the function meets its contract.
abbrev pub call : (f : Function) → MeetsContract f → NoPrecondition f → Call
call f met nothing = record { function = f; ends = ends f met; asks_nothing = nothing }

-- The same for a function given by its parts, as the modules of its crate define them.
abbrev pub call_of : (code : Code) (name : Callee) (s : Signature)
    (clauses : (𝓤 : Ura Closed.Res) (𝓛 : Logic 𝓤) → (Memory → SProp 𝓤) → (Routine → Fun 𝓤) → Spec 𝓤 s)
    → MeetsContract (record { code = code; name = name; signature = s; clauses = clauses })
    → NoPrecondition (record { code = code; name = name; signature = s; clauses = clauses }) → Call
call_of code name s clauses met nothing = call (record { code = code; name = name; signature = s; clauses = clauses }) met nothing

-- It holds of each of some calls.
abbrev pub Each : (Function → Type 2) → List Call → Type 2
Each P [] = Unit {2}
Each P (c ∷ cs) = P c.function × Each P cs

-- Total correctness of each call (`TotallyCorrect`): from any memory that satisfies the precondition and, separately, any other assertion, the run of the call
-- terminates, in a memory that satisfies the postcondition for the returned value, with everything else unchanged.
pub each-ends : (cs : List Call) → Each TotallyCorrect cs
each-ends [] = tt
each-ends (c ∷ cs) = (c.ends, each-ends cs)

pub each-asks-nothing : (cs : List Call) → Each NoPrecondition cs
each-asks-nothing [] = tt
each-asks-nothing (c ∷ cs) = (c.asks_nothing, each-asks-nothing cs)
