-- info(tree, figures): the figures of a tree, and version(): the version of the library. `Theorems` of their crate has the theorems on what they return.
use Rattle.std.specs.Prelude.{⊤, Result}
use Rattle.refusals.specs.Refusals.{result_refusal}
use mathlib.Core.List.{[], ◌∷◌}
use mathlib.Core.Path.{refl}
use contract.Lifetimes.{Lfts}
use Rattle.theorems.specs.CallContracts.{Refusal}
use Rattle.theorems.specs.PublicFunctions.{info_function, version_function}
use Rattle.theorems.proofs.PublicCall.{Call, Borrowed, BorrowedMut, call}
use Rattle.theorems.proofs.RefusalNumbers.{OneOf, header-one}
use Rattle.query_info.proofs.info.Met as info-met
use Rattle.query_info.proofs.version.Met as version-met
-- What the contracts allow: `Info κs tree figures after r`, which leaves the figures as `after`, and `Version`.
pub use Rattle.query_info.proofs.Theorems.{Info, Version}

abbrev pub info_call : Call
info_call = call info_function info-met.met (λ 𝓤 𝓛 mem run κs a. (tt, refl))

abbrev pub version_call : Call
version_call = call version_function version-met.met (λ 𝓤 𝓛 mem run κs a. (tt, refl))

-- For any bytes: info returns 0, or 5, 6 or 7.
pub info-numbers : (κs : Lfts 2) (t : Borrowed) (figures after : BorrowedMut) (r : Result ⊤ Refusal) → Info κs t figures after r
    → OneOf (5 ∷ 6 ∷ 7 ∷ 0 ∷ []) (result_refusal r)
info-numbers κs t figures after r a = rw a.0 (header-one t.now)
