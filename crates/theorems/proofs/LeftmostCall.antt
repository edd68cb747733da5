-- leftmost(text, place, length, by) and occurs_earlier(..): the leftmost occurrence of the same bytes; Fingerprint::new(base, modulus) makes `by` of any two
-- numbers. `Theorems` of their crate has the theorems on what they return.
use mathlib.Core.Path.{refl}
use Rattle.theorems.specs.PublicFunctions.{fingerprint_new_function, leftmost_function, occurs_earlier_function}
use Rattle.theorems.proofs.PublicCall.{Call, call}
use Rattle.search.proofs.Fingerprint.new.Met as new-met
use Rattle.search.proofs.leftmost.Met as leftmost-met
use Rattle.search.proofs.occurs_earlier.Met as occurs-earlier-met

abbrev pub fingerprint_new_call : Call
fingerprint_new_call = call fingerprint_new_function new-met.met (λ 𝓤 𝓛 mem run κs a. (tt, refl))

abbrev pub leftmost_call : Call
leftmost_call = call leftmost_function leftmost-met.met (λ 𝓤 𝓛 mem run κs a. (tt, refl))

abbrev pub occurs_earlier_call : Call
occurs_earlier_call = call occurs_earlier_function occurs-earlier-met.met (λ 𝓤 𝓛 mem run κs a. (tt, refl))
