-- What a proved contract means on the machine: a call terminates from which memories, and what happens to the rest of the memory. It is the adequacy theorem
-- of the logic for its closed model, so there are no assumptions left: the machine is the one that gives the code its meaning.
use Rattle.std.specs.Prelude.{◌≡◌, ℕ}
use Rattle.std.proofs.Math.Option.{some}
use Rattle.std.proofs.Math.Logic.{∥∥₁_prop, ∥∥₁_elim, ∥∥₁_map}
use seplogic.Ra.Ura.{Ura}
use mir.Syntax.{Ty, Symbol}
use mir.Val.{Val}
use base.Logic.{SProp, sep, via, assoc', comm∗, fst∗, guard, guard_e}
use Rattle.std.specs.Borrow.{Share}
use prog.Memory.{Memory, load_m}
use prog.Machine.{Program, done, call_m}
use prog.Model.{Model}
use prog.Routine as routine
use prog.Routine.{Routine, Callee, Env, machine, machine_ran}
use prog.Wired.{Code, Wired}
use prog.Linked as linked
use prog.Linked.{Entry, Has-Wired, in_program, machine-Follows, tie, tie-Follows}
use types.Logic.{Logic}
use ghost.Model as Closed
use contract.Closed.{model⁺, real⁺, real⁺_strict}
use contract.Monad.{Fun, fact_i}
use contract.Running as run
use contract.Running.{Running, tables}
use contract.BorrowModel.{logic₀}
use contract.Adequate.{Satisfies, sat_weaken, sat_fact}
use denote.Signature.{Signature}
use denote.Triple.Statement.{Contract}
use denote.Triple.Spec.{Spec, triple_of, Meets}
use denote.Triple.Adequate.{adequate}

-- What an assertion is here, and when a memory satisfies it. The model is the closed model of the logic, with the token of the one thread that runs.
abbrev pub Assertion : Type 2
Assertion = SProp Closed.𝓤

abbrev pub Holds : Memory → Assertion → Type 1
Holds = Satisfies Closed.𝓤 Closed.H model⁺

abbrev pub ◌∗◌ : Assertion → Assertion → Assertion
P ∗ Q = sep Closed.𝓤 P Q

infixr 35 ◌∗◌
-- The cell at place o of block b contains w; the share q of it is owned.
abbrev pub Cell : Share → Ty → (b o : ℕ) → Val → Assertion
Cell q ty b o w = (Closed.H).at q ty b o w

-- What a cell holds is what the machine loads from there.
loads : (σ : Memory) (P : Assertion) (q : Share) (ty : Ty) (b o : ℕ) (w : Val) → Holds σ (P ∗ Cell q ty b o w) → ∥ load_m σ ty b o ≡ some w ∥₁
loads σ P q ty b o w s =
    let cell = Cell q ty b o w in
    let mem = model⁺.mem σ in
    let there : Type 0 = load_m σ ty b o ≡ some w in
    sat_fact Closed.𝓤 Closed.H model⁺ σ (cell ∗ P) there
    (via Closed.𝓤 ((mem ∗ cell) ∗ P) (assoc' Closed.𝓤 mem cell P)
    (via Closed.𝓤 (mem ∗ cell) (fst∗ Closed.𝓤 (mem ∗ cell) P)
    (via Closed.𝓤 (guard Closed.𝓤 there (mem ∗ cell)) (model⁺.at_load σ q ty b o w)
    (guard_e Closed.𝓤 there (mem ∗ cell) (λ e. fact_i Closed.𝓤 there (mem ∗ cell) e)))))
    (sat_weaken Closed.𝓤 Closed.H model⁺ σ (comm∗ Closed.𝓤 P cell) s)

-- A function of a crate: its code, with the code of each function that it calls, and the name by which it is called; its signature and contract, as its module
-- states them for every model.
pub record Function : Type 2 where
  pub code : Code
  pub name : Callee
  pub signature : Signature
  pub clauses : (𝓤 : Ura Closed.Res) (𝓛 : Logic 𝓤) → (Memory → SProp 𝓤) → (Routine → Fun 𝓤) → Spec 𝓤 signature

-- How the machine runs a routine: one thread, which the process never stops.
abbrev pub running : Running Closed.𝓤 Closed.H model⁺
running = real⁺

module _ (f : Function) where
  -- The contract at the machine.
  abbrev pub call : Contract Closed.𝓤
  call = triple_of logic₀ f.signature (f.clauses Closed.𝓤 logic₀ model⁺.mem running.returns)

  -- That a function meets its contract, as its module states it: in every model, and wherever its name means its code (`Wired`).
  abbrev pub MeetsContract : Type 2
  MeetsContract = (𝓤 : Ura Closed.Res) (𝓛 : Logic 𝓤) (𝓜 : Model 𝓤 𝓛.H) (𝓡 : Running 𝓤 𝓛.H 𝓜)
      → Wired 𝓡.env f.code → Meets 𝓛 f.signature (𝓡.run (𝓡.env f.name)) (f.clauses 𝓤 𝓛 𝓜.mem 𝓡.returns)

  -- A run of a routine on the arguments of a call, from the memory σ: it ends after some number n of steps with a value v, in a memory that satisfies the
  -- postcondition for v and F.
  abbrev pub Ends : Routine → call.Ghost → Memory → Assertion → Type 1
  Ends r x σ F = ∥ ((n : ℕ) × (v : Val) × (σ' : Memory) × (routine.step r n (call.args x) σ ≡ done (v, σ')) × Holds σ' (call.post x v ∗ F)) ∥₁

  -- Total correctness with a frame, for demand 1 (docs/FORMAT.md, "What is proved"). Let the environment γ, which gives each name a routine, have the code of
  -- the function (`Wired`): each step of the machine on a call is then that of the code. Let a memory satisfy the precondition of the call (`call.pre x`: what
  -- the types of the parameters own and what the contract requires) and, separately, any assertion F. Then the run terminates after some number n of steps
  -- with a value v, in a memory that satisfies the postcondition for v and the same F. x has the lifetimes, the arguments and their machine values.
  abbrev pub TotallyCorrect : Type 2
  TotallyCorrect = (γ : Env) → Wired γ f.code → (x : call.Ghost) (σ : Memory) (F : Assertion) → Holds σ (call.pre x ∗ F) → Ends (γ f.name) x σ F

  -- A function that meets its contract ends.
  pub ends : MeetsContract → TotallyCorrect
  ends met γ wired =
      adequate Closed.𝓤 Closed.H model⁺ (tables Closed.𝓤 Closed.H model⁺ running γ) real⁺_strict f.name call
      (met Closed.𝓤 logic₀ model⁺ (run.within Closed.𝓤 Closed.H model⁺ running γ) wired)

  -- So all other memory is unchanged: a cell outside the memory of the call has the same contents after it, and the machine loads them from there.
  pub frame : TotallyCorrect → (γ : Env) → Wired γ f.code
      → (x : call.Ghost) (σ : Memory) (q : Share) (ty : Ty) (b o : ℕ) (w : Val) → Holds σ (call.pre x ∗ Cell q ty b o w)
      → ∥ ((n : ℕ) × (v : Val) × (σ' : Memory) × (routine.step (γ f.name) n (call.args x) σ ≡ done (v, σ')) × (load_m σ' ty b o ≡ some w)) ∥₁
  frame e γ wired x σ q ty b o w s =
      ∥∥₁_elim (e γ wired x σ (Cell q ty b o w) s) ∥∥₁_prop (λ r. ∥∥₁_map (loads r.2 (call.post x r.1) q ty b o w r.4) (λ l. (r.0, r.1, r.2, r.3, l)))

  -- So the call ends in every program that has the code: on the program P the machine's own steps are `call_m n P`.
  pub ends_in_program : TotallyCorrect → (P : Program) → linked.Has (in_program P) f.code
      → (x : call.Ghost) (σ : Memory) (F : Assertion) → Holds σ (call.pre x ∗ F)
      → ∥ ((n : ℕ) × (v : Val) × (σ' : Memory) × (call_m n P f.name (call.args x) σ ≡ done (v, σ')) × Holds σ' (call.post x v ∗ F)) ∥₁
  ends_in_program e P has x σ F s =
      ∥∥₁_map (e (machine P) (Has-Wired (in_program P) (machine P) (machine-Follows P) f.code has) x σ F s)
      (λ r. (r.0, r.1, r.2, machine_ran P f.name r.0 (call.args x) σ r.3, r.4))

  -- And wherever names are looked up, in a program with foreign functions too, if the look-up finds the code.
  pub ends_where_found : TotallyCorrect → (look : Symbol → Entry) → linked.Has look f.code
      → (x : call.Ghost) (σ : Memory) (F : Assertion) → Holds σ (call.pre x ∗ F) → Ends (tie look f.name) x σ F
  ends_where_found e look has = e (tie look) (Has-Wired look (tie look) (tie-Follows look) f.code has)
