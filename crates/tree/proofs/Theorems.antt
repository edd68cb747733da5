-- The demands on build and check, as theorems over what their calls promise.
-- docs/FORMAT.md: "What is proved".
use mathlib.Core.List.{List, ◌++◌, [], ◌∷◌}
use mathlib.Core.Path.{◌≡◌, sym, ap, ◌∙◌, refl}
use mathlib.Core.Logic.{◌↔◌}
use mathlib.Core.Bool.{true, Bool}
use mathlib.Core.Option.{some}
use Prim.Native.Nat.{ℕ, ◌+◌, ◌≤◌, ◌<◌}
use contract.Lifetimes.{Lfts}
use denote.Ref.{Bor, MutBor}
use lib.ListN.{length, get_or, take, drop}
use lib.Seq.{take-append_seam}
use lib.Dec.{leb}
use Rattle.text.specs.Text.{substring}
use Rattle.format.specs.Answers.{replied, build_refusal, build_size, build_buffer, byte_answer, span_refusal, span_buffer}
use Rattle.format.specs.Layout.{Settings, length_ok, sizes_ok, counted_ok, given}
use Rattle.format.specs.Blocks.{tree_of}
use Rattle.format.specs.Layout as at
use Rattle.format.specs.TreeReading.{Path, path_of, text_of, check_result}
use Rattle.format.specs.FittingText.{fits}
use Rattle.format.specs.AnswerLaws.{asks-pass}
use Rattle.theory_built.specs.BlockSizes.{Taken}
use Rattle.theory_accepted.specs.AcceptedTrees.{Represents, accepts, one-text, built-text, built-checked, accepted-represents}
use Rattle.theory_paths.specs.Theorems as paths
use Rattle.theory_edges.specs.Theorems as edges
use Rattle.std.specs.Prelude.{Result, Ok, ⊤}
use Rattle.refusals.specs.declared.Refusal.{Refusal}
use Rattle.refusals.specs.Refusals.{result_refusal}
use Rattle.refusals.specs.RefusalsLaws.{answered-with}
use Rattle.build_by_search.specs.BuildAnswer.{build_reply}
use Rattle.build_by_search.proofs.build.Reads as build-reads
use Rattle.tree.proofs.check.Reads as check-reads

-- r is an answer that the contract of `check` allows to a call on these bytes
abbrev pub Check : (κs : Lfts 1) → Bor (List ℕ) → Result ⊤ Refusal → Type 0
Check κs t r = check-reads.Post κs (t, tt) r (t, tt)

module _ (κs : Lfts 1) (t : Bor (List ℕ)) (r : Result ⊤ Refusal) (c : Check κs t r) where
  -- Demand 3, first part: the check returns no refusal if and only if questions 5 to 8 pass and some text fits whose counts, and in layout 2 edges, are those
  -- of the tree.
  pub check-accepts : (r ≡ Ok tt) ↔ ((T : List ℕ) × Represents t.now T)
  check-accepts = (
    λ e. (accepts t.now).0 (sym c ∙ ap result_refusal e),
    λ s. answered-with r tt (c ∙ (accepts t.now).1 s) (λ y _. refl),
  )

  -- Demand 3: this text is the only one that fits.
  pub check-one-text : r ≡ Ok tt → (T : List ℕ) × Represents t.now T × ((U : List ℕ) → fits U t.now ≡ true → U ≡ T)
  check-one-text e =
      let s = (accepts t.now).0 (sym c ∙ ap result_refusal e) in
      let o = one-text t.now s.1.header-result s.1.linked in
      (s.0, s.1, λ U f. o U f ∙ sym (o s.0 s.1.fitting))

-- What a call of `build` leaves, where questions 1 to 4 let it through.
module _ (S : Settings) (T out : List ℕ) (passed : build_refusal S T out ≡ 0) where
  pub taken : Taken S T
  unfolding build_refusal
  taken =
      let questions : List (ℕ × Bool) = (1, length_ok (length T)) ∷ (2, sizes_ok S) ∷ (3, counted_ok S.counted)
      ∷ (4, leb (length (tree_of S T)) (length out)) ∷ [] in
      let p = asks-pass questions refl passed in
      record { length-ok = p.0; sizes-ok = p.1.0; counted-ok = p.1.1.0 }

  -- The buffer begins with the block tree of the text, and the size is the tree's.
  pub leaves-tree : take (build_size S T out) (build_buffer S T out) ≡ tree_of S T
  unfolding build_size build_buffer
  leaves-tree = rw passed (take-append_seam (tree_of S T) (drop (length (tree_of S T)) out))

-- r is an answer that the contract of `build` allows to a call with these arguments, which leaves the buffer `out` as `after`
abbrev pub Build : (κs : Lfts 3) (text : Bor (List ℕ)) (leaf arity levels : ℕ) (counted : Bor (List ℕ)) (out after : MutBor (List ℕ))
    → Result ℕ Refusal → Type 0
Build κs text leaf arity levels counted out after r =
    build-reads.Post κs (text, (leaf, (arity, (levels, (counted, (out, tt)))))) r (text, (leaf, (arity, (levels, (counted, (after, tt))))))

module _ (κs : Lfts 3) (text : Bor (List ℕ)) (leaf arity levels : ℕ) (counted : Bor (List ℕ)) (out after : MutBor (List ℕ)) (r : Result ℕ Refusal)
    (a : Build κs text leaf arity levels counted out after r) (good : (replied (build_reply r)).number ≡ 0) where
  abbrev S : Settings
  S = given leaf arity levels counted.now

  abbrev T : List ℕ
  T = text.now

  abbrev before : List ℕ
  before = out.now

  -- The part of the buffer that is the tree.
  abbrev tree : List ℕ
  tree = take (replied (build_reply r)).value after.now

  passed : build_refusal S T before ≡ 0
  passed = sym a.0 ∙ good

  -- Demand 2, first part: the bytes written are those of the block tree of the text.
  pub build-writes : tree ≡ tree_of S T
  build-writes = rw (a.1.0, a.1.1) (leaves-tree S T before passed)

  -- Demand 3, last part: the check accepts what build writes.
  pub build-accepted : check_result tree ≡ 0
  build-accepted = rw build-writes (built-checked S T (taken S T before passed))

  -- The text of the built tree is the input.
  pub build-text : text_of tree ≡ T
  build-text = rw build-writes (built-text S T (taken S T before passed))

  represents : Represents tree (text_of tree)
  represents = accepted-represents tree build-accepted

  -- Demand 2, byte: at each place it returns the text's byte and the length of the path, and is not refused.
  pub build-byte : (p : ℕ) → p < at.text_length tree
      → (q : Path) × (path_of tree p ≡ some q) × (byte_answer tree p ≡ record { number = 0; value = get_or T p 0; entered = length q.visits })
  build-byte p h =
      let w = paths.byte-of-text tree represents.header-result represents.linked p h in
      (w.0, w.1, rw build-text at w.2)

  -- Demand 2, span: it copies the bytes of the text.
  pub build-span : (p len : ℕ) (lent : List ℕ) → p + len ≤ at.text_length tree → len ≤ length lent
      → (span_refusal tree p len (length lent) ≡ 0) × (span_buffer tree p len lent ≡ substring T p len ++ drop len lent)
  build-span p len lent h room = (
    edges.span-good tree build-accepted p len (length lent) h room,
    edges.span-of-text tree build-accepted p len lent h room ∙ ap (λ (U : List ℕ). substring U p len ++ drop len lent) build-text,
  )

-- The contract determines the result and the buffer, so they cannot depend on the base or the modulus that a builder uses.
pub build-settled : (κs : Lfts 3) (text : Bor (List ℕ)) (leaf arity levels : ℕ) (counted : Bor (List ℕ)) (out one other : MutBor (List ℕ))
    (r s : Result ℕ Refusal)
    → Build κs text leaf arity levels counted out one r → Build κs text leaf arity levels counted out other s
    → ((replied (build_reply r)).number ≡ (replied (build_reply s)).number) × ((replied (build_reply r)).value ≡ (replied (build_reply s)).value)
    × (one.now ≡ other.now)
build-settled κs text leaf arity levels counted out one other r s p q =
    (p.0 ∙ sym q.0, p.1.0 ∙ sym q.1.0, p.1.1 ∙ sym q.1.1)
