-- Theorems over the contract of `without_edges`, for any bytes given as a tree and any buffer.
use mathlib.Core.List.{List, ◌++◌}
use mathlib.Core.Bool.{true}
use mathlib.Core.Path.{◌≡◌, refl, sym, ap, ◌∙◌}
use mathlib.Core.Logic.{◌⊎◌, inl, inr}
use Rattle.text.specs.ListLaws.{lt-or-ge}
use Prim.Native.Nat.{ℕ, zero, suc, ◌≤◌, ◌<◌}
use native.Mathlib.Omega.{arith}
use native.Mathlib.Nat.{le_trans}
use contract.Lifetimes.{Lfts}
use denote.Ref.{Bor}
use denote.MutBor.{MutBor}
use lib.ListN.{length, take, drop}
use lib.Seq.{take_at}
use borrow.Author.Tests.{le-leb, lt-leb, ne_eqb}
use Rattle.format.specs.Answers.{replied, byte_answer}
use Rattle.format.specs.Layout.{Settings}
use Rattle.format.specs.Blocks.{tree_of}
use Rattle.format.specs.Layout as at
use Rattle.format.specs.TreeReading.{links_ok, text_of, counts_true, ask, header_result, check_result}
use Rattle.format.specs.FittingText.{fits}
use Rattle.theory_built.specs.BlockSizes.{Taken}
use Rattle.theory_without_edges.specs.WithoutEdges.{edgeless_layout, without_edges}
use Rattle.build_without_edges.specs.WithoutEdgesAnswers.{without_edges_refusal, without_edges_size, without_edges_buffer, without_edges_reply}
use Rattle.theory_without_edges.specs.TreeInLayout.{tree_in}
use Rattle.theory_without_edges.specs.TreesAgree.{Agree}
use Rattle.theory_without_edges.proofs.Layout1Accepted as layout1
use Rattle.std.specs.Prelude.{Result, Ok, Err}
use Rattle.refusals.specs.declared.Refusal.{Refusal}
use Rattle.refusals.specs.declared.Refusal.TheVariants.{AnswerDoesNotFit}
use Rattle.refusals.specs.Refusals.{refusal_number}
use Rattle.refusals.specs.RefusalsLaws.{number-above, one-number}
use Rattle.build_without_edges.proofs.without_edges.Reads as reads

abbrev pub Layout1Lent : Type 0
Layout1Lent = Bor (List ℕ)

-- The contract of `without_edges` allows a call with these arguments to return r and leave the buffer as `after`.
abbrev pub WithoutEdges : Lfts 2 → (t : Layout1Lent) (out after : MutBor (List ℕ)) → Result ℕ Refusal → Type 0
WithoutEdges κs t out after r = reads.Post κs (t, (out, tt)) r (t, (after, tt))

-- Refusal and size determine the answer.
layout1-refusal : (r : Result ℕ Refusal) (q : ℕ) → (replied (without_edges_reply r)).number ≡ suc q → (e : Refusal) × (r ≡ Err e) × (refusal_number e ≡ suc q)
layout1-refusal (Ok n) q is = absurd (let z : ⊥ = omega arith in z)
layout1-refusal (Err e) q is = (e, refl, is)

layout1-refused-is : (r : Result ℕ Refusal) (e : Refusal) → (replied (without_edges_reply r)).number ≡ refusal_number e → r ≡ Err e
layout1-refused-is (Ok n) e is = absurd (let z : ⊥ = omega (arith, number-above e) in z)
layout1-refused-is (Err d) e is = ap Err (one-number d e is)

layout1-size-is : (r : Result ℕ Refusal) (m : ℕ) → (replied (without_edges_reply r)).number ≡ 0 → (replied (without_edges_reply r)).value ≡ m → r ≡ Ok m
layout1-size-is (Ok n) m none e = rw e
layout1-size-is (Err d) m none e = absurd (let z : ⊥ = omega (arith, number-above d) in z)

module _ (κs : Lfts 2) (t : Layout1Lent) (out after : MutBor (List ℕ)) (r : Result ℕ Refusal) (a : WithoutEdges κs t out after r) where
  -- A tree that fails question 5, 6 or 7 is refused with its number; the buffer is unchanged.
  pub refused-unreadable : (q : ℕ) → header_result t.now ≡ suc q → (e : Refusal) × (r ≡ Err e) × (refusal_number e ≡ suc q) × (after.now ≡ out.now)
  unfolding without_edges_buffer without_edges_refusal
  refused-unreadable q e =
      let fails = ne_eqb (suc q) 0 (λ z. omega arith) in
      let z = layout1-refusal r q (a.0 ∙ rw (e, fails)) in
      (z.0, z.1, z.2, a.1.1.0 ∙ rw (e, fails, fails))

  -- Otherwise a buffer that is too small is refused with 13 and unchanged.
  pub refused-room : header_result t.now ≡ 0 → length out.now < length (without_edges t.now) → (r ≡ Err AnswerDoesNotFit) × (after.now ≡ out.now)
  unfolding without_edges_buffer without_edges_refusal
  refused-room pass short =
      let fails = lt-leb (length (without_edges t.now)) (length out.now) short in
      (layout1-refused-is r AnswerDoesNotFit (a.0 ∙ rw (pass, fails)), a.1.1.0 ∙ rw (pass, fails))

  -- Otherwise the tree is written to the start of the buffer, its size is returned, and the bytes after it are unchanged.
  pub written-tree : header_result t.now ≡ 0 → length (without_edges t.now) ≤ length out.now
      → (r ≡ Ok (length (without_edges t.now))) × (after.now ≡ without_edges t.now ++ drop (length (without_edges t.now)) out.now)
  unfolding without_edges_buffer without_edges_refusal without_edges_size
  written-tree pass room =
      let fits = le-leb (length (without_edges t.now)) (length out.now) room in (
        layout1-size-is r _ (a.0 ∙ rw (pass, fits)) (a.1.0 ∙ rw (pass, fits)),
        a.1.1.0
            ∙ rw (pass, fits),
      )

  -- A buffer of the tree's size is large enough.
  pub tree-size-suffices : header_result t.now ≡ 0 → length t.now ≤ length out.now → r ≡ Ok (length (without_edges t.now))
  tree-size-suffices pass room = (written-tree pass (le_trans (layout1.layout1-shorter t.now pass) room)).0

  -- A returned size means that the tree passes questions 5 to 7 and fits.
  size-cases : (n : ℕ) → r ≡ Ok n → (header_result t.now ≡ 0) × (length (without_edges t.now) ≤ length out.now)
  size-cases n e = go (header_result t.now) refl (lt-or-ge (length out.now) (length (without_edges t.now)))
    where
      go : (x : ℕ) → header_result t.now ≡ x → (length out.now < length (without_edges t.now)) ⊎ (length (without_edges t.now) ≤ length out.now)
          → (header_result t.now ≡ 0) × (length (without_edges t.now) ≤ length out.now)
      go zero pass (inl short) = let z = sym e ∙ (refused-room pass short).0 in cc
      go zero pass (inr room) = (pass, room)
      go (suc q) stops y = let z = sym e ∙ (refused-unreadable q stops).1 in cc

  -- u is the written tree, given to another call.
  module _ (n : ℕ) (e : r ≡ Ok n) (u : Layout1Lent) (is : u.now ≡ take n after.now) where
    pass : header_result t.now ≡ 0
    pass = (size-cases n e).0

    room : length (without_edges t.now) ≤ length out.now
    room = (size-cases n e).1

    same_size : n ≡ length (without_edges t.now)
    same_size = size-answered n _ (sym e ∙ (written-tree pass room).0)
      where
        size-answered : (x y : ℕ) → ◌≡◌ {A = Result ℕ Refusal} (Ok x) (Ok y) → x ≡ y
        size-answered x y c = cc

    pub lent-on : u.now ≡ without_edges t.now
    lent-on =
        is ∙ rw ((written-tree pass room).1, same_size)
        (take_at (without_edges t.now) (drop (length (without_edges t.now)) out.now) (length (without_edges t.now)) refl)

    -- The written tree passes questions 5 to 7, its layout is 1, and all other fields are those of the tree.
    pub written-header : (header_result u.now ≡ 0) × (at.layout u.now ≡ 1) × (Agree t.now u.now)
    written-header =
        let b = a.1.1.1 in
        rw lent-on (layout1.layout1-header t.now b pass, layout1.layout1-layout t.now b pass, layout1.layout1-agrees t.now b pass)

    -- The written tree has the tree's text, `byte` returns the same, and the check returns what it returns for the tree if edges are ignored.
    pub written-text : text_of u.now ≡ text_of t.now
    written-text = rw lent-on (layout1.layout1-text t.now a.1.1.1 pass)

    pub written_byte : (p : ℕ) → byte_answer u.now p ≡ byte_answer t.now p
    written_byte p = rw lent-on (layout1.layout1-byte t.now a.1.1.1 pass p)

    pub written-checked : check_result u.now ≡ ask 8 (links_ok t.now) (ask 9 (counts_true (text_of t.now) t.now) 0)
    written-checked = rw lent-on (layout1.layout1-checked t.now a.1.1.1 pass)

    -- The written tree is never larger than the tree, and equal to a tree of layout 1.
    pub written-shorter : length u.now ≤ length t.now
    written-shorter = rw lent-on (layout1.layout1-shorter t.now pass)

    pub written_same : at.layout t.now ≡ 1 → u.now ≡ t.now
    written_same one = lent-on ∙ layout1.layout1-same t.now a.1.1.1 pass one

    -- If the check accepts the tree, it accepts the written tree, and only the tree's text fits.
    module _ (v : check_result t.now ≡ 0) where
      pub written-accepted : check_result u.now ≡ 0
      written-accepted = rw lent-on (layout1.layout1-accepted t.now a.1.1.1 v)

      pub written-only : (T : List ℕ) → fits T u.now ≡ true → T ≡ text_of t.now
      written-only T f = layout1.layout1-only t.now a.1.1.1 v T (rw lent-on at f)

    -- If the tree is the built tree of a text, the written tree is the block tree of that text in layout 1.
    pub written-built : (S : Settings) (T : List ℕ) → Taken S T → t.now ≡ tree_of S T → u.now ≡ tree_in edgeless_layout S T
    written-built S T h b = lent-on ∙ rw b (layout1.built-layout1 S T h)
