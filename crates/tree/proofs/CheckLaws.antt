-- The result of the check, question by question.
use mathlib.Core.List.{List}
use mathlib.Core.Bool.{true, false}
use mathlib.Core.Path.{◌≡◌, sym, ◌∙◌}
use Prim.Native.Nat.{ℕ}
use Rattle.format.specs.TreeReading.{links_ok, text_of, counts_true, edges_true, check_result}
use Rattle.format.specs.CheckResultLaws.{checked-header, checked_refused}
use Rattle.layout.specs.declared.header.Header.{Header}
use Rattle.std.specs.Prelude.{Result, Err}
use Rattle.refusals.specs.declared.Refusal.{Refusal}
use Rattle.refusals.specs.Refusals.{refusal_number}
use Rattle.layout.specs.Header.{header_answer}
use Rattle.layout.specs.HeaderFields.{HeaderOf, header_refused}

module _ (t : List ℕ) where
  -- A refusal of the header is the result of the check.
  pub header-number : (x : Result Header Refusal) (q : Refusal) → x ≡ header_answer t → x ≡ Err q → refusal_number q ≡ check_result t
  header-number x q is e =
      let z = header_refused t x is q e in
      z.2 ∙ sym (checked_refused t z.0 z.1)

  module _ (h : Header) (k : HeaderOf t h) where
    pub links-fail : links_ok t ≡ false → 8 ≡ check_result t
    links-fail f = rw (checked-header t k.passes, f)

    module _ (links : links_ok t ≡ true) where
      pub counts-fail : counts_true (text_of t) t ≡ false → 9 ≡ check_result t
      counts-fail f = rw (checked-header t k.passes, links, f)

      module _ (counts : counts_true (text_of t) t ≡ true) where
        pub edges-fail : edges_true (text_of t) t ≡ false → 9 ≡ check_result t
        edges-fail f = rw (checked-header t k.passes, links, counts, f)

        pub edges-hold : edges_true (text_of t) t ≡ true → 0 ≡ check_result t
        edges-hold f = rw (checked-header t k.passes, links, counts, f)
