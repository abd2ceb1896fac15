-- What stays of a graph where what passes together is one value.
use Rattle.std.proofs.Common.{◌≡◌, ℕ, Bool, true, false, List, [], ◌∷◌, ◌++◌, map, flat_map, refl, ap₂}
use Rattle.std.specs.Prelude.{◌&&◌}
use Rattle.std.specs.List.{list_all}
use Rattle.std.proofs.lemmas.Bool.{and_parts, and_from}
use Rattle.dcc_ir.specs.declared.syntax.Loc.{Loc}
use Rattle.dcc_ir.specs.declared.syntax.Loc.TheVariants.{Half, Flag, Cell, Temp}
use Rattle.dcc_ir.specs.Tree.{Stmt, Set, Fetch, Store, Div, Call, Dos, Block, Graph}
use Rattle.dcc_ir.specs.FlagReads.{nests_flatly, loads_plainly, FlagsReadPlainly}
use Rattle.dcc_signatures.specs.declared.packing.Fresh.{Fresh}
use Rattle.dcc_signatures.specs.declared.packing.Packing.TheVariants.{Apart, Word, Double}
use Rattle.dcc_signatures.specs.Packed.{packing_of, taking_part, taking_parts, value_places, pack_stmt, pack_block}
use Rattle.dcc_signatures.specs.Packed.{fresh_after, pack_graph}
use Rattle.dcc_pipe.proofs.TrimmedLaws.{changed-pass}

all-joined : {A : Type 0} (test : A → Bool) (xs ys : List A) → list_all test xs ≡ true → list_all test ys ≡ true
    → list_all test (xs ++ ys) ≡ true
all-joined test [] ys first second = second
all-joined test (x ∷ xs) ys first second =
    let parts = and_parts (test x) (list_all test xs) first in
    and_from (test x) (list_all test (xs ++ ys)) parts.0 (all-joined test xs ys parts.1 second)

-- what all elements pass, those that come of them pass
flat-pass : {A : Type 0} (test : A → Bool) (f : A → List A) → ((x : A) → test x ≡ true → list_all test (f x) ≡ true)
    → (xs : List A) → list_all test xs ≡ true → list_all test (flat_map f xs) ≡ true
flat-pass test f to [] all = refl
flat-pass test f to (x ∷ xs) all =
    let parts = and_parts (test x) (list_all test xs) all in
    all-joined test (f x) (flat_map f xs) (to x parts.0) (flat-pass test f to xs parts.1)

-- Locations that take their parts of a value.

module _ (test : Stmt → Bool) (taken : (temporary : ℕ) (double : Bool) (l : Loc) → test (taking_part temporary double l) ≡ true) where
  each-taken : (temporary : ℕ) (double : Bool) (ls : List Loc) → list_all test (map (taking_part temporary double) ls) ≡ true
  each-taken temporary double [] = refl
  each-taken temporary double (l ∷ ls) = ap₂ (λ a b. a && b) (taken temporary double l) (each-taken temporary double ls)

  parts-taken : (fresh : Fresh) (results : List Loc) → list_all test (taking_parts fresh results) ≡ true
  parts-taken fresh results =
      elim (packing_of results) as (λ packing. list_all test (elim packing [
        | Apart ↦ []
        | Word low high ↦ map (taking_part fresh.word false) results
        | Double ↦ map (taking_part fresh.double true) results
      ]) ≡ true) [
        | Apart ↦ refl
        | Word low high ↦ each-taken fresh.word false results
        | Double ↦ each-taken fresh.double true results
      ]

  -- calls pass the test whatever they pass
  module _ (called : (results : List Loc) (entry : ℕ) (arguments : List _) (depth : ℕ) → test (Call results entry arguments depth) ≡ true) where
    packed-pass : (fresh : Fresh) (stmt : Stmt) → test stmt ≡ true → list_all test (pack_stmt fresh stmt) ≡ true
    packed-pass fresh (Call results entry arguments depth) is =
        and_from (test (Call (value_places fresh results) entry _ depth)) (list_all test (taking_parts fresh results)) (called (value_places fresh results) entry _ depth)
        (parts-taken fresh results)
    packed-pass fresh (Set location e) is = and_from (test (Set location e)) true is refl
    packed-pass fresh (Fetch location width address) is = and_from (test (Fetch location width address)) true is refl
    packed-pass fresh (Store width address e) is = and_from (test (Store width address e)) true is refl
    packed-pass fresh (Div location e) is = and_from (test (Div location e)) true is refl
    packed-pass fresh (Dos number place argument) is = and_from (test (Dos number place argument)) true is refl

    graph-pass : (g : Graph) → list_all (λ (b : Block). list_all test b.stmts) g.blocks ≡ true
        → list_all (λ (b : Block). list_all test b.stmts) (pack_graph g).blocks ≡ true
    graph-pass g =
        changed-pass (λ (b : Block). list_all test b.stmts) (pack_block (fresh_after g.bits))
        (λ b. flat-pass test (pack_stmt (fresh_after g.bits)) (packed-pass (fresh_after g.bits)) b.stmts) g.blocks

-- a part of a temporary reads no flag
flat-taken : (temporary : ℕ) (double : Bool) (l : Loc) → nests_flatly (taking_part temporary double l) ≡ true
flat-taken temporary double (Half r h) = refl
flat-taken temporary double (Flag f) = refl
flat-taken temporary double (Cell n h) = refl
flat-taken temporary double (Temp n) = refl

plain-taken : (temporary : ℕ) (double : Bool) (l : Loc) → loads_plainly (taking_part temporary double l) ≡ true
plain-taken temporary double (Half r h) = refl
plain-taken temporary double (Flag f) = refl
plain-taken temporary double (Cell n h) = refl
plain-taken temporary double (Temp n) = refl

-- flags are read as they were
pub packed-reads : (g : Graph) → FlagsReadPlainly g → FlagsReadPlainly (pack_graph g)
packed-reads g is = record {
  flat = graph-pass nests_flatly flat-taken (λ results entry arguments depth. refl) g is.flat;
  plain = graph-pass loads_plainly plain-taken (λ results entry arguments depth. refl) g is.plain;
}
