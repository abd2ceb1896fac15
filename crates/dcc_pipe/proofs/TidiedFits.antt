-- What is tidied of a prepared program has what its text needs.
use Rattle.std.proofs.Common.{◌≡◌, ℕ, ◌<◌, ◌≤◌, List, [], ◌∷◌, ◌++◌, length, map, flat_map, drop, Some, refl, sym, ap, ap₂, ◌∙◌, subst}
use Rattle.std.specs.Prelude.{All, ◌&&◌, not}
use Rattle.std.specs.List.{AllZip}
use Rattle.std.proofs.lemmas.List.{length-map}
use Rattle.std.proofs.lemmas.List.Elements.{All-nil, All-cons, All-head, All-tail, All-append, All-weaker}
use Rattle.dcc_ir.specs.declared.syntax.Loc.{Loc}
use Rattle.dcc_ir.specs.declared.syntax.Put.TheVariants.{Memory, One, Two}
use Rattle.dcc_ir.specs.declared.syntax.Put.{Put}
use Rattle.dcc_ir.specs.declared.syntax.Param.{Param}
use Rattle.dcc_ir.specs.Joinable.{places_of}
use Rattle.dcc_ir.specs.Live.{is_among}
use Rattle.dcc_ir.specs.Location.{location_width}
use Rattle.dcc_ir.specs.Run.{graph_at}
use Rattle.dcc_ir.specs.Tree.{Stmt, Set, Fetch, Store, Div, Call, Dos, Exit, Goto, If, Switch, Ret, Stop, Block, Graph, Program}
use Rattle.dcc_ir.specs.Value.{width_of}
use Rattle.dcc_ir.specs.WellFormed.{ret_widths, all_ret_widths}
use Rattle.dcc_ir.proofs.ListLaws.{all_parts}
use Rattle.dcc_ir.proofs.ZipLaws.{all_zipped}
use Rattle.dcc_passes.specs.Kinds.{CallKind, call_kinds, BlockStaysInKind, StaysInKind}
use Rattle.dcc_passes.specs.Renaming.{param_places}
use Rattle.dcc_passes.specs.Tidied.{are_different, takes_apart, IsTidied}
use Rattle.dcc_plan.specs.Calls.{places, all_places, locations_differ}
use Rattle.dcc_plan.specs.Programs as plan
use Rattle.dcc_variables.specs.FunctionLaws.{HasFewNames}
use Rattle.dcc_tidy.specs.Tidied.{text_levels}
use Rattle.dcc_pipe.specs.Textable.{TakesApart, IsTextable}
use Rattle.dcc_pipe.specs.WholeText.{TakesFew, FitsText}
use Rattle.dcc_tidy.proofs.KindLaws.{kind-widths, found-before, without-first}

-- What returns give.

abbrev IsFew : List ℕ → Type 0
IsFew widths = length widths ≤ 1

given-few : (bits : List ℕ) (block : Block) → plan.GivesFew block → All IsFew (ret_widths bits block.exit)
given-few bits block gives = by block.exit refl
  where
    by : (exit : Exit) → block.exit ≡ exit → All IsFew (ret_widths bits exit)
    by (Ret values) is =
        All-cons IsFew (map (width_of bits) values) []
        (subst (λ n. n ≤ 1) (sym (length-map values (width_of bits))) (gives values is)) (All-nil IsFew)
    by (Goto next) is = All-nil IsFew
    by (If test one other) is = All-nil IsFew
    by (Switch e places) is = All-nil IsFew
    by Stop is = All-nil IsFew

few-given : (bits : List ℕ) (block : Block) → All IsFew (ret_widths bits block.exit) → plan.GivesFew block
few-given bits block few values is =
    let here = All-head IsFew (map (width_of bits) values) [] (subst (λ exit. All IsFew (ret_widths bits exit)) is few) in
    subst (λ n. n ≤ 1) (length-map values (width_of bits)) here

gives-stay : (g h : Graph) → StaysInKind g h → All plan.GivesFew g.blocks → All plan.GivesFew h.blocks
gives-stay g h is =
    all_zipped (BlockStaysInKind g.bits h.bits) plan.GivesFew plan.GivesFew
    (λ b c pair gives. few-given h.bits c (subst (All IsFew) (sym pair.given) (given-few g.bits b gives))) g.blocks h.blocks
    is.blocks

-- What calls take.

-- a call takes one value at most, of a graph that gives some
abbrev FewOf : Program → CallKind → Type 0
FewOf p kind =
    (length kind.results ≤ 1)
    × ((callee : Graph) → graph_at (drop 1 p.graphs) kind.entry ≡ Some callee → 0 < length kind.results
    → 0 < length (all_ret_widths callee))

taken-few : (p : Program) (bits : List ℕ) (stmt : Stmt) → TakesFew p stmt → All (FewOf p) (call_kinds bits stmt)
taken-few p bits (Call results entry arguments depth) takes =
    let count = length-map results (location_width bits) in
    All-cons (FewOf p) _ []
    (subst (λ n. n ≤ 1) (sym count) takes.0, λ callee named some. takes.1 callee named (subst (λ n. 0 < n) count some))
    (All-nil (FewOf p))
taken-few p bits (Set l e) takes = All-nil (FewOf p)
taken-few p bits (Fetch l width a) takes = All-nil (FewOf p)
taken-few p bits (Store width a e) takes = All-nil (FewOf p)
taken-few p bits (Div l e) takes = All-nil (FewOf p)
taken-few p bits (Dos number place argument) takes = All-nil (FewOf p)

few-taken : (p : Program) (bits : List ℕ) (stmt : Stmt) → All (FewOf p) (call_kinds bits stmt) → TakesFew p stmt
few-taken p bits (Call results entry arguments depth) few =
    let count = length-map results (location_width bits) in
    let here = All-head (FewOf p) _ [] few in
    (subst (λ n. n ≤ 1) count here.0, λ callee named some. here.1 callee named (subst (λ n. 0 < n) (sym count) some))
few-taken p bits (Set l e) few = tt
few-taken p bits (Fetch l width a) few = tt
few-taken p bits (Store width a e) few = tt
few-taken p bits (Div l e) few = tt
few-taken p bits (Dos number place argument) few = tt

each-taken : (p : Program) (bits : List ℕ) (stmts : List Stmt) → All (TakesFew p) stmts
    → All (FewOf p) (flat_map (call_kinds bits) stmts)
each-taken p bits [] takes = All-nil (FewOf p)
each-taken p bits (stmt ∷ rest) takes =
    All-append (FewOf p) (call_kinds bits stmt) (flat_map (call_kinds bits) rest)
    (taken-few p bits stmt (All-head (TakesFew p) stmt rest takes))
    (each-taken p bits rest (All-tail (TakesFew p) stmt rest takes))

-- Where no location takes two arguments.

-- both tests ask the same of a graph
places-same : (params : List Param) → all_places params ≡ param_places params
places-same [] = refl
places-same (p ∷ params) = ap₂ (λ xs ys. xs ++ ys) (put-places p.put) (places-same params)
  where
    put-places : (put : Put) → places put ≡ places_of put
    put-places Memory = refl
    put-places (One l) = refl
    put-places (Two low high) = refl

differ-same : (ls : List Loc) → locations_differ ls ≡ are_different ls
differ-same [] = refl
differ-same (l ∷ ls) = ap (λ b. not (is_among ls l) && b) (differ-same ls)

apart-same : (g : Graph) → locations_differ (all_places g.params) ≡ takes_apart g
apart-same g = differ-same (all_places g.params) ∙ ap are_different (places-same g.params)

apart-stays : (g h : Graph) → IsTidied g h → TakesApart g → TakesApart h
apart-stays g h tidy apart = apart-same h ∙ tidy.apart (sym (apart-same g) ∙ apart)

-- Programs.

module _ (p q : Program) (tidy : AllZip IsTidied p.graphs q.graphs) where
  few-after : (kind : CallKind) → FewOf p kind → FewOf q kind
  few-after kind few = (
    few.0,
    λ callee named some.
        let before =
        found-before IsTidied (λ g h is. is.kind.entry) kind.entry (drop 1 p.graphs) (drop 1 q.graphs)
        (without-first IsTidied p.graphs q.graphs tidy) callee named in
        subst (λ widths. 0 < length widths) (sym (kind-widths before.graph callee before.related.kind))
        (few.1 before.graph before.found some),
  )

  abbrev Takes : Program → Block → Type 0
  Takes r b = All (TakesFew r) b.stmts

  takes-stay : (g h : Graph) → IsTidied g h → All (Takes p) g.blocks → All (Takes q) h.blocks
  takes-stay g h is =
      all_zipped (BlockStaysInKind g.bits h.bits) (Takes p) (Takes q)
      (λ b c pair takes.
      All-weaker (λ stmt. All (FewOf q) (call_kinds h.bits stmt)) (TakesFew q) (few-taken q h.bits) c.stmts
      (all_parts (FewOf q) (call_kinds h.bits) c.stmts
      (subst (All (FewOf q)) (sym pair.calls)
      (All-weaker (FewOf p) (FewOf q) few-after (flat_map (call_kinds g.bits) b.stmts) (each-taken p g.bits b.stmts takes)))))
      g.blocks h.blocks is.kind.blocks

  -- a program in the places of whose graphs others stand, not too deep for a text, has what a text needs where the
  -- first program has it
  pub tidied-fits : IsTextable text_levels q → All (λ g. All plan.GivesFew g.blocks) p.graphs
      → All (λ g. All (Takes p) g.blocks) p.graphs → All TakesApart p.graphs → All HasFewNames q.graphs → FitsText q
  tidied-fits textable gives takes apart few = record {
    textable = textable;
    gives =
        all_zipped IsTidied (λ g. All plan.GivesFew g.blocks) (λ g. All plan.GivesFew g.blocks)
        (λ g h is. gives-stay g h is.kind) p.graphs q.graphs tidy gives;
    takes =
        all_zipped IsTidied (λ g. All (Takes p) g.blocks) (λ g. All (Takes q) g.blocks) takes-stay p.graphs q.graphs tidy
        takes;
    apart = all_zipped IsTidied TakesApart TakesApart apart-stays p.graphs q.graphs tidy apart;
    few = few;
  }
