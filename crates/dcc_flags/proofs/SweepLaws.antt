-- Sweeps go on until nothing more is known; then the table tells what reaches.
use Rattle.std.proofs.Common.{◌≡◌, ℕ, ◌<◌, ◌≤◌, true, inl, inr, List, [], ◌∷◌, length, get_or, replicate, All, refl, sym, ap, ◌∙◌, subst, arith}
use Rattle.std.proofs.lemmas.Bool.{false≢true, cases_lt}
use Rattle.std.proofs.lemmas.List.{get_or_past, length-replicate, length-set}
use Rattle.std.proofs.lemmas.List.Elements.{All-head, All-tail, All-from_get_or}
use Rattle.dcc_num.specs.declared.FlagName.{FlagName}
use Rattle.dcc_ir.specs.Tree.{Block, Graph}
use Rattle.dcc_ir.specs.Run.{no_block}
use Rattle.dcc_ir.specs.Flow.{targets, IsPath, Any}
use Rattle.dcc_ir.specs.Live.{block_in, follows}
use Rattle.dcc_ir.specs.WellFormed.{IsGraph}
use Rattle.dcc_flow.specs.Edges.{is_in, successors_of}
use Rattle.dcc_flow.specs.Order.{IsReversePostOrder}
use Rattle.dcc_flow.proofs.Members.{in_cases}
use Rattle.dcc_flow.proofs.OrderLaws.{order_is, closed}
use Rattle.dcc_flow.proofs.SourceLaws.{in_at}
use Rattle.dcc_flags.specs.Reaching.{Start as Begin}
use Rattle.dcc_flags.specs.declared.sources.Source.{Source}
use Rattle.dcc_flags.specs.declared.sources.Source.TheVariants.{Nothing, Start, At, Several}
use Rattle.dcc_flags.specs.Sources.{swept, rank_of, first_sources, Covers, AreTold}
use Rattle.dcc_flags.proofs.TableLaws.{targets_within, row_at}
use Rattle.dcc_flags.proofs.GrowthLaws.{swept_grows, closed_under}
use Rattle.dcc_flags.proofs.ToldLaws.{Found, first_found, first_covers, swept_found, told}

-- The order has blocks of the graph.

each_in : (P : ℕ → Type 0) (ns : List ℕ) (n : ℕ) → All P ns → is_in ns n ≡ true → P n
each_in P [] n all e = absurd (false≢true e)
each_in P (m ∷ ns) n all e = elim (in_cases m n ns e) [
  | inl same ↦ subst P same (All-head P m ns all)
  | inr later ↦ each_in P ns n (All-tail P m ns all) later
]

pub follow_within : (graph : Graph) → IsGraph graph → (a b : ℕ) → follows graph a b ≡ true → b < length graph.blocks
follow_within graph good a b e = elim (cases_lt a (length graph.blocks)) [
  | inl inside ↦ each_in (λ place. place < length graph.blocks) (targets (block_in graph a).exit) b (targets_within graph a good inside) e
  | inr past ↦
      let none : block_in graph a ≡ no_block = get_or_past graph.blocks a no_block past in
      absurd (false≢true (sym (ap (λ (x : Block). is_in (targets x.exit) b) none) ∙ e))
]

path_within : (graph : Graph) → IsGraph graph → (a : ℕ) (between : List ℕ) (b : ℕ) → IsPath (follows graph) Any a between b → b < length graph.blocks
path_within graph good a [] b e = follow_within graph good a b e
path_within graph good a (m ∷ ms) b p = path_within graph good m ms b p.2

listed_within : (graph : Graph) → IsGraph graph → (order : List ℕ) → IsReversePostOrder graph order → (b : ℕ) → is_in order b ≡ true → b < length graph.blocks
listed_within graph good order searched b e = elim (((order_is graph order searched).reached b).0 e) [
  | inl first ↦ subst (λ n. n < length graph.blocks) (sym first) good.begins
  | inr way ↦ path_within graph good 0 way.0 b way.1
]

pub order_within : (graph : Graph) → IsGraph graph → (order : List ℕ) → IsReversePostOrder graph order → All (λ block. block < length graph.blocks) order
order_within graph good order searched =
    All-from_get_or (λ block. block < length graph.blocks) order 0 (λ i inside. listed_within graph good order searched (get_or order i 0) (in_at order i inside))

listed_start : (graph : Graph) (order : List ℕ) → IsReversePostOrder graph order → is_in order 0 ≡ true
listed_start graph order searched = ((order_is graph order searched).reached 0).1 (inl refl)

listed_next : (graph : Graph) (order : List ℕ) → IsReversePostOrder graph order → (a b : ℕ) → is_in order a ≡ true → follows graph a b ≡ true → is_in order b ≡ true
listed_next graph order searched a b there edge =
    elim (closed (successors_of graph) searched a b there (ap (λ l. is_in l b) (row_at graph a) ∙ edge)) [ inl t ↦ t | inr s ↦ absurd (false≢true s) ]

-- The sweeps.

pub length_first : (count : ℕ) → length (first_sources count) ≡ count
length_first count = length-set (replicate count Nothing) 0 Start ∙ length-replicate count Nothing

covered_rank : (t : List Source) → Covers (get_or t 0 Nothing) Begin → 1 ≤ rank_of t
covered_rank [] h = absurd h
covered_rank (Nothing ∷ sources) h = absurd h
covered_rank (Start ∷ sources) h = omega arith
covered_rank (At x y ∷ sources) h = omega arith
covered_rank (Several ∷ sources) h = omega arith

module _ (graph : Graph) (f : FlagName) (order : List ℕ) where
  -- what each sweep keeps, where so much was known before it and so much is known after it
  pub record Going (table : List Source) (before known : ℕ) : Type 0 where
    pub count : length table ≡ length graph.blocks
    pub known_is : known ≡ rank_of table
    pub found : Found graph f table
    pub first : Covers (get_or table 0 Nothing) Begin
    pub still : known ≤ before → rank_of (swept f graph table order) ≤ rank_of table

  pub start_going : IsGraph graph → (count : ℕ) → count ≡ length graph.blocks → (table : List Source) → table ≡ first_sources count → (known : ℕ) → known ≡ rank_of table → Going table 0 known
  start_going good count size table is known knows =
      let first : Covers (get_or table 0 Nothing) Begin = subst (λ t. Covers (get_or t 0 Nothing) Begin) (sym is) (first_covers graph f count (subst (λ n. 0 < n) (sym size) good.begins)) in
      record {
        count = ap length is ∙ length_first count ∙ size;
        known_is = knows;
        found = subst (Found graph f) (sym is) (first_found graph f count);
        first = first;
        still = λ h. absurd (let some = covered_rank table first in omega (arith, h, some, knows));
      }

  pub swept_going : (table after : List Source) (before known more : ℕ) → Going table before known → after ≡ swept f graph table order → more ≡ rank_of after → Going after known more
  swept_going table after before known more going is knows =
      let grows = swept_grows f graph table order in
      let count : length after ≡ length table = ap length is ∙ grows.count in
      record {
        count = count ∙ going.count;
        known_is = knows;
        found = subst (Found graph f) (sym is) (swept_found graph f table order going.found);
        first = subst (λ t. Covers (get_or t 0 Nothing) Begin) (sym is) (grows.keeps 0 Begin going.first);
        still = λ h. still grows.same going.known_is h;
      }
    where
      still : (rank_of (swept f graph table order) ≤ rank_of table → swept f graph table order ≡ table) → known ≡ rank_of table → more ≤ known → rank_of (swept f graph after order) ≤ rank_of after
      still same was h =
          let least : rank_of (swept f graph table order) ≤ rank_of table = let r = ap rank_of is in omega (arith, r, was, h, knows) in
          let stays : after ≡ table = is ∙ same least in
          let again : swept f graph after order ≡ after = ap (λ t. swept f graph t order) stays ∙ sym is in
          let r = ap rank_of again in omega (arith, r)

  pub end_told : IsGraph graph → IsReversePostOrder graph order → (table : List Source) (before known : ℕ) → Going table before known → known ≤ before → AreTold graph f table
  end_told good searched table before known going h =
      told graph f order table going.count going.found (record {
        starts = listed_start graph order searched;
        leads = listed_next graph order searched;
        first = going.first;
        covers = λ a b there edge d covers. closed_under f graph table order (going.still h) a b there edge
            (subst (λ n. b < n) (sym going.count) (follow_within graph good a b edge)) d covers;
      })
