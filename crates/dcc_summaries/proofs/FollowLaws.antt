-- What a location that is wanted makes wanted, by the elements of lists.
use Rattle.std.proofs.Common.{◌≡◌, ℕ, suc, ◌+◌, ◌<◌, Bool, true, false, ◌||◌, true≢false, slice_get, Some, List, [], ◌∷◌, ◌++◌, length, map, flat_map, drop, get_or, refl, sym, ap, ◌∙◌, subst, arith}
use Rattle.std.specs.Prelude.{filter, if◌then◌else◌, ◌==◌, ◌↔◌}
use Rattle.std.proofs.lemmas.List.Concat.{flat_map-cons, flat_map_single}
use Rattle.dcc_ir.specs.declared.syntax.Loc.{Loc}
use Rattle.dcc_ir.specs.Tree.{Graph, Program}
use Rattle.dcc_ir.specs.declared.syntax.Graph.{Graph as GraphOf}
use Rattle.dcc_ir.specs.declared.syntax.IrProgram.{IrProgram}
use Rattle.dcc_ir.specs.Views.{block_of, graph_of, program_of}
use Rattle.dcc_summaries.proofs.PointLaws.{graph_read}
use Rattle.dcc_ir.specs.Live.{is_among, block_in}
use Rattle.dcc_ir.specs.Passing.{passed}
use Rattle.dcc_ir.proofs.LocationLaws.{location_same}
use Rattle.dcc_demand.specs.Changes.{Changes}
use Rattle.dcc_sums.specs.Instance.{procedures_of}
use Rattle.dcc_sums.proofs.SiteLaws.{changes_pass}
use Rattle.dcc_modref.specs.Programs.{TellsJust, AreChanges}
use Rattle.dcc_summaries.specs.declared.table.Want.{Want}
use Rattle.dcc_summaries.specs.declared.ways.Port.{Port}
use Rattle.dcc_summaries.specs.Points.{point_at, graph_in, site_in, IsPoint}
use Rattle.dcc_summaries.specs.Demands.{want_at}
use Rattle.dcc_summaries.specs.Follow.{wants_of, changed_among, changed_in, before_block, before_entry, before_site}
use Rattle.dcc_summaries.specs.Follow.{before_point, Setting, followers}
use Rattle.dcc_summaries.specs.declared.points.Point.{Point}
use Rattle.dcc_summaries.specs.Ways.{lists_in, ArePreds}
use Rattle.dcc_modref.specs.States.{told_in}
use Rattle.dcc_flow.specs.Edges.{rows, successors_of}
use Rattle.dcc_flow.proofs.RowLaws.{length_successors}
use Rattle.dcc_flow.proofs.SourceLaws.{in_at, predecessor_within}
use Rattle.dcc_ir.specs.Location.{same_location}
use Rattle.dcc_ir.specs.declared.syntax.Loc.TheVariants.{Half}
use Rattle.dcc_num.specs.declared.Reg.TheVariants.{Ax}
use Rattle.dcc_num.specs.declared.Half.TheVariants.{Low}
use Rattle.std.specs.Global.{Vec}
use Rattle.std.proofs.lemmas.List.{drop_more, get_or-map, length-map}

abbrev pub port_wants : ℕ → Loc → Port → List Want
port_wants entry location port = wants_of entry (port ∷ []) location

pub port_each : (entry : ℕ) (location : Loc) (ports : List Port) → flat_map (port_wants entry location) ports ≡ wants_of entry ports location
port_each entry location [] = refl
port_each entry location (port ∷ ports) =
    flat_map-cons (port_wants entry location) port ports ∙ ap (λ l. port_wants entry location port ++ l) (port_each entry location ports) ∙ first (port.entry == entry)
  where
    first : (b : Bool) → map (λ (q : Port). want_at q.at location) (if b then port ∷ [] else []) ++ wants_of entry ports location
        ≡ map (λ (q : Port). want_at q.at location) (if b then port ∷ (filter (λ (q : Port). q.entry == entry) ports) else filter (λ (q : Port). q.entry == entry) ports)
    first true = refl
    first false = refl

-- the location where a block ends
abbrev pub end_want : Program → ℕ → Loc → ℕ → Want
end_want p place location block = want_at (point_at place block (length (block_in (graph_in p place) block).stmts)) location

abbrev pub end_wants : Program → ℕ → Loc → ℕ → List Want
end_wants p place location block = end_want p place location block ∷ []

pub end_each : (p : Program) (place : ℕ) (location : Loc) (blocks : List ℕ) → flat_map (end_wants p place location) blocks ≡ map (end_want p place location) blocks
end_each p place location blocks = flat_map_single (end_want p place location) blocks

-- What is changed.

pub changed_step : (xs : List Loc) (lists : List (List Bool)) (place entry : ℕ) (location : Loc) → place < length xs → place < length lists → changed_among (drop place xs) (drop place lists) entry location
    ≡ (if same_location location (get_or xs place (Half Ax Low)) then told_in (get_or lists place []) entry else changed_among (drop (place + 1) xs) (drop (place + 1) lists) entry location)
changed_step xs lists place entry location inside there =
    ap (λ l. changed_among l (drop place lists) entry location) (drop_more xs place (Half Ax Low) inside)
    ∙ ap (λ l. changed_among (get_or xs place (Half Ax Low) ∷ drop (place + 1) xs) l entry location) (drop_more lists place [] there)

-- The blocks before a block.

module _ (p : Program) (preds : List (List (List ℕ))) (are : ArePreds p preds) (at : Point) (is : IsPoint p at) where
  abbrev row : List ℕ
  row = get_or (get_or preds at.graph []) at.block []

  pub place_inside : at.graph < length preds
  place_inside = let count = are.count in let below = is.graph in omega (arith, count, below)

  pub block_inside : at.block < length (get_or preds at.graph [])
  block_inside =
      let len = (are.exact at.graph is.graph).len in
      let size = length_successors (graph_in p at.graph) in
      let below = is.block in
      omega (arith, len, size, below)

  pub end_inside : (k : ℕ) → k < length row → get_or row k 0 < length (graph_in p at.graph).blocks
  end_inside k inside =
      let next = successors_of (graph_in p at.graph) in
      let size = length_successors (graph_in p at.graph) in
      let below = is.block in
      let found = sym ((are.exact at.graph is.graph).exact (get_or row k 0) at.block (omega (arith, size, below))) ∙ in_at row k inside in
      let within = predecessor_within next (get_or row k 0) at.block found in
      omega (arith, within, size)

pub row_there : (p : Program) (lists : List (Vec (Vec ℕ))) → ArePreds p (lists_in lists) → (at : Point) → IsPoint p at → (v : Vec (Vec ℕ)) (row : Vec ℕ) → v ≡ get_or lists at.graph v → row ≡ get_or v.items at.block row
    → row.items ≡ get_or (get_or (lists_in lists) at.graph []) at.block []
row_there p lists are at is v row read there =
    let items : Vec ℕ → List ℕ = λ w. w.items in
    let f : Vec (Vec ℕ) → List (List ℕ) = λ w. rows w.items in
    let size = length-map lists f in
    let within = place_inside p (lists_in lists) are at is in
    let inside : at.graph < length lists = omega (arith, size, within) in
    let same : rows v.items ≡ get_or (lists_in lists) at.graph [] = ap f read ∙ sym (get_or-map f lists at.graph v [] inside) in
    let count = length-map v.items items in
    let under = block_inside p (lists_in lists) are at is in
    let equal = ap length same in
    let below : at.block < length v.items = omega (arith, count, under, equal) in
    ap items there ∙ sym (get_or-map items v.items at.block row [] below) ∙ ap (λ l. get_or l at.block []) same

-- the ends of blocks that lead there are in the graph
pub ends_there : (p : IrProgram) (lists : List (Vec (Vec ℕ))) → ArePreds (program_of p) (lists_in lists) → (at : Point) → IsPoint (program_of p) at → (graph : GraphOf) → graph ≡ get_or p.graphs.items at.graph graph
    → (blocks : List ℕ) → blocks ≡ get_or (get_or (lists_in lists) at.graph []) at.block [] → (k : ℕ) → k < length blocks → get_or blocks k 0 < length graph.blocks.items
ends_there p lists are at is graph read blocks row k inside =
    let size = length-map p.graphs.items graph_of in
    let under = is.graph in
    let same = ap (λ (g : Graph). length g.blocks) (graph_read p at.graph graph (omega (arith, size, under)) read) in
    let count = length-map graph.blocks.items block_of in
    let below = subst (λ l. get_or l k 0 < length (graph_in (program_of p) at.graph).blocks) (sym row)
    (end_inside (program_of p) (lists_in lists) are at is k (subst (λ l. k < length l) row inside)) in
    omega (arith, below, same, count)

-- What follows, by how many statements are done.

pub followed_begin : (s : Setting) (x : Want) → x.at.done ≡ 0
    → followers s x ≡ before_block s.program s.preds x.at.graph x.at.block x.location ++ before_entry s.program s.calls x.at.graph x.at.block x.location
followed_begin s x e = ap (λ n. before_point s x.at.graph x.at.block n x.location) e

pub followed_inside : (s : Setting) (x : Want) (done : ℕ) → x.at.done ≡ suc done
    → let at = point_at x.at.graph x.at.block done in followers s x ≡ before_site s.changed s.returns at (site_in s.program at) x.location
followed_inside s x done e = ap (λ n. before_point s x.at.graph x.at.block n x.location) e

-- By lists for the halves and flags that pass it is told just what is changed.

among_changed : (p : Program) (xs : List Loc) (lists : List (List Bool)) → length lists ≡ length xs
    → ((place : ℕ) (location : Loc) (changed : List Bool) → slice_get xs place ≡ Some location → slice_get lists place ≡ Some changed → TellsJust p location changed) → (i : ℕ) (l : Loc)
    → (changed_among xs lists i l ≡ true → Changes (procedures_of p) i l) × (is_among xs l ≡ true → Changes (procedures_of p) i l → changed_among xs lists i l ≡ true)
among_changed p [] lists count each i l = (λ e. absurd (true≢false (sym e)), λ e c. absurd (true≢false (sym e)))
among_changed p (x ∷ xs) [] count each i l = absurd (omega (arith, count))
among_changed p (x ∷ xs) (list ∷ lists) count each i l =
    by (same_location l x) refl (among_changed p xs lists (omega (arith, count)) (λ place location changed at there. each (suc place) location changed at there) i l)
  where
    by : (b : Bool) → same_location l x ≡ b
        → (changed_among xs lists i l ≡ true → Changes (procedures_of p) i l) × (is_among xs l ≡ true → Changes (procedures_of p) i l → changed_among xs lists i l ≡ true)
        → ((if b then told_in list i else changed_among xs lists i l) ≡ true → Changes (procedures_of p) i l)
        × (is_among (x ∷ xs) l ≡ true → Changes (procedures_of p) i l → (if b then told_in list i else changed_among xs lists i l) ≡ true)
    by true e rest =
        let tells = subst (λ y. TellsJust p y list) (sym (location_same l x e)) (each 0 x list refl refl) in
        ((tells i).0, λ among c. (tells i).1 c)
    by false e rest = (rest.0, λ among c. rest.1 (sym (ap (λ b. b || is_among xs l) e) ∙ among) c)

pub changes_told : (p : Program) (lists : List (List Bool)) → AreChanges p lists → (i : ℕ) (l : Loc) → (changed_in lists i l ≡ true) ↔ Changes (procedures_of p) i l
changes_told p lists are i l =
    let two = among_changed p passed lists are.count are.exact i l in
    (two.0, λ c. two.1 (changes_pass p i l c) c)
