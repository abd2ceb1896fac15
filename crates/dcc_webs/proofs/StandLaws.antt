-- A graph over temporaries stands for the graph.
use Rattle.std.proofs.Common.{◌≡◌, ℕ, ◌<◌, true, inl, inr, List, [], length, map, get_or, sym, ap, ◌∙◌, subst, true≢false, arith, Contains}
use Rattle.std.proofs.lemmas.Bool.{cases_lt}
use Rattle.std.proofs.lemmas.List.{get_or_past, length-map}
use Rattle.std.proofs.lemmas.Option.{slice_get-get_or, get_or_from_slice_get}
use Rattle.dcc_ir.specs.declared.syntax.Loc.{Loc}
use Rattle.dcc_ir.specs.declared.syntax.Graph.{Graph as GraphOf}
use Rattle.dcc_ir.specs.Tree.{Block, Graph}
use Rattle.dcc_ir.specs.Views.{graph_of}
use Rattle.dcc_ir.specs.WellFormed.{IsGraph}
use Rattle.dcc_ir.specs.Flow.{targets}
use Rattle.dcc_ir.specs.Live.{IsLive}
use Rattle.dcc_ir.specs.Families.{live}
use Rattle.dcc_ir.proofs.FamilyLaws.{live-closed}
use Rattle.dcc_flow.specs.Access.{block_access_of}
use Rattle.dcc_flow.specs.Edges.{is_in, successors_of}
use Rattle.dcc_ir.specs.Measure.{deepest}
use Rattle.dcc_ir.specs.Use.{graph_exprs}
use Rattle.dcc_passes.specs.Tidied.{IsTidied}
use Rattle.dcc_passes.proofs.RenamedLaws.{renamed-stands}
use Rattle.dcc_webs.proofs.RenamedKinds.{stays-in-kind}
use Rattle.dcc_webs.proofs.ToldLaws.{addresses-told, depth-told, apart-told}
use Rattle.dcc_webs.specs.Temporaries.{HasTempsAlone, TellsApart}
use Rattle.dcc_ir.specs.declared.syntax.Param.{Param}
use Rattle.dcc_passes.specs.Renaming.{renamed_param}
use Rattle.dcc_webs.specs.Names.{Names, all_named}
use Rattle.dcc_webs.specs.Walk.{Facts, AreWhole, AreFacts, begin_names, last_names}
use Rattle.dcc_webs.specs.Split.{IsSplitBy, temp_by, blocks_over, graph_over}
use Rattle.dcc_webs.proofs.SplitLaws.{all_of, any_number, name, is_renamed, is_formed, tells_apart}
use Rattle.dcc_webs.proofs.TempLaws.{temps_alone}

-- the graph is well formed, is over temporaries alone, and stands for the other
pub record Stands (graph after : Graph) : Type 0 where
  pub formed : IsGraph after
  pub temps : HasTempsAlone after
  pub tidied : IsTidied graph after
  pub told : TellsApart graph after
  pub depth : deepest (graph_exprs after) ≡ deepest (graph_exprs graph)

pub split_stands : (graph : Graph) (lists : List (List Loc)) (facts : Facts) (after : GraphOf) → IsGraph graph → IsLive graph lists → AreFacts graph lists facts → AreWhole facts → IsSplitBy facts graph after
    → Stands graph (graph_of after)
split_stands graph lists facts after formed is_live are whole split =
    let over : Graph = graph_over split.temps.of.items facts split.temps.bits.items graph in
    let over_formed = is_formed graph lists is_live facts are whole split.temps split.temps_are formed in
    let renamed = is_renamed graph lists is_live facts are whole split.temps split.temps_are formed.begins in
    let told = tells_apart graph lists is_live facts are whole split.temps split.temps_are formed.begins in
    let named = name graph lists is_live facts are whole split.temps split.temps_are in
    subst (λ (g : Graph). Stands graph g) (sym split.is) (record {
      formed = over_formed;
      temps = temps_alone split.temps.of.items facts split.temps.bits.items graph;
      tidied = record {
        formed = over_formed;
        stands = renamed-stands (live graph) named graph over (live-closed graph) renamed over_formed;
        kind = stays-in-kind (live graph) named graph over renamed;
        addresses = addresses-told graph over told;
        apart = apart-told graph over told;
      };
      told = told;
      depth = depth-told graph over told;
    })

-- the facts of a graph are whole
pub are_whole : (graph : Graph) (lists : List (List Loc)) (facts : Facts) → IsLive graph lists → AreFacts graph lists facts → AreWhole facts
are_whole graph lists facts is_live are =
    let count : length facts.accesses ≡ length graph.blocks = ap length are.0 ∙ length-map graph.blocks block_access_of in
    let next_count : length (successors_of graph) ≡ length graph.blocks = length-map graph.blocks (λ (b : Block). targets b.exit) in
    record {
      at_end = ap length are.1 ∙ is_live.len ∙ sym count;
      preds = are.2.len ∙ next_count ∙ sym count;
      within = λ b d inside. all_of (λ place. place < length facts.accesses) (get_or facts.preds b d) (λ a c.
          let b_in : b < length (successors_of graph) = omega (arith, inside, are.2.len) in
          let same : get_or facts.preds b d ≡ get_or facts.preds b [] = get_or_any facts.preds b d [] inside in
          let leads : is_in (get_or (successors_of graph) a []) b ≡ true = sym (are.2.exact a b b_in) ∙ any_number (get_or facts.preds b []) a (subst (λ l. Contains l a) same c) in
          elim (cases_lt a (length (successors_of graph))) [
            | inl a_in ↦ omega (arith, a_in, next_count, count)
            | inr past ↦ absurd (true≢false (sym leads ∙ ap (λ r. is_in r b) (get_or_past (successors_of graph) a [] past)))
          ]);
    }
  where
    get_or_any : (xs : List (List ℕ)) (k : ℕ) (d e : List ℕ) → k < length xs → get_or xs k d ≡ get_or xs k e
    get_or_any xs k d e less = sym (get_or_from_slice_get xs k (get_or xs k d) e (slice_get-get_or xs k d less))

-- the graph over temporaries by what the code has of it
pub split_is : (facts : Facts) (graph : Graph) (temps temps' temps'' bits : List ℕ) (params : List Param) (blocks : List Block) (names names' : Names) → temps' ≡ temps → temps'' ≡ temps → names ≡ begin_names facts 0 → names' ≡ all_named names facts.params
    → params ≡ map (renamed_param (temp_by temps'' 0 names')) graph.params → blocks ≡ blocks_over temps' facts 0 graph.blocks → record graph { params = params; blocks = blocks; bits = bits } ≡ graph_over temps facts bits graph
split_is facts graph temps temps' temps'' bits params blocks names names' a b is last ps bs =
    let name_is : names' ≡ last_names facts 0 = last ∙ ap (λ (n : Names). all_named n facts.params) is in
    let params_is : params ≡ map (renamed_param (temp_by temps 0 (last_names facts 0))) graph.params =
    ps ∙ ap (λ t. map (renamed_param (temp_by t 0 names')) graph.params) b ∙ ap (λ (n : Names). map (renamed_param (temp_by temps 0 n)) graph.params) name_is
    in
    let blocks_are : blocks ≡ blocks_over temps facts 0 graph.blocks = bs ∙ ap (λ t. blocks_over t facts 0 graph.blocks) a in
    ap (λ (p : List Param). record graph { params = p; blocks = blocks; bits = bits }) params_is
    ∙ ap (λ (k : List Block). record graph { params = map (renamed_param (temp_by temps 0 (last_names facts 0))) graph.params; blocks = k; bits = bits }) blocks_are
