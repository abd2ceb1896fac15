-- Faults of the lifted program are constructs of the machine's procedures, and the other way.
use Rattle.std.proofs.Common.{◌≡◌, ℕ, ◌+◌, ◌*◌, true, false, ◌⊎◌, inl, inr, List, [], ◌∷◌, ◌++◌, ◌==◌, length, map, Contains, Option, Some, None, refl, sym, ap, ◌∙◌, subst, arith}
use Rattle.std.specs.List.{range_with_len, list_any}
use Rattle.std.proofs.lemmas.List.Elements.{Contains-append_cases, Contains-append_right}
use Rattle.dcc_machine.specs.declared.image.Image.{Image}
use Rattle.dcc_prog.specs.declared.procedure.Node.{Node}
use Rattle.dcc_prog.specs.declared.frame.Program.{Program as Analysed}
use Rattle.dcc_prog.specs.declared.refusal.ConstructKind.{ConstructKind}
use Rattle.dcc_prog.specs.declared.refusal.ConstructKind.TheVariants.{ArgumentReused as ReusedArgument, SeveralResults as ManyResults}
use Rattle.dcc_machine.specs.declared.instr.Op.{Op}
use Rattle.dcc_prog.specs.Construct.{construct_number}
use Rattle.dcc_machine.specs.declared.instr.Op.TheVariants.{Call as CallOp}
use Rattle.dcc_stack.specs.Slots.{is_within}
use Rattle.dcc_ir.specs.declared.syntax.Loc.{Loc}
use Rattle.dcc_ir.specs.declared.syntax.Loc.TheVariants.{Temp}
use Rattle.dcc_ir.specs.Tree.{Stmt, Call, Graph, Program, Summary}
use Rattle.dcc_ir.specs.Live.{block_in}
use Rattle.dcc_ir.specs.Passing.{passed}
use Rattle.dcc_ir.specs.Run.{is_call, graph_at}
use Rattle.dcc_ir.specs.Flow.{graph_or_none}
use Rattle.dcc_ir.specs.WellFormed.{all_differ}
use Rattle.dcc_ir.proofs.GraphLaws.{found_entry}
use Rattle.dcc_ir.proofs.LocationLaws.{Contains-none, contains_among}
use Rattle.dcc_ir.proofs.PathLaws.{clash}
use Rattle.dcc_ir.proofs.ReachedLaws.{found_contained}
use Rattle.dcc_ir.proofs.ZipLaws.{map_zipped}
use Rattle.dcc_ops.specs.Temporaries.{returned_place}
use Rattle.dcc_simulation.specs.Procedures.{Procedure, given_back}
use Rattle.dcc_simulation.specs.Statements.{calling, results_of, arguments_of}
use Rattle.dcc_demand.specs.Wanted.{Wanted}
use Rattle.dcc_machine_demand.specs.Bodies.{Body, entry_of, bodies_of, body_at, Point, op_of, find_at, point_with}
use Rattle.dcc_machine_demand.specs.Holders.{in_frame, is_in_cell}
use Rattle.dcc_machine_demand.specs.Instance.{passed_word, touched_of}
use Rattle.dcc_machine_demand.specs.Asked as asked
use Rattle.dcc_machine_demand.specs.Asked.{IsOfSummaries, argument_reused, several_results}
use Rattle.dcc_sums.specs.Points.{Position, next_of, Site, Executes, site_of}
use Rattle.dcc_sums.specs.Instance as sums
use Rattle.dcc_sums.specs.Instance.{passes}
use Rattle.dcc_sums.specs.Summaries.{IsReused, AreSummaries, ReusesNone, GivesOneValue}
use Rattle.dcc_lift.specs.Blocks.{node_in, is_call as is_call_op, onward, BlockSource, nodes_in, entry_in, node_stmts, stmts_at}
use Rattle.dcc_lift.specs.Translated.{IsTranslated}
use Rattle.dcc_lift.proofs.CallFree.{IsCallFree, node-free}
use Rattle.dcc_lift.proofs.FormProgram.{well-formed}
use Rattle.dcc_lifted_demand.specs.InstructionPoints.{begin_at, points_by, points_at, end_sites}
use Rattle.dcc_lifted_demand.specs.InstructionsHavePoints.{HasInstructions}
use Rattle.dcc_summaries.specs.declared.summaries.SumsFault.{SumsFault}
use Rattle.dcc_summaries.specs.declared.summaries.SumsFault.TheVariants.{ArgumentReused, SeveralResults, Memory}
use Rattle.dcc_summaries.specs.Summaries.{IsFault, IsReusedAt, GivesSeveral}
use Rattle.dcc_lifted_demand.specs.LiftedIsRefined.{machine, inner}
use Rattle.dcc_lifted_demand.proofs.LinkLaws.{Standing}
use Rattle.dcc_lifted_demand.proofs.EdgeLaws.{found_node}
use Rattle.dcc_lifted_demand.proofs.RefinedLaws as refined
use Rattle.dcc_kinds.specs.Laws.{IsLikeMachine, IsConstructOf, FaultsAreConstructs, ConstructsAreFaults, SummedProgramsHaveNone, SummariesAreLifted}
use Rattle.dcc_kinds.proofs.LocationLaws.{in_map, from_map, found_by_key}
use Rattle.dcc_kinds.proofs.SummaryLaws.{IsBeside, beside, summaries_are, summaries_known, several_up, several_down, several_none}
use Rattle.dcc_kinds.proofs.BackLaws.{back_returned}
use Rattle.dcc_kinds.proofs.CallLaws as calls
use Rattle.dcc_kinds.proofs.ReusedLaws as reused
use Rattle.dcc_kinds.proofs.ReusedLaws.{IsWantedByte}

module _ (image : Image) (program : Analysed) (p : Program) (like : IsLikeMachine image program p) where
  abbrev is : IsTranslated image program p
  is = like.translated

  -- Graphs and bodies by their entries.

  differ : all_differ (map (λ (g : Graph). g.entry) p.graphs) ≡ true
  differ = (well-formed image program p is).entries

  graph_known : (graph : Graph) → Contains p.graphs graph → graph_at p.graphs graph.entry ≡ Some graph
  graph_known graph c = found_by_key (λ (g : Graph). g.entry) p.graphs graph differ c

  body_known : (body : Body) → Contains (bodies_of program) body → body_at (bodies_of program) (entry_of body) ≡ Some body
  body_known body c =
      found_by_key entry_of (bodies_of program) body
      (ap all_differ (sym (map_zipped (IsBeside program.layout.start_ip) entry_of (λ (g : Graph). g.entry) (λ b g at. sym at.entry) (bodies_of program) p.graphs (beside image program p like))) ∙ differ) c

  -- From the lifted program to the machine.

  module _ (entry : ℕ) (x : refined.Link image program p is entry) where
    abbrev scene : BlockSource
    scene = refined.scene image program p is entry x

    abbrev body : Body
    body = refined.body image program p is entry x

    body_there : Contains (bodies_of program) body
    body_there = found_contained (λ (b : Body). b.proc.entry == entry) (bodies_of program) body x.body_found

    module _ (at : ℕ) (node : Node) (stands : node_in x.proc.nodes.entries at ≡ Some node) (target : ℕ) (is_call : node.instr.op ≡ CallOp target) (y : refined.Link image program p is target) where
      wanted_reused : IsWantedByte image program p like entry x at node stands target is_call y → asked.IsReused (bodies_of program) body at
      wanted_reused b = record {
        point = record { node = node; height = calls.height image program p is entry x at node stands };
        stands = calls.point_is image program p is entry x at node stands;
        target = target;
        calls = is_call;
        number = b.number;
        touched = subst (λ o. Contains (touched_of o) b.number) (sym y.body_found) b.touched;
        k = b.k;
        byte = b.byte;
        wanted = subst (λ n. (is_in_cell body b.k ≡ false) ⊎ ((after : ℕ) × Contains node.succ.items after × Wanted (machine image program p) n after (in_frame b.k))) (sym x.entry_is) b.wanted;
      }

    -- what stands first at an instruction of which a call is the first point
    first_stmt : (stmts : List Stmt) (o : Option ℕ) (at : ℕ) (site : Site) (sites : List Site) (s : Stmt) → site ∷ sites ≡ map Executes stmts ++ end_sites scene o at → site ≡ Executes s
        → (rest : List Stmt) × (stmts ≡ s ∷ rest)
    first_stmt [] None at site sites s e f = absurd (cc (e, f))
    first_stmt [] (Some next) at site sites s e f = absurd (cc e)
    first_stmt (t ∷ stmts) o at site sites s e f = let same : t ≡ s = cc (e, f) in (stmts, ap (λ a. a ∷ stmts) same)

    module _ (position : Position) (location : Loc) (again : IsReused p entry position location) where
      abbrev call : Stmt
      call = Call again.results again.callee again.arguments again.depth

      site_there : site_of x.graph position ≡ Executes call
      site_there = ap (λ o. site_of (graph_or_none o) position) (sym x.graph_found) ∙ again.calls

      -- a result that doesn't pass is a temporary
      temporary : (called : Procedure) → again.results ≡ results_of called → (i : ℕ) × (returned_place i ≡ location)
      temporary called e = elim (Contains-append_cases passed returned location (subst (λ ls. Contains ls location) e again.given)) [
        | inl among ↦ absurd (clash (contains_among passed location among) again.argument)
        | inr there ↦ let found = from_map returned_place (range_with_len 0 (2 * length (given_back called))) location there in (found.0, found.2)
      ]
        where
          returned : List Loc
          returned = map returned_place (range_with_len 0 (2 * length (given_back called)))

      at_call : (at : ℕ) (node : Node) (stands : node_in x.proc.nodes.entries at ≡ Some node) (target : ℕ) (is_call : node.instr.op ≡ CallOp target) (rest : List Stmt)
          → stmts_at scene at ≡ call ∷ rest → begin_at scene at ≡ position → IsOfSummaries (bodies_of program) ReusedArgument (block_in x.graph position.block).at
      at_call at node stands target is_call rest stmts begin = elim (refined.stands image program p is target) [
        | Standing.missing none ↦ absurd (no_stmts (sym stmts ∙ reused.stmts_are image program p is entry x at node stands target is_call
            ∙ ap (calling (refined.procedure image program p is entry x) (calls.height image program p is entry x at node stands)) none.procedure_none))
        | Standing.linked y ↦ by y
      ]
        where
          no_stmts : call ∷ rest ≡ [] → ⊥
          no_stmts e = cc e

          by : refined.Link image program p is target → IsOfSummaries (bodies_of program) ReusedArgument (block_in x.graph position.block).at
          by y =
              let called = refined.procedure image program p is target y in
              let same_call : call ∷ rest ≡ reused.call image program p is entry x at node stands target is_call y ∷ reused.taking image program p is entry x at node stands target is_call y =
              sym stmts ∙ reused.stmts_there image program p is entry x at node stands target is_call y in
              let results : again.results ≡ results_of called = cc same_call in
              let t = temporary called results in
              let wanted = subst (λ l. Wanted (inner image program p) entry (next_of (begin_at scene at)) l) (sym {a = returned_place t.0} {b = location} t.1)
              (subst (λ a. Wanted (inner image program p) entry (next_of a) location) (sym begin) again.wanted) in
              let byte = reused.temporary_wanted image program p like entry x at node stands target is_call y (8 + t.0) wanted in
              let where_is : at ≡ (block_in x.graph position.block).at =
              sym {a = (block_in x.graph (begin_at scene at).block).at} (reused.block_at image program p is entry x at node stands target is_call) ∙ ap (λ (a : Position). (block_in x.graph a.block).at) begin in
              subst (IsOfSummaries (bodies_of program) ReusedArgument) where_is (argument_reused body_there (wanted_reused at node stands target is_call y byte))

      at_node : (at : ℕ) (node : Node) (others : List Position) → node_in x.proc.nodes.entries at ≡ Some node → points_at scene at ≡ position ∷ others
          → IsOfSummaries (bodies_of program) ReusedArgument (block_in x.graph position.block).at
      at_node at node others stands points = by node.instr.op refl
        where
          has : HasInstructions scene x.graph
          has = refined.has image program p is entry x

          first : (rest : List Stmt) × (stmts_at scene at ≡ call ∷ rest)
          first =
              first_stmt (stmts_at scene at) (onward (nodes_in scene) (entry_in scene) at) at (site_of x.graph position) (map (site_of x.graph) others) call
              (ap (map (site_of x.graph)) (sym points) ∙ has.sites at node stands) site_there

          begin : begin_at scene at ≡ position
          begin = has.begins at position others points

          is_free : is_call_op node.instr.op ≡ false → IsCallFree (stmts_at scene at)
          is_free other =
              subst IsCallFree (sym (ap (λ o. node_stmts scene o (node_in (nodes_in scene) at)) (calls.high image program p is entry x at node stands) ∙ ap (node_stmts scene (Some (calls.height image program p is entry x at node stands))) stands))
              (node-free scene.cpu scene.procedures scene.procedure (calls.height image program p is entry x at node stands) node other)

          not_free : is_call_op node.instr.op ≡ false → ⊥
          not_free other = clash (ap (list_any is_call) first.1) (is_free other)

          by : (op : Op) → node.instr.op ≡ op → IsOfSummaries (bodies_of program) ReusedArgument (block_in x.graph position.block).at
          by (CallOp target) e = at_call at node stands target e first.0 first.1 begin
          by op e = absurd (not_free (ap is_call_op e))

      here : IsOfSummaries (bodies_of program) ReusedArgument (block_in x.graph position.block).at
      here =
          let found = (refined.has image program p is entry x).calls position again.callee (ap (λ s. (sums.action_at x.graph.pushed s).callee) site_there) in
          by found.0 found.1 found.2 (node_in x.proc.nodes.entries found.0) refl
        where
          by : (at : ℕ) (others : List Position) → points_at scene at ≡ position ∷ others → (o : Option Node) → node_in x.proc.nodes.entries at ≡ o
              → IsOfSummaries (bodies_of program) ReusedArgument (block_in x.graph position.block).at
          by at others points None e = absurd (no_point (sym points ∙ ap (λ o. points_by scene o at) e))
            where
              no_point : position ∷ others ≡ [] → ⊥
              no_point e = cc e
          by at others points (Some node) e = at_node at node others e points

  reused_up : (at : ℕ) → IsReusedAt p at → IsOfSummaries (bodies_of program) ReusedArgument at
  reused_up at fault = elim (refined.stands image program p is fault.graph.entry) [
    | Standing.missing none ↦ absurd (no_graph (sym (graph_known fault.graph fault.there) ∙ none.graph_none))
    | Standing.linked x ↦
        let one : x.graph ≡ fault.graph = cc (x.graph_found, graph_known fault.graph fault.there) in
        subst (IsOfSummaries (bodies_of program) ReusedArgument) (ap (λ g. (block_in g fault.position.block).at) one ∙ fault.stands)
        (here fault.graph.entry x fault.position fault.location fault.reused)
  ]
    where
      no_graph : {g : Graph} → Some g ≡ None → ⊥
      no_graph e = cc e

  -- From the machine's summaries to those of the lifted program.

  module _ (entry : ℕ) (x : refined.Link image program p is entry) (at : ℕ) (again : asked.IsReused (bodies_of program) (refined.body image program p is entry x) at) where
    module _ (node : Node) (stands : node_in x.proc.nodes.entries at ≡ Some node) where
      abbrev tall : ℕ
      tall = calls.height image program p is entry x at node stands

      point_one : again.point ≡ record { node = node; height = tall }
      point_one = cc (again.stands, calls.point_is image program p is entry x at node stands)

      is_call_there : node.instr.op ≡ CallOp again.target
      is_call_there = ap op_of (sym point_one) ∙ again.calls

      abbrev Result : Type 0
      Result = IsReusedAt p at

      with_callee : refined.Link image program p is again.target → Result
      with_callee y =
          let called = refined.procedure image program p is again.target y in
          let byte : IsWantedByte image program p like entry x at node stands again.target is_call_there y = record {
            number = again.number;
            touched = subst (λ o. Contains (touched_of o) again.number) y.body_found again.touched;
            k = again.k;
            byte = subst (λ (pt : Point). is_within again.k (passed_word pt.height again.number) ≡ true) point_one again.byte;
            wanted =
                subst (λ (pt : Point). (is_in_cell (refined.body image program p is entry x) again.k ≡ false)
                ⊎ ((after : ℕ) × Contains pt.node.succ.items after × Wanted (machine image program p) entry after (in_frame again.k))) point_one
                (subst (λ n. (is_in_cell (refined.body image program p is entry x) again.k ≡ false)
                ⊎ ((after : ℕ) × Contains again.point.node.succ.items after × Wanted (machine image program p) n after (in_frame again.k))) x.entry_is again.wanted);
          } in
          let t = reused.byte_wanted image program p like entry x at node stands again.target is_call_there y byte in
          let points = reused.call_points image program p is entry x at node stands again.target is_call_there y in
          let i = back_returned tall 0 (given_back called) (2 * length (given_back called)) t.0 t.1.0 (omega arith) in
          let inside : Contains (results_of called) (Temp t.0.1) =
          Contains-append_right passed (map returned_place (range_with_len 0 (2 * length (given_back called)))) (Temp t.0.1)
          (subst (λ l. Contains (map returned_place (range_with_len 0 (2 * length (given_back called)))) l) (sym (ap (λ n. Temp n) i.1))
          (in_map returned_place (range_with_len 0 (2 * length (given_back called))) i.0 i.2)) in
          let first = begin_at (refined.scene image program p is entry x) at in
          let again_inner : IsReused p entry first (Temp t.0.1) = record {
            results = results_of called;
            callee = called.proc.entry;
            arguments = arguments_of (refined.procedure image program p is entry x) tall called;
            depth = tall + 2;
            calls = ap (λ o. site_of (graph_or_none o) first) x.graph_found ∙ points.site;
            given = inside;
            argument = refl;
            wanted = t.1.1;
          } in
          record {
            graph = x.graph;
            there = found_contained (λ (g : Graph). g.entry == entry) p.graphs x.graph x.graph_found;
            position = first;
            location = Temp t.0.1;
            reused = subst (λ n. IsReused p n first (Temp t.0.1)) (sym (found_entry p.graphs entry x.graph x.graph_found)) again_inner;
            stands = reused.block_at image program p is entry x at node stands again.target is_call_there;
          }

      with_node : Result
      with_node = elim (refined.stands image program p is again.target) [
        | Standing.missing none ↦ absurd (Contains-none again.number (subst (λ o. Contains (touched_of o) again.number) none.body_none again.touched))
        | Standing.linked y ↦ with_callee y
      ]

    reused_there : IsReusedAt p at
    reused_there = by (node_in x.proc.nodes.entries at) refl
      where
        by : (o : Option Node) → node_in x.proc.nodes.entries at ≡ o → IsReusedAt p at
        by None e =
            absurd (no_point (sym again.stands ∙ ap (λ o. point_with o (find_at x.own at)) (found_node x.proc.nodes.entries at ∙ e)))
          where
            no_point : {pt : Point} → Some pt ≡ None → ⊥
            no_point e = cc e
        by (Some node) e = with_node node e

  reused_down : (body : Body) (at : ℕ) → Contains (bodies_of program) body → asked.IsReused (bodies_of program) body at → IsReusedAt p at
  reused_down body at c again = elim (refined.stands image program p is (entry_of body)) [
    | Standing.missing none ↦ absurd (no_body (sym (body_known body c) ∙ none.body_none))
    | Standing.linked x ↦
        let one : body ≡ refined.body image program p is (entry_of body) x = cc (body_known body c, x.body_found) in
        reused_there (entry_of body) x at (subst (λ b. asked.IsReused (bodies_of program) b at) one again)
  ]
    where
      no_body : {b : Body} → Some b ≡ None → ⊥
      no_body e = cc e

  -- All together.

  up : (fault : SumsFault) → IsFault p fault → IsConstructOf (bodies_of program) fault
  up (ArgumentReused at) fault = reused_up at fault
  up (SeveralResults at) fault = several_up image program p like at fault
  up Memory fault = tt

  reused_of : (kind : ConstructKind) (at : ℕ) → kind ≡ ReusedArgument → IsOfSummaries (bodies_of program) kind at → IsReusedAt p at
  reused_of _ _ e (argument_reused {body = body} {at = place} c again) = reused_down body place c again
  reused_of _ _ e (several_results {body = body} c several) =
      absurd (let apart : 10 ≡ 9 = ap construct_number e in omega (arith, apart))

  several_of : (sums : List Summary) → AreSummaries p sums → (kind : ConstructKind) (at : ℕ) → kind ≡ ManyResults → IsOfSummaries (bodies_of program) kind at → GivesSeveral p at
  several_of sums are _ _ e (argument_reused {body = body} {at = place} c again) =
      absurd (let apart : 9 ≡ 10 = ap construct_number e in omega (arith, apart))
  several_of sums are _ _ e (several_results {body = body} c several) = several_down image program p like body sums are c several

  down : (sums : List Summary) → AreSummaries p sums → (fault : SumsFault) → IsConstructOf (bodies_of program) fault → IsFault p fault
  down sums are (ArgumentReused at) construct = reused_of ReusedArgument at refl construct
  down sums are (SeveralResults at) construct = several_of sums are ManyResults at refl construct
  down sums are Memory construct = tt

  none : (sums : List Summary) → AreSummaries p sums → ReusesNone p → GivesOneValue sums → (kind : ConstructKind) (at : ℕ) → ¬ IsOfSummaries (bodies_of program) kind at
  none sums are reuses one _ _ (argument_reused {body = body} {at = place} c again) =
      let fault = reused_down body place c again in reuses fault.graph.entry fault.position fault.location fault.reused
  none sums are reuses one _ _ (several_results {body = body} c several) = several_none image program p like body sums are one c several

pub faults-are_constructs : FaultsAreConstructs
faults-are_constructs image program p fault like is = up image program p like fault is

pub constructs-are_faults : ConstructsAreFaults
constructs-are_faults image program p sums fault like are construct = down image program p like sums are fault construct

pub summed-programs_have_none : SummedProgramsHaveNone
summed-programs_have_none image program p sums like are reuses one kind at construct = none image program p like sums are reuses one kind at construct

pub summaries-are_lifted : SummariesAreLifted
summaries-are_lifted = record {
  are = λ image program p summaries like. summaries_are image program p like summaries;
  known = λ image program p sums like are. summaries_known image program p like sums are;
}
