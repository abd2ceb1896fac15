-- The first state of a text of functions stands for the program's.
use Rattle.std.proofs.Common.{◌≡◌, ℕ, ◌+◌, ◌%◌, true, List, [], Some, refl, sym, ap, ◌∙◌, subst}
use Rattle.std.specs.Prelude.{get_or, codes, take, All}
use Rattle.std.specs.List.{list_all}
use Rattle.std.proofs.lemmas.List.Elements.{All-nil, All-head}
use Rattle.std.proofs.lemmas.Option.{slice_get-get_or}
use Rattle.dcc_ir.specs.declared.syntax.Loc.{Loc}
use Rattle.dcc_ir.specs.Families.{Family}
use Rattle.dcc_ir.specs.Live.{is_among, block_in}
use Rattle.dcc_ir.specs.Location.{filled}
use Rattle.dcc_ir.specs.Run as inner_run
use Rattle.dcc_ir.specs.Tree as inner
use Rattle.dcc_ir.specs.WellFormed.{is_param_list, memory_params_last, IsGraph}
use Rattle.dcc_c.specs.Placement.{first_base}
use Rattle.dcc_c.specs.Run as text_run
use Rattle.dcc_c.specs.Run.{Continuation, frame_of}
use Rattle.dcc_c.specs.Tree.{Function, Tree}
use Rattle.dcc_c.specs.Value.{Binding}
use Rattle.dcc_text.specs.Holding.{Locations, Holds, Setting, AreWaiting}
use Rattle.dcc_text.proofs.FirstRuns.{opening}
use Rattle.dcc_variables.specs.Functions.{parameters_from, function_spelling}
use Rattle.dcc_plan.specs.CallLaws.{IsBeginning, FirstStatesStand}
use Rattle.dcc_variables.specs.FunctionLaws.{has_name}
use Rattle.dcc_plan.specs.Calls.{all_byte_places, IsNamed, Opens, StandsThere}
use Rattle.dcc_plan.proofs.Bindings.{is_unplaced, AreArguments}
use Rattle.dcc_plan.proofs.CallSteps.{setting, setting-is}
use Rattle.dcc_plan.proofs.HoldLaws.{frame-weaker}
use Rattle.dcc_plan.proofs.Frames.{variables, variables-are, AtFirst, frame-here}
use Rattle.dcc_plan.proofs.Passings.{values_after}

module _ (opens : Opens) (function : inner.Graph → Function) (matters : inner.Graph → Family) (Continues : Continuation → inner.Graph → inner.Block → List inner.Stmt → Type 0)
    (p : inner.Program) (tree : Tree) (g : inner.Graph) (others : List inner.Graph) (fill : ℕ) (input : List ℕ)
    (is : IsBeginning opens (setting opens function matters Continues) p tree g others) where
  abbrev st : Setting
  st = setting opens function matters Continues

  abbrev f : Function
  f = function g

  abbrev base : ℕ
  base = (p.hi + 2) % 65536

  of-first : (P : inner.Graph → Type 0) → All P p.graphs → P g
  of-first P all = All-head P g others (subst (All P) is.graphs all)

  named : IsNamed st g
  named = of-first (IsNamed st) is.functions.graphs

  formed : IsGraph g
  formed = of-first IsGraph is.well.graphs

  listed : is_param_list g.bits g.params ≡ true
  listed = of-first (λ q. is_param_list q.bits q.params ≡ true) is.well.params

  last-ones : memory_params_last g.params ≡ true
  last-ones = of-first (λ q. memory_params_last q.params ≡ true) is.well.memory_last

  no-params : g.params ≡ []
  no-params = All-head (λ (q : inner.Graph). q.params ≡ []) g [] (subst (λ gs. All (λ (q : inner.Graph). q.params ≡ []) (take 1 gs)) is.graphs is.well.start)

  unplaced : list_all (is_unplaced f.body) f.params ≡ true
  unplaced = ap (λ h. list_all (is_unplaced f.body) h.params) is.start ∙ ap (λ ps. list_all (is_unplaced f.body) (parameters_from g.bits 0 ps)) no-params

  no-arguments : AreArguments g.bits g.params [] []
  no-arguments = subst (λ ps. AreArguments g.bits ps [] []) (sym no-params) tt

  -- the states in which the first block begins
  abbrev first : inner.Block
  first = block_in g 0

  abbrev begun : inner_run.State
  begun = inner_run.entering (Some first) (opening p g fill input)

  begun-is : inner_run.first_state p fill input ≡ begun
  begun-is =
      ap (λ graphs. inner_run.opened (get_or graphs 0 inner_run.no_graph) p fill input) is.graphs
      ∙ ap (λ o. inner_run.entering o (opening p g fill input)) (slice_get-get_or g.blocks 0 inner_run.no_block formed.begins)

  abbrev start : text_run.State
  start = text_run.first_state tree f fill input

  abbrev there : List Binding
  there = variables g named.few.variables named.few.params named.apart formed listed last-ones f (codes "start") is.start unplaced fill base [] [] no-arguments

  variables-there : (frame_of f (first_base tree.hi) fill []).variables ≡ there
  variables-there =
      ap (λ hi. (frame_of f (first_base hi) fill []).variables) is.hi
      ∙ variables-are g named.few.variables named.few.params named.apart formed listed last-ones f (codes "start") is.start unplaced fill base [] [] no-arguments

  abbrev Held : Locations
  Held = AtFirst g named.few.variables named.few.params named.apart formed listed last-ones f (codes "start") is.start unplaced fill base [] [] no-arguments

  held : (l : Loc) → matters g first first.stmts l → Held l
  held l mine = (named.named first first.stmts l mine, ap (λ ps. is_among (all_byte_places ps) l) no-params)

  starts : Holds (function_spelling g) (matters g first first.stmts) (AreWaiting st) begun start
  starts =
      let x = frame-here g named.few.variables named.few.params named.apart formed listed last-ones f (codes "start") is.start unplaced fill base [] [] no-arguments
      begun.running refl (sym (ap (λ ps. values_after ps [] (filled g.bits fill)) no-params)) refl start.frame (ap first_base is.hi) variables-there in record {
        frame = frame-weaker (function_spelling g) Held (matters g first first.stmts) held begun.running first first.stmts true start.frame x;
        waiting = tt;
        memory = is.memory fill;
        input = refl;
        events = refl;
        end = refl;
      }

  pub first-stands : StandsThere st fill (inner_run.first_state p fill input) start
  first-stands =
      subst (λ i. StandsThere st fill i start) (sym begun-is)
      (record { function = refl; filled = refl; holds = starts; results = All-nil (λ (w : inner_run.Waiting). All (has_name w.caller.graph) w.results) })

pub first-states-stand : (opens : Opens) (setting : Setting) → FirstStatesStand opens setting
first-states-stand opens setting p tree g others fill input is =
    subst (λ st. IsBeginning opens st p tree g others → StandsThere st fill (inner_run.first_state p fill input) (text_run.first_state tree (st.function g) fill input))
    (setting-is setting is.functions.spelled) (first-stands opens setting.function setting.matters setting.Continues p tree g others fill input) is
