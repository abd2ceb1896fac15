-- The text of a whole program is writable.
use Rattle.std.proofs.Common.{◌≡◌, ℕ, ◌+◌, ◌^◌, ◌<◌, ◌≤◌, Bool, true, false, cond, ◌==◌, inl, inr, List, [], ◌∷◌, ◌++◌, length, map, flat_map, Some, None, refl, sym, ap, ◌∙◌, subst, eqb-true, true≢false, arith}
use Rattle.std.specs.Prelude.{◌⊎◌, ◌&&◌, All, Contains, filter, codes}
use Rattle.std.specs.List.{list_all}
use Rattle.std.proofs.lemmas.Bool.{and_parts, and_from}
use Rattle.std.proofs.lemmas.List.Elements.{All-contains, All-head, All-tail, All-weaker}
use Rattle.std.proofs.lemmas.List.Folds.{list_all-append}
use Rattle.dcc_ir.specs.declared.syntax.Loc.{Loc}
use Rattle.dcc_ir.specs.declared.syntax.Param.{Param}
use Rattle.dcc_ir.specs.Measure.{depth_of}
use Rattle.dcc_ir.specs.Run.{is_call, graph_at}
use Rattle.dcc_ir.specs.Tree as inner
use Rattle.dcc_ir.specs.Use.{reads_of, exprs_of, exit_exprs, block_exprs, graph_exprs}
use Rattle.dcc_ir.specs.Value.{width_of}
use Rattle.dcc_ir.specs.WellFormed.{ret_widths, all_ret_widths, IsGraph, IsCall, IsCalling, IsProgram}
use Rattle.dcc_ir.proofs.ListLaws.{all_had, left_part, all_parts}
use Rattle.dcc_ir.proofs.LocationLaws.{Contains-here, Contains-later, Contains-none, Contains-cases}
use Rattle.dcc_c.specs.Grammar.{outermost, is_name}
use Rattle.dcc_c.specs.Rules as rules
use Rattle.dcc_c.specs.Rules.{declared_in, has_element, allows_stmt, shallow_stmt, allows_labels, IsAllowedFunction, AreAllowed, no_more as all_allowed, one_more as next_allowed}
use Rattle.dcc_c.specs.Parts.{stmts_in}
use Rattle.dcc_c.specs.Tree.{Word, Stmt, Assign, Lines, Global, Variable, Function, Tree}
use Rattle.dcc_c.proofs.Writable.{is_writable_param, is_writable_local, is_writable_function, is_writable_stmt, are_writable_lines, IsWritable}
use Rattle.dcc_text.specs.Allowed.{AreDeclared, IsAllowedStmt}
use Rattle.dcc_text.specs.Holding.{IsWithin}
use Rattle.dcc_text.specs.Stmts.{stmt_text}
use Rattle.dcc_sums.proofs.ArgumentLaws.{contains_flat}
use Rattle.dcc_variables.specs.FunctionLaws.{HasFewNames, has_name, IsServedStmt, IsServedByFunction}
use Rattle.dcc_variables.specs.Functions.{function_name, function_names, parameter_name, parameters_from, function_spelling, is_own, memory_from, function_shape, type_for, type_for_any, openings}
use Rattle.dcc_variables.specs.Variables.{Shape, shape_of, variable, declarations, frame_array}
use Rattle.dcc_variables.proofs.Declared.{locals-writable, locals-have-elements}
use Rattle.dcc_variables.proofs.DeclaredFunctions.{parameter-word, function-declared}
use Rattle.dcc_variables.proofs.FramePlaces.{fewer-bytes}
use Rattle.dcc_variables.proofs.Served.{functions-served}
use Rattle.dcc_variables.proofs.Words.{known-differ-all, own-differ-all}
use Rattle.dcc_plan.specs.Allowed.{CallsFit, may_give, may_return, ReturnsFit, AreAllowedLines}
use Rattle.dcc_plan.specs.AllowedCalls.{IsPlaceFor}
use Rattle.dcc_plan.specs.PlanText.{plan_text}
use Rattle.dcc_plan.proofs.AllowedCalls.{function-word, calls-allowed, openings-allowed}
use Rattle.dcc_plan.proofs.AllowedPlans.{texts-allowed}
use Rattle.dcc_plan.proofs.SpelledGraphs.{spelled-graph}
use Rattle.dcc_pipe.specs.Control.{Control, IsControlOf, AreControls}
use Rattle.dcc_pipe.specs.GlobalData.{AreGlobalsFor}
use Rattle.dcc_tidy.specs.Tidied.{text_levels}
use Rattle.dcc_pipe.specs.WholeText.{TakesFew, opened, before_lines, body_of, text_function, other_functions, whole_text}
use Rattle.dcc_pipe.proofs.OpeningLines.{is_assignment, openings-assign}
use Rattle.dcc_pipe.proofs.FunctionTables.{found-by_name}
use Rattle.dcc_pipe.proofs.PlainTexts.{plain-text}
use Rattle.dcc_pipe.proofs.MatteringLaws.{mattering, mattering-matters, opened-named}
use Rattle.dcc_pipe.proofs.WholeTexts.{differ-left, differ-right, with_first}

-- Bodies that open with assignments.

module _ (tree : Tree) (f : Function) where
  opened-lines : (stmts : List Stmt) → list_all is_assignment stmts ≡ true → All (IsAllowedStmt tree f 200) stmts
      → (lines : Lines) → AreAllowedLines tree f 200 lines → AreAllowedLines tree f 200 (before_lines stmts lines)
  opened-lines [] all allowed lines are = are
  opened-lines (Assign place e ∷ stmts) all allowed lines are =
      let here = All-head (IsAllowedStmt tree f 200) (Assign place e) stmts allowed in
      let later = opened-lines stmts all (All-tail (IsAllowedStmt tree f 200) (Assign place e) stmts allowed) lines are in
      let rest = before_lines stmts lines in
      record {
        writable = and_from (is_writable_stmt outermost (Assign place e)) (are_writable_lines outermost false rest) (here.writable outermost) later.writable;
        labels = later.labels;
        types = and_from (allows_stmt tree f (Assign place e)) (list_all (allows_stmt tree f) (stmts_in rest)) here.allowed later.types;
        depth = and_from (shallow_stmt 200 (Assign place e)) (list_all (shallow_stmt 200) (stmts_in rest)) here.shallow later.depth;
      }
  opened-lines (stmt ∷ stmts) all allowed lines are = absurd (true≢false (sym all))

-- Declarations.

-- what holds of all variables holds of those that are no parameters
module _ (P : Variable → Bool) (shape : Shape) where
  some-variables : (q : Loc → Bool) (ls : List Loc) → list_all P (map (variable shape) ls) ≡ true
      → list_all P (map (variable shape) (filter q ls)) ≡ true
  some-variables q [] all = refl
  some-variables q (l ∷ ls) all =
      let parts = and_parts (P (variable shape l)) (list_all P (map (variable shape) ls)) all in
      by (q l) parts.0 (some-variables q ls parts.1)
    where
      by : (b : Bool) → P (variable shape l) ≡ true → list_all P (map (variable shape) (filter q ls)) ≡ true
          → list_all P (map (variable shape) (cond b (l ∷ filter q ls) (filter q ls))) ≡ true
      by true here later = and_from (P (variable shape l)) (list_all P (map (variable shape) (filter q ls))) here later
      by false here later = later

  -- the declarations of some locations, and of the array, which has no byte or as many, pass
  own-pass : (q : Loc → Bool) (bytes : ℕ) → (bytes ≡ 0) ⊎ (bytes ≡ shape.frame) → list_all P (declarations shape) ≡ true
      → list_all P (map (variable shape) (filter q shape.locations) ++ frame_array bytes) ≡ true
  own-pass q bytes fewer all =
      let parts = and_parts (list_all P (map (variable shape) shape.locations)) (list_all P (frame_array shape.frame))
      (sym (list_all-append P (map (variable shape) shape.locations) (frame_array shape.frame)) ∙ all) in
      list_all-append P (map (variable shape) (filter q shape.locations)) (frame_array bytes)
      ∙ and_from (list_all P (map (variable shape) (filter q shape.locations))) (list_all P (frame_array bytes))
      (some-variables q shape.locations parts.0) (array fewer parts.1)
    where
      array : (bytes ≡ 0) ⊎ (bytes ≡ shape.frame) → list_all P (frame_array shape.frame) ≡ true
          → list_all P (frame_array bytes) ≡ true
      array (inl none) is = ap (λ n. list_all P (frame_array n)) none
      array (inr same) is = ap (λ n. list_all P (frame_array n)) same ∙ is

params-writable : (bits : List ℕ) (place : ℕ) (params : List Param) → place + length params < 2 ^ 63
    → list_all is_writable_param (parameters_from bits place params) ≡ true
params-writable bits place [] small = refl
params-writable bits place (q ∷ params) small =
    and_from (is_name (parameter_name place) && true) (list_all is_writable_param (parameters_from bits (place + 1) params))
    (and_from (is_name (parameter_name place)) true (parameter-word place (omega (arith, small))) refl)
    (params-writable bits (place + 1) params (omega (arith, small)))

-- Results.

gives-type : (bits : List ℕ) (values : List inner.Expr) → may_give (type_for (map (width_of bits) values)) values ≡ true
gives-type bits [] = refl
gives-type bits (e ∷ values) = refl

first-type : (widths : List ℕ) (all : List (List ℕ)) → Contains all widths → ((a : List ℕ) → Contains all a → a ≡ widths)
    → type_for_any all ≡ type_for widths
first-type widths [] there same = absurd (Contains-none widths there)
first-type widths (first ∷ all) there same = ap type_for (same first (Contains-here first all))

no-type : (all : List (List ℕ)) → All (λ widths. widths ≡ []) all → type_for_any all ≡ None
no-type [] none = refl
no-type (widths ∷ all) none = ap type_for (All-head (λ widths. widths ≡ []) widths all none)

found : (graphs : List inner.Graph) (entry : ℕ) (g : inner.Graph) → graph_at graphs entry ≡ Some g
    → Contains graphs g × (g.entry ≡ entry)
found [] entry g is = absurd (cc)
found (x ∷ graphs) entry g is = by (x.entry == entry) refl is (found graphs entry g)
  where
    by : (b : Bool) → (x.entry == entry) ≡ b → cond b (Some x) (graph_at graphs entry) ≡ Some g
        → (graph_at graphs entry ≡ Some g → Contains graphs g × (g.entry ≡ entry)) → Contains (x ∷ graphs) g × (g.entry ≡ entry)
    by true same is later =
        let it : x ≡ g = cc in
        (subst (Contains (x ∷ graphs)) it (Contains-here x graphs), subst (λ (y : inner.Graph). y.entry ≡ entry) it (eqb-true x.entry entry same))
    by false other is later = let rest = later is in (Contains-later x graphs g rest.0, rest.1)

-- A program.

module _ (control : Control) (globals : List Global) (first : inner.Graph) (others : List inner.Graph) (image : List ℕ) (lo hi : ℕ) where
  abbrev program : inner.Program
  program = with_first first others image lo hi

  abbrev tree : Tree
  tree = whole_text control globals program

  other-names : (graphs : List inner.Graph)
      → map (λ f. f.name) (other_functions control graphs) ≡ map (λ graph. function_name graph.entry) graphs
  other-names [] = refl
  other-names (g ∷ graphs) = ap (λ ws. function_name g.entry ∷ ws) (other-names graphs)

  all-names : map (λ f. f.name) tree.functions ≡ function_names program.graphs
  all-names = ap (λ ws. codes "start" ∷ ws) (other-names others)

  module _ (well : IsProgram program) (few : All HasFewNames program.graphs)
      (shallow : All (λ g. All (λ e. depth_of e ≤ text_levels) (graph_exprs g)) program.graphs)
      (takes : All (λ g. All (λ b. All (TakesFew program) b.stmts) g.blocks) program.graphs)
      (controls : AreControls control program) (may_declare : AreGlobalsFor program globals) where
    functions-differ : rules.all_differ (map (λ f. f.name) tree.functions) ≡ true
    functions-differ =
        differ-left (map (λ f. f.name) tree.functions) _
        (differ-right (map (λ g. g.name) tree.globals) _ (known-differ-all program tree well may_declare.names all-names))

    module _ (name : Word) (g : inner.Graph) (c : Contains program.graphs g) where
      abbrev f : Function
      f = text_function (control g) name g

      formed : IsGraph g
      formed = All-contains IsGraph program.graphs g well.graphs c

      own : IsControlOf g (control g)
      own = All-contains (λ g. IsControlOf g (control g)) program.graphs g controls c

      own-few : HasFewNames g
      own-few = All-contains HasFewNames program.graphs g few c

      own-shallow : All (λ e. depth_of e ≤ text_levels) (graph_exprs g)
      own-shallow = All-contains (λ g. All (λ e. depth_of e ≤ text_levels) (graph_exprs g)) program.graphs g shallow c

      declared : AreDeclared (declared_in tree f) (function_spelling g)
      declared = function-declared g own-few.variables own-few.params formed tree f refl refl

      place : IsPlaceFor tree f g text_levels 200
      place = record { declared = declared; enough = omega arith }

      other-there : (graphs : List inner.Graph) (h : inner.Graph) → Contains graphs h
          → Contains (other_functions control graphs) (text_function (control h) (function_name h.entry) h)
      other-there [] h d = absurd (Contains-none h d)
      other-there (x ∷ graphs) h d =
          let of : inner.Graph → Function = λ h. text_function (control h) (function_name h.entry) h in
          let rest = other_functions control graphs in
          Contains-cases x graphs h (Contains (other_functions control (x ∷ graphs)) (of h))
          (λ same. subst (λ y. Contains (of y ∷ rest) (of h)) (sym same) (Contains-here (of h) rest))
          (λ later. Contains-later (of x) rest (of h) (other-there graphs h later)) d

      call-fits : (b : inner.Block) → Contains g.blocks b → (stmt : inner.Stmt) → Contains b.stmts stmt → is_call stmt ≡ true
          → IsAllowedStmt tree f 200 (stmt_text (function_spelling g) 2 stmt)
      call-fits b inside (inner.Call results entry arguments own) there is =
          let stmt = inner.Call results entry arguments own in
          let served = All-contains (IsServedStmt g) b.stmts stmt (All-contains (IsServedByFunction g) g.blocks b (functions-served g formed) inside).stmts there in
          let call : IsCall program g results entry arguments =
          All-contains (IsCalling program g) b.stmts stmt (All-contains (λ b. All (IsCalling program g) b.stmts) g.blocks b
          (All-contains (λ g. All (λ b. All (IsCalling program g) b.stmts) g.blocks) program.graphs g well.calls c) inside) there in
          let taken : TakesFew program stmt =
          All-contains (TakesFew program) b.stmts stmt (All-contains (λ b. All (TakesFew program) b.stmts) g.blocks b
          (All-contains (λ g. All (λ b. All (TakesFew program) b.stmts) g.blocks) program.graphs g takes c) inside) there in
          let at = found others entry call.callee call.named in
          let callee = text_function (control call.callee) (function_name entry) call.callee in
          let there_is : Contains tree.functions callee =
          Contains-later (text_function (control first) (codes "start") first) (other_functions control others) callee
          (subst (λ n. Contains (other_functions control others) (text_function (control call.callee) (function_name n) call.callee)) at.1 (other-there others call.callee at.0)) in
          let low = All-contains (λ b. All (λ e. depth_of e ≤ text_levels) (block_exprs b)) g.blocks b
          (all_parts (λ e. depth_of e ≤ text_levels) block_exprs g.blocks own-shallow) inside in
          calls-allowed program tree f callee g results entry arguments own 2 text_levels 200 place served.formed call refl
          (found-by_name tree.functions functions-differ callee there_is) taken.0 (taken.1 call.callee call.named) served.written
          (record {
            named = All-weaker (IsWithin (function_spelling g) (has_name g)) (λ e. All (has_name g) (reads_of e)) (λ e within. within.reads) arguments served.within;
            shallow = All-contains (λ stmt. All (λ e. depth_of e ≤ text_levels) (exprs_of stmt)) b.stmts stmt
                (all_parts (λ e. depth_of e ≤ text_levels) exprs_of b.stmts (left_part (λ e. depth_of e ≤ text_levels) (flat_map exprs_of b.stmts) (exit_exprs b.exit) low)) there;
          })
      call-fits b inside (inner.Set location e) there is = absurd (true≢false (sym is))
      call-fits b inside (inner.Fetch location width address) there is = absurd (true≢false (sym is))
      call-fits b inside (inner.Store width address e) there is = absurd (true≢false (sym is))
      call-fits b inside (inner.Div location e) there is = absurd (true≢false (sym is))
      call-fits b inside (inner.Dos number location argument) there is = absurd (true≢false (sym is))

      calls-fit : CallsFit tree f (function_spelling g) 200 g
      calls-fit =
          all_had (λ b. All (λ stmt. is_call stmt ≡ true → IsAllowedStmt tree f 200 (stmt_text (function_spelling g) 2 stmt)) b.stmts) g.blocks
          (λ b inside. all_had (λ stmt. is_call stmt ≡ true → IsAllowedStmt tree f 200 (stmt_text (function_spelling g) 2 stmt)) b.stmts
          (λ stmt there. call-fits b inside stmt there))

      returns-fit : ReturnsFit f g
      returns-fit = all_had (λ b. may_return f.result b.exit ≡ true) g.blocks (λ b inside. by b.exit (λ widths d. contains_flat (λ b. ret_widths g.bits b.exit) g.blocks b widths inside d))
        where
          same : (widths : List ℕ) → Contains (all_ret_widths g) widths → (a : List ℕ) → Contains (all_ret_widths g) a → a ≡ widths
          same widths there a d = All-contains (λ g. (a b : List ℕ) → Contains (all_ret_widths g) a → Contains (all_ret_widths g) b → a ≡ b) program.graphs g well.rets c a widths d there

          by : (exit : inner.Exit) → ((widths : List ℕ) → Contains (ret_widths g.bits exit) widths → Contains (all_ret_widths g) widths)
              → may_return f.result exit ≡ true
          by (inner.Ret values) there =
              let widths = map (width_of g.bits) values in
              let here = there widths (Contains-here widths []) in
              subst (λ type. may_give type values ≡ true) (sym (first-type widths (all_ret_widths g) here (same widths here))) (gives-type g.bits values)
          by (inner.Goto next) there = refl
          by (inner.If test one other) there = refl
          by (inner.Switch e places) there = refl
          by inner.Stop there = refl

      body-allowed : AreAllowedLines tree f 200 (body_of (control g) g)
      body-allowed =
          opened-lines tree f (openings (opened g) g) (openings-assign (function_spelling g) (opened g) 0 g.params)
          (openings-allowed tree f g (opened g) text_levels 200 place formed own-few refl (opened-named g formed))
          (plan_text (function_spelling g) g (control g))
          (texts-allowed tree f (function_spelling g) g (control g) (plan_text (function_spelling g) g (control g)) text_levels 200 declared formed
          (spelled-graph (function_spelling g) g (mattering g) text_levels refl (mattering-matters g formed) (λ b location less is. is.0) own-shallow)
          calls-fit returns-fit (omega arith) own.is_plan own.stands
          (plain-text (function_spelling g) g (control g)))

      fewer : ((function_shape g).frame ≡ 0) ⊎ ((function_shape g).frame ≡ (shape_of g).frame)
      fewer = fewer-bytes (memory_from 0 g.params) g

      function-allowed : IsAllowedFunction tree f
      function-allowed = record {
        own_names = own-differ-all program tree well may_declare.names all-names g own-few.variables own-few.params formed f refl refl;
        labels = body-allowed.labels;
        types = body-allowed.types;
        arrays = own-pass (λ v. has_element v.len) (shape_of g) (is_own g) (function_shape g).frame fewer (locals-have-elements g own-few.variables formed);
        depth = body-allowed.depth;
      }

      function-writable : is_name name ≡ true → is_writable_function f ≡ true
      function-writable named =
          let small = own-few.params in
          and_from (is_name name) _ named
          (and_from (list_all is_writable_param f.params) _ (params-writable g.bits 0 g.params (omega (arith, small)))
          (and_from (list_all is_writable_local f.locals) (are_writable_lines outermost false f.body)
          (own-pass is_writable_local (shape_of g) (is_own g) (function_shape g).frame fewer (locals-writable g own-few.variables formed)) body-allowed.writable))

    others-allowed : (graphs : List inner.Graph) → ((g : inner.Graph) → Contains graphs g → Contains others g)
        → AreAllowed tree (other_functions control graphs) × (list_all is_writable_function (other_functions control graphs) ≡ true)
    others-allowed [] all = (all_allowed, refl)
    others-allowed (g ∷ graphs) all =
        let name = function_name g.entry in
        let c = Contains-later first others g (all g (Contains-here g graphs)) in
        let rest = others-allowed graphs (λ h d. all h (Contains-later g graphs h d)) in (
          next_allowed (function-allowed name g c) rest.0,
          and_from (is_writable_function (text_function (control g) name g)) (list_all is_writable_function (other_functions control graphs))
              (function-writable name g c (function-word g.entry)) rest.1,
        )

    pub whole-writable : IsWritable tree
    whole-writable =
        let c = Contains-here first others in
        let rest = others-allowed others (λ g d. d) in record {
          version = refl;
          globals = may_declare.writable;
          functions = and_from (is_writable_function (text_function (control first) (codes "start") first)) (list_all is_writable_function (other_functions control others))
              (function-writable (codes "start") first c refl) rest.1;
          allowed = record {
            start = text_function (control first) (codes "start") first;
            others = other_functions control others;
            first = refl;
            name = refl;
            no_params = ap (parameters_from first.bits 0) (All-head (λ (g : inner.Graph). g.params ≡ []) first [] well.start);
            no_result = no-type (all_ret_widths first) (All-head (λ (g : inner.Graph). All (λ widths. widths ≡ []) (all_ret_widths g)) first [] well.start_rets);
            names = known-differ-all program tree well may_declare.names all-names;
            functions = next_allowed (function-allowed (codes "start") first c) rest.0;
            lo = omega (arith, well.lo);
            hi = omega (arith, well.hi);
            globals = may_declare.allowed.allowed;
            apart = may_declare.allowed.apart;
            off_stack = may_declare.allowed.off_stack;
          };
        }
