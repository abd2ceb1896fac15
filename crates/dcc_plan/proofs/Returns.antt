-- A step on the text of a Ret, or on the closing brace, goes back to the caller.
use Rattle.std.proofs.Common.{◌≡◌, ℕ, ◌%◌, ◌^◌, ◌<◌, Bool, true, false, List, [], ◌∷◌, length, map, drop, Option, Some, None, is_some, refl, sym, ap, ◌∙◌, subst, true≢false, arith, mod-eq_of_lt}
use Rattle.std.specs.Prelude.{◌||◌, nat_le, if◌then◌else◌, All, Contains}
use Rattle.std.proofs.lemmas.Bool.{and_parts}
use Rattle.std.proofs.lemmas.Nat.{mod_below, pow_pos}
use Rattle.std.proofs.lemmas.List.Elements.{All-contains, All-contains_itself, All-head, All-tail}
use Rattle.dcc_run.specs.End.{Stuck}
use Rattle.dcc_ir.specs.declared.syntax.Loc.{Loc}
use Rattle.dcc_ir.specs.Families.{Family}
use Rattle.dcc_ir.specs.Location.{location_width, same_location, Values, with_value}
use Rattle.dcc_ir.specs.Run as inner_run
use Rattle.dcc_ir.specs.Tree as inner
use Rattle.dcc_ir.specs.Value.{width_of, Fits}
use Rattle.dcc_ir.specs.WellFormed.{is_expr, is_exit, ret_widths, all_ret_widths}
use Rattle.dcc_ir.proofs.ListLaws.{all_parts}
use Rattle.dcc_ir.proofs.LocationLaws.{location_itself, Contains-here, Contains-later, Contains-none, Contains-cases}
use Rattle.dcc_ir.proofs.ReachedLaws.{exit_of}
use Rattle.dcc_c.specs.declared.syntax.Base.TheVariants.{Uchar, Uint, Ulong}
use Rattle.dcc_c.specs.Run as text_run
use Rattle.dcc_c.specs.Run.{Continuation, is_start}
use Rattle.dcc_c.specs.Tree.{Function, Tree}
use Rattle.dcc_c.specs.Types.{bits_of, extended_bits, convert, number_of_type, plain}
use Rattle.dcc_c.specs.Value.{Value, value, converted, Gives, Binding, after_assignment}
use Rattle.dcc_text.specs.Holding.{Holds, IsSpelling, IsWithin, Setting, MattersBesides, AreWaiting, target_for}
use Rattle.dcc_text.specs.Spelled.{unsigned_type}
use Rattle.dcc_text.proofs.Assignments.{held-after}
use Rattle.dcc_variables.specs.Functions.{function_spelling, type_for, type_for_any, ret_text}
use Rattle.dcc_variables.specs.FunctionLaws.{has_name}
use Rattle.dcc_plan.specs.Calls.{IsNamed, Opens, IsCallable, StandsFor}
use Rattle.dcc_plan.specs.CallLaws.{IsReturning, HasReturned, ReturnsEnd, BracesEnd}
use Rattle.dcc_plan.proofs.Arguments.{gives}
use Rattle.dcc_plan.proofs.CallSteps.{setting, respelled, setting-is}
use Rattle.dcc_plan.proofs.HoldLaws.{holds-weaker}
use Rattle.dcc_variables.proofs.ParamNames.{spelling-is}

-- a number of an unsigned type stays the same in it
unsigned-same : (width n : ℕ) → n < 2 ^ bits_of (unsigned_type width) → convert (unsigned_type width) (unsigned_type width) n ≡ n
unsigned-same width n = by (nat_le width 8) (nat_le width 16)
  where
    by : (a b : Bool) → n < 2 ^ bits_of (if a then Uchar else if b then Uint else Ulong)
        → convert (if a then Uchar else if b then Uint else Ulong) (if a then Uchar else if b then Uint else Ulong) n ≡ n
    by true b small = mod-eq_of_lt small
    by false true small = mod-eq_of_lt small
    by false false small = mod-eq_of_lt small

pub later-contained : {X : Type 0} (xs : List X) (x : X) → Contains (drop 1 xs) x → Contains xs x
later-contained [] x c = c
later-contained (y ∷ xs) x c = Contains-later y xs x c

-- what one of them has is what all have
pub type-of-any : (all : List (List ℕ)) (widths : List ℕ) → ((a b : List ℕ) → Contains all a → Contains all b → a ≡ b) → Contains all widths → type_for_any all ≡ type_for widths
type-of-any [] widths same c = absurd (Contains-none widths c)
type-of-any (first ∷ others) widths same c = ap type_for (same first widths (Contains-here first others) c)

-- the widths of what a Ret gives are among those of its graph
pub widths-of : (g : inner.Graph) (block : inner.Block) (values : List inner.Expr) → Contains g.blocks block → block.exit ≡ inner.Ret values
    → Contains (all_ret_widths g) (map (width_of g.bits) values)
widths-of g block values there exit =
    let rets = λ (b : inner.Block). ret_widths g.bits b.exit in
    let has = Contains (all_ret_widths g) in
    let each = all_parts has rets g.blocks (All-contains_itself (all_ret_widths g)) in
    All-head has (map (width_of g.bits) values) [] (subst (λ e. All has (ret_widths g.bits e)) exit (All-contains (λ b. All has (rets b)) g.blocks block each there))

module _ (opens : Opens) (function : inner.Graph → Function) (matters : inner.Graph → Family) (Continues : Continuation → inner.Graph → inner.Block → List inner.Stmt → Type 0) where
  abbrev st : Setting
  st = setting opens function matters Continues

  module _ (p : inner.Program) (tree : Tree) (fill : ℕ) (values : List inner.Expr) (w : inner_run.Waiting) (waiting : List inner_run.Waiting) (at : ℕ)
      (i : inner_run.State) (t : text_run.State) (ret : IsReturning opens st p tree values w waiting i) (stands : StandsFor st fill (matters i.running.graph i.running.block []) i t) where
    abbrev g : inner.Graph
    g = i.running.graph

    abbrev caller : inner.Graph
    caller = w.caller.graph

    abbrev h : Holds (function_spelling i.running.graph) (matters i.running.graph i.running.block []) (AreWaiting st) i t
    h = stands.holds

    known : Contains p.graphs g
    known = later-contained p.graphs g ret.graph

    callable : IsCallable opens st tree g
    callable = All-contains (IsCallable opens st tree) (drop 1 p.graphs) g ret.functions.others ret.graph

    named : IsNamed st caller
    named = All-contains (IsNamed st) p.graphs caller ret.functions.graphs ret.caller

    spelling : IsSpelling (function_spelling caller)
    spelling = spelling-is caller named.few.variables named.few.params

    -- What the Ret gives.

    abbrev widths : List ℕ
    widths = map (width_of g.bits) values

    widths-there : Contains (all_ret_widths g) widths
    widths-there = widths-of g i.running.block values ret.block ret.exit

    widths-taken : widths ≡ map (location_width caller.bits) w.results
    widths-taken = All-contains (λ ws. ws ≡ map (location_width caller.bits) w.results) (all_ret_widths g) widths ret.taken widths-there

    result-is : t.frame.function.result ≡ type_for widths
    result-is =
        ap (λ f. f.result) (stands.function ∙ callable.function)
        ∙ type-of-any (all_ret_widths g) widths
        (All-contains (λ q. (a b : List ℕ) → Contains (all_ret_widths q) a → Contains (all_ret_widths q) b → a ≡ b) p.graphs g ret.well.rets known) widths-there

    no-start : is_start t.frame.function ≡ false
    no-start = ap is_start (stands.function ∙ callable.function)

    -- The newest of the calls that wait.

    results-named : All (λ (v : inner_run.Waiting). All (has_name v.caller.graph) v.results) (w ∷ waiting)
    results-named = subst (All (λ (v : inner_run.Waiting). All (has_name v.caller.graph) v.results)) ret.newest stands.results

    abbrev back : inner_run.State
    back = record i { running = w.caller; waiting = waiting }

    returned-is : inner_run.exit_step (inner.Ret values) i ≡ inner_run.giving w.results (map (inner_run.value_in i) values) back
    returned-is = ap (λ ws. inner_run.returning (map (inner_run.value_in i) values) ws i) ret.newest

    -- where this call waits in the text
    module _ (v : text_run.Waiting) (vs : List text_run.Waiting) (newest : t.waiting ≡ v ∷ vs) (alike : AreWaiting st (w ∷ waiting) (v ∷ vs)) where
      abbrev u : text_run.State
      u = record t { rest = v.rest; frame = v.frame; waiting = vs }

      back-holds : Holds (function_spelling caller) (MattersBesides st w) (AreWaiting st) back u
      back-holds = record { frame = alike.0.frame; waiting = alike.1; memory = h.memory; input = h.input; events = h.events; end = h.end }

      back-is : (result : Option Value) → text_run.back_step t.waiting result at t ≡ text_run.result_step (target_for (function_spelling caller) w.results) result at u
      back-is result = ap (λ ws. text_run.back_step ws result at t) newest ∙ ap (λ target. text_run.result_step target result at u) alike.0.target

      -- The caller's frame holds what matters, its variables and values changed or not.
      gone-on : (values : Values) (variables : List Binding)
          → Holds (function_spelling caller) (matters caller w.caller.block w.caller.rest) (AreWaiting st) (record back { running = record (w.caller) { values = values } })
          (record u { frame = record (v.frame) { variables = variables } })
          → HasReturned st fill t.waiting (record back { running = record (w.caller) { values = values } }) (record u { frame = record (v.frame) { variables = variables } })
      gone-on values variables held = record {
        newest = v;
        waited = newest;
        goes_on = refl;
        continues = alike.0.continues;
        stands = record {
          function = alike.0.function;
          filled = stands.filled;
          holds = held;
          results = All-tail (λ (x : inner_run.Waiting). All (has_name x.caller.graph) x.results) w waiting results-named;
        };
      }

      -- Nothing is given.
      nothing-back : (results : List Loc) → w.results ≡ results → [] ≡ map (location_width caller.bits) results
          → HasReturned st fill t.waiting (inner_run.giving results [] back) (text_run.result_step (target_for (function_spelling caller) results) None at u)
      nothing-back (l ∷ results) is none = absurd cc
      nothing-back [] is none =
          gone-on w.caller.values v.frame.variables
          (holds-weaker (function_spelling caller) (MattersBesides st w) (matters caller w.caller.block w.caller.rest)
          (λ l mine. (mine, λ there. Contains-none l (subst (λ rs. Contains rs l) is there))) (AreWaiting st) back u back-holds)

      -- A value is given.
      value-back : (n : ℕ) (results : List Loc) → w.results ≡ results → (width : ℕ) → width ∷ [] ≡ map (location_width caller.bits) results
          → (k : Value) → k.type ≡ plain (unsigned_type width) → k.bits < 2 ^ bits_of (unsigned_type width) → k.bits % 2 ^ width ≡ n
          → HasReturned st fill t.waiting (inner_run.giving results (n ∷ []) back) (text_run.result_step (target_for (function_spelling caller) results) (Some k) at u)
      value-back n [] is width same k typed room low = absurd cc
      value-back n (l ∷ m ∷ results) is width same k typed room low = absurd cc
      value-back n (l ∷ []) is width same k typed room low =
          let of_width : width ≡ location_width caller.bits l = cc in
          let mine : has_name caller l = All-head (has_name caller) l [] (subst (All (has_name caller)) is (All-head (λ (x : inner_run.Waiting). All (has_name x.caller.graph) x.results) w waiting results-named)) in
          let kept : (converted (plain (unsigned_type width)) k).bits % 2 ^ width ≡ n =
          ap (λ type. convert (number_of_type type) (unsigned_type width) k.bits % 2 ^ width) typed ∙ ap (λ m. m % 2 ^ width) (unsigned-same width k.bits room) ∙ low in
          gone-on (with_value w.caller.values l n) (after_assignment v.frame.variables ((function_spelling caller).name l) k)
          (held-after (function_spelling caller) tree (MattersBesides st w) (AreWaiting st) back u back-holds spelling (matters caller w.caller.block w.caller.rest) l mine
          (λ x has other. (has, λ there. alone l x other (subst (λ rs. Contains rs x) is there))) (λ x has. named.named w.caller.block w.caller.rest x has.0) k n
          (subst (λ size. (converted (plain (unsigned_type size)) k).bits % 2 ^ size ≡ n) of_width kept) (λ settled. absurd (true≢false (sym settled))))
        where
          alone : (l x : Loc) → same_location x l ≡ false → Contains (l ∷ []) x → ⊥
          alone l x other there =
              Contains-cases l [] x ⊥ (λ same. true≢false (sym (location_itself l) ∙ ap (λ y. same_location y l) same ∙ other)) (λ none. Contains-none x none) there

    -- what holds where this call waits holds
    newest-first : (Q : Type 0) → ((v : text_run.Waiting) (vs : List text_run.Waiting) → t.waiting ≡ v ∷ vs → AreWaiting st (w ∷ waiting) (v ∷ vs) → Q) → Q
    newest-first Q goes = by t.waiting refl (subst (λ ws. AreWaiting st ws t.waiting) ret.newest h.waiting)
      where
        by : (vs : List text_run.Waiting) → t.waiting ≡ vs → AreWaiting st (w ∷ waiting) vs → Q
        by [] is alike = absurd alike
        by (v ∷ vs) is alike = goes v vs is alike

  -- Texts.

  module _ (p : inner.Program) (tree : Tree) (fill : ℕ) (w : inner_run.Waiting) (waiting : List inner_run.Waiting) (at : ℕ) (i : inner_run.State) (t : text_run.State) where
    module _ (ret : IsReturning opens st p tree [] w waiting i) (stands : StandsFor st fill (matters i.running.graph i.running.block []) i t) where
      nothing-returned : HasReturned st fill t.waiting (inner_run.exit_step (inner.Ret []) i) (text_run.back_step t.waiting None at t)
      nothing-returned =
          newest-first p tree fill [] w waiting at i t ret stands (HasReturned st fill t.waiting (inner_run.exit_step (inner.Ret []) i) (text_run.back_step t.waiting None at t))
          (λ v vs newest alike.
          subst (λ k. HasReturned st fill t.waiting k (text_run.back_step t.waiting None at t)) (sym (returned-is p tree fill [] w waiting at i t ret stands))
          (subst (HasReturned st fill t.waiting (inner_run.giving w.results [] (record i { running = w.caller; waiting = waiting }))) (sym (back-is p tree fill [] w waiting at i t ret stands v vs newest alike None))
          (nothing-back p tree fill [] w waiting at i t ret stands v vs newest alike w.results refl (widths-taken p tree fill [] w waiting at i t ret stands))))

      pub empty-returns : HasReturned st fill t.waiting (inner_run.exit_step (inner.Ret []) i) (text_run.return_step at t)
      empty-returns =
          subst (HasReturned st fill t.waiting (inner_run.exit_step (inner.Ret []) i))
          (sym (ap (λ b. if b then text_run.with_end (Stuck at) t else text_run.back_step t.waiting None at t) (no-start p tree fill [] w waiting at i t ret stands))) nothing-returned

      pub brace-returns : HasReturned st fill t.waiting (inner_run.exit_step (inner.Ret []) i) (text_run.close_step at t)
      brace-returns =
          let start = no-start p tree fill [] w waiting at i t ret stands in
          let result = result-is p tree fill [] w waiting at i t ret stands in
          subst (HasReturned st fill t.waiting (inner_run.exit_step (inner.Ret []) i))
          (sym (ap (λ b. if b || is_some t.frame.function.result then text_run.with_end (Stuck at) t else text_run.back_step t.waiting None at t) start
          ∙ ap (λ o. if is_some o then text_run.with_end (Stuck at) t else text_run.back_step t.waiting None at t) result)) nothing-returned

    module _ (e : inner.Expr) (ret : IsReturning opens st p tree (e ∷ []) w waiting i) (fits : Fits (inner_run.scene_of i))
        (within : IsWithin (function_spelling i.running.graph) (matters i.running.graph i.running.block []) e) (stands : StandsFor st fill (matters i.running.graph i.running.block []) i t) where
      pub value-returns : HasReturned st fill t.waiting (inner_run.exit_step (inner.Ret (e ∷ [])) i) (text_run.stmt_step tree (ret_text (function_spelling i.running.graph) (e ∷ [])) at t)
      value-returns =
          let g = i.running.graph in
          let named = All-contains (IsNamed st) p.graphs g ret.functions.graphs (known p tree fill (e ∷ []) w waiting at i t ret stands) in
          let formed = and_parts (is_expr g.bits e) true
          (subst (λ exit. is_exit g.bits (length g.blocks) exit ≡ true) ret.exit (exit_of p ret.well g i.running.block (known p tree fill (e ∷ []) w waiting at i t ret stands) ret.block)) in
          let width = width_of g.bits e in
          let x = (gives (function_spelling g) tree (matters g i.running.block []) (AreWaiting st) at i t (spelling-is g named.few.variables named.few.params) fits (named.named i.running.block []) stands.holds
          e width formed.0 within refl).taken in
          let type = plain (unsigned_type width) in
          let v = value x.of_type x.k in
          let given = ap (λ o. text_run.give_step t.frame.function.result o at t) x.is.valued
          ∙ ap (λ result. text_run.give_step result (Gives v) at t) (result-is p tree fill (e ∷ []) w waiting at i t ret stands)
          ∙ ap (λ b. if b then text_run.with_end (Stuck at) t else text_run.back_step t.waiting (Some (converted type v)) at t) (no-start p tree fill (e ∷ []) w waiting at i t ret stands) in
          newest-first p tree fill (e ∷ []) w waiting at i t ret stands
          (HasReturned st fill t.waiting (inner_run.exit_step (inner.Ret (e ∷ [])) i) (text_run.stmt_step tree (ret_text (function_spelling g) (e ∷ [])) at t))
          (λ q vs newest alike.
          subst (λ k. HasReturned st fill t.waiting k (text_run.stmt_step tree (ret_text (function_spelling g) (e ∷ [])) at t)) (sym (returned-is p tree fill (e ∷ []) w waiting at i t ret stands))
          (subst (HasReturned st fill t.waiting (inner_run.giving w.results (inner_run.value_in i e ∷ []) (record i { running = w.caller; waiting = waiting })))
          (sym (given ∙ back-is p tree fill (e ∷ []) w waiting at i t ret stands q vs newest alike (Some (converted type v))))
          (value-back p tree fill (e ∷ []) w waiting at i t ret stands q vs newest alike (inner_run.value_in i e) w.results refl width
          (widths-taken p tree fill (e ∷ []) w waiting at i t ret stands) (converted type v) refl
          (mod_below (extended_bits (number_of_type x.of_type) x.k) (2 ^ bits_of (unsigned_type width)) (pow_pos (bits_of (unsigned_type width)))) x.low)))

-- Whatever the setting.

pub returns-end : (opens : Opens) (setting : Setting) → ReturnsEnd opens setting
returns-end opens setting p tree fill values w waiting at i t ret =
    subst (λ st. IsReturning opens st p tree values w waiting i → Fits (inner_run.scene_of i) → All (IsWithin (st.spelling i.running.graph) (st.matters i.running.graph i.running.block [])) values
    → StandsFor st fill (st.matters i.running.graph i.running.block []) i t
    → HasReturned st fill t.waiting (inner_run.exit_step (inner.Ret values) i) (text_run.stmt_step tree (ret_text (st.spelling i.running.graph) values) at t))
    (setting-is setting ret.functions.spelled) (by values) ret
  where
    by : (es : List inner.Expr) → IsReturning opens (respelled setting) p tree es w waiting i → Fits (inner_run.scene_of i)
        → All (IsWithin (function_spelling i.running.graph) (setting.matters i.running.graph i.running.block [])) es → StandsFor (respelled setting) fill (setting.matters i.running.graph i.running.block []) i t
        → HasReturned (respelled setting) fill t.waiting (inner_run.exit_step (inner.Ret es) i) (text_run.stmt_step tree (ret_text (function_spelling i.running.graph) es) at t)
    by [] given fits within stands = empty-returns opens setting.function setting.matters setting.Continues p tree fill w waiting at i t given stands
    by (e ∷ []) given fits within stands =
        value-returns opens setting.function setting.matters setting.Continues p tree fill w waiting at i t e given fits
        (All-head (IsWithin (function_spelling i.running.graph) (setting.matters i.running.graph i.running.block [])) e [] within) stands
    by (e ∷ d ∷ es) given fits within stands = let one = given.one in absurd (omega (arith, one))

pub braces-end : (opens : Opens) (setting : Setting) → BracesEnd opens setting
braces-end opens setting p tree fill w waiting at i t ret =
    subst (λ st. IsReturning opens st p tree [] w waiting i → StandsFor st fill (st.matters i.running.graph i.running.block []) i t
    → HasReturned st fill t.waiting (inner_run.exit_step (inner.Ret []) i) (text_run.close_step at t))
    (setting-is setting ret.functions.spelled) (brace-returns opens setting.function setting.matters setting.Continues p tree fill w waiting at i t) ret
