-- A step on the text of a Call, and one for each opening assignment, begin the callee.
use Rattle.std.proofs.Common.{◌≡◌, ℕ, ◌<◌, inl, inr, Bool, true, false, ◌==◌, List, [], ◌∷◌, length, map, drop, Some, None, refl, sym, ap, ◌∙◌, subst, arith, cond}
use Rattle.std.specs.Prelude.{◌&&◌, find, nat_lt, All, Contains}
use Rattle.std.specs.List.{list_all}
use Rattle.std.proofs.lemmas.Bool.{and_parts, eqb-true, ltb-true}
use Rattle.std.proofs.lemmas.List.Elements.{All-contains, All-drop, All-head, All-cons}
use Rattle.std.proofs.lemmas.Option.{slice_get-get_or}
use Rattle.dcc_run.specs.End.{is_over}
use Rattle.dcc_run.specs.System.{after}
use Rattle.dcc_ir.specs.declared.syntax.Loc.{Loc}
use Rattle.dcc_ir.specs.declared.syntax.Param.{Param}
use Rattle.dcc_ir.specs.Families.{Family}
use Rattle.dcc_ir.specs.Live.{is_among, block_in}
use Rattle.dcc_ir.specs.Location.{filled}
use Rattle.dcc_ir.specs.Run as inner_run
use Rattle.dcc_ir.specs.Tree as inner
use Rattle.dcc_ir.specs.Value.{Fits}
use Rattle.dcc_ir.specs.WellFormed.{is_expr, is_location, is_param_list, memory_params_last, IsGraph, IsProgram}
use Rattle.dcc_ir.proofs.PathLaws.{decided}
use Rattle.dcc_ir.proofs.ReachedLaws.{found_contained, named_again}
use Rattle.dcc_c.specs.Placement.{below, params_of_call}
use Rattle.dcc_c.specs.Run as text_run
use Rattle.dcc_c.specs.Run.{Continuation, ends_function, runs, frame_of, with_arguments, arguments_of, result_target, enter_step, function_in}
use Rattle.dcc_c.specs.Token.{same_bytes}
use Rattle.dcc_c.specs.Tree.{Lines, Function, Tree}
use Rattle.dcc_c.specs.Value.{Value, Gives, and_then, Binding}
use Rattle.dcc_text.specs.Holding.{Locations, Holds, IsSpelling, Setting, target_for, IsWaiting, AreWaiting, MattersBesides}
use Rattle.dcc_text.specs.Spelled.{Low, text}
use Rattle.dcc_text.specs.Spelling.{Spelling}
use Rattle.dcc_text.specs.Stmts.{stmt_text, first_place}
use Rattle.dcc_text.proofs.Assignments.{target-is}
use Rattle.dcc_variables.specs.Variables.{shape_of, variable_name}
use Rattle.dcc_variables.specs.Functions.{function_name, parameter_name, parameters, name_or, function_spelling, openings, BeginsWith}
use Rattle.dcc_variables.specs.FunctionLaws.{has_name}
use Rattle.dcc_plan.specs.Calls.{all_byte_places, IsNamed, Opens, IsCallable, AreFunctions, StandsFor, IsReadyCall}
use Rattle.dcc_plan.specs.CallLaws.{called, HasBegun, waiting_with, CallsBegin}
use Rattle.dcc_plan.proofs.Arguments.{Arguments, arguments-are}
use Rattle.dcc_plan.proofs.Bindings.{AreWords, AreArguments, memory-is}
use Rattle.dcc_plan.proofs.Frames.{variables, variables-are, places-of-call, words-here, AtFirst, frame-here}
use Rattle.dcc_plan.proofs.HoldLaws.{frame-weaker, holds-weaker}
use Rattle.dcc_plan.proofs.OpenedBytes.{Opening, OrOpened, open-all}
use Rattle.dcc_variables.proofs.ParamNames.{spelling-is}
use Rattle.dcc_plan.proofs.Passings.{values_after, memory_after, passing-is, bytes-are-own}
use mathlib.Core.Path.{fun_ext}

-- what is found passes the test
found-passes : {X : Type 0} (f : X → Bool) (xs : List X) (x : X) → find f xs ≡ Some x → f x ≡ true
found-passes f [] x is = absurd cc
found-passes f (y ∷ xs) x is = by (f y) refl (found-passes f xs x) is
  where
    by : (b : Bool) → f y ≡ b → (find f xs ≡ Some x → f x ≡ true) → cond b (Some y) (find f xs) ≡ Some x → f x ≡ true
    by true passes rest e = let same : y ≡ x = cc in subst (λ z. f z ≡ true) same passes
    by false passes rest e = rest e

-- both have the same base
base-is : (base depth : ℕ) → depth < 65536 → below base depth ≡ inner_run.callee_base base depth
base-is base depth small = omega (arith, small)

pub argument-count : (bits : List ℕ) (params : List Param) (vs : List Value) (ns : List ℕ) → AreArguments bits params vs ns → length params ≡ length ns
argument-count bits [] [] [] are = refl
argument-count bits [] [] (n ∷ ns) are = absurd are
argument-count bits [] (v ∷ vs) ns are = absurd are
argument-count bits (p ∷ params) [] ns are = absurd are
argument-count bits (p ∷ params) (v ∷ vs) [] are = absurd are
argument-count bits (p ∷ params) (v ∷ vs) (n ∷ ns) are = let rest = argument-count bits params vs ns are.1 in omega (arith, rest)

-- The setting of a program's functions.
module _ (opens : Opens) (function : inner.Graph → Function) (matters : inner.Graph → Family) (Continues : Continuation → inner.Graph → inner.Block → List inner.Stmt → Type 0) where
  abbrev pub setting : Setting
  setting = record { spelling = function_spelling; function = function; matters = matters; Continues = Continues }

  module _ (p : inner.Program) (tree : Tree) (fill : ℕ) (results : List Loc) (entry : ℕ) (arguments : List inner.Expr) (own depth at : ℕ) (rest : List inner.Stmt) (lines : Lines)
      (i : inner_run.State) (t : text_run.State) (well : IsProgram p) (functions : AreFunctions opens setting p tree) (known : Contains p.graphs i.running.graph)
      (call : IsReadyCall setting p i.running.graph i.running.block rest results entry arguments own)
      (begins : BeginsWith (openings (opens call.agrees.callee) call.agrees.callee) (function call.agrees.callee).body lines)
      (fits : Fits (inner_run.scene_of i)) (going : is_over i.end ≡ false)
      (stands : StandsFor setting fill (matters i.running.graph i.running.block (inner.Call results entry arguments own ∷ rest)) i t)
      (continues : Continues t.rest i.running.graph i.running.block rest) where
    abbrev g : inner.Graph
    g = i.running.graph

    abbrev callee : inner.Graph
    callee = call.agrees.callee

    abbrev f : Function
    f = function callee

    abbrev s : Spelling
    s = function_spelling g

    abbrev Before : Locations
    Before = matters g i.running.block (inner.Call results entry arguments own ∷ rest)

    abbrev h : Holds s Before (AreWaiting setting) i t
    h = stands.holds

    -- What is known of the caller and the callee.

    caller-named : IsNamed setting g
    caller-named = All-contains (IsNamed setting) p.graphs g functions.graphs known

    there : Contains (drop 1 p.graphs) callee
    there = found_contained (λ x. x.entry == entry) (drop 1 p.graphs) callee call.agrees.named

    callable : IsCallable opens setting tree callee
    callable = All-contains (IsCallable opens setting tree) (drop 1 p.graphs) callee functions.others there

    of-callee : (P : inner.Graph → Type 0) → All P p.graphs → P callee
    of-callee P all = All-contains P (drop 1 p.graphs) callee (All-drop P 1 p.graphs all) there

    entry-is : callee.entry ≡ entry
    entry-is = eqb-true callee.entry entry (found-passes (λ x. x.entry == entry) (drop 1 p.graphs) callee call.agrees.named)

    named : IsNamed setting callee
    named = of-callee (IsNamed setting) functions.graphs

    formed : IsGraph callee
    formed = of-callee IsGraph well.graphs

    spelling : IsSpelling s
    spelling = spelling-is g caller-named.few.variables caller-named.few.params

    parts : (list_all (is_expr g.bits) arguments ≡ true) × (own < 65536)
    parts =
        let (two, small) = and_parts (list_all (is_location g.bits) results && list_all (is_expr g.bits) arguments) (nat_lt own 65536) call.formed in
        ((and_parts (list_all (is_location g.bits) results) (list_all (is_expr g.bits) arguments) two).1, ltb-true own 65536 small)

    -- Arguments.

    abbrev before : (l : Loc) → Before l → s.named l ≡ true
    before = caller-named.named i.running.block (inner.Call results entry arguments own ∷ rest)

    x : Arguments s tree Before (AreWaiting setting) at i t spelling fits before h callee.bits 0 callee.params arguments
    x = arguments-are s tree Before (AreWaiting setting) at i t spelling fits before h callee.bits 0 callee.params arguments parts.0 call.agrees.taken call.within

    abbrev ns : List ℕ
    ns = map (inner_run.value_in i) arguments

    -- The state of the program when the callee begins.

    abbrev base : ℕ
    base = inner_run.callee_base i.running.base own

    abbrev first : inner.Block
    first = block_in callee 0

    abbrev waits : inner_run.Waiting
    waits = record { caller = record (i.running) { rest = rest; begins = false }; results = results }

    abbrev begun : inner_run.State
    begun = record i {
      running = record {
        graph = callee;
        block = first;
        rest = first.stmts;
        begins = true;
        values = values_after callee.params ns (filled callee.bits fill);
        base = base;
      };
      waiting = waits ∷ i.waiting;
      memory = memory_after base 0 callee.params ns i.memory;
    }

    begun-is : called p fill results entry arguments own rest i ≡ begun
    begun-is =
        let i' = record i { running = record (i.running) { rest = rest; begins = false } } in
        ap (λ o. inner_run.calling fill results own ns o i') (named_again p.graphs entry callee well.entries call.agrees.named)
        ∙ ap (inner_run.going_to 0) (passing-is 0 callee.params ns
        (record i' { running = inner_run.activation callee (filled callee.bits fill) base; waiting = waits ∷ i.waiting }))
        ∙ ap (λ o. inner_run.entering o (record i {
          running = inner_run.activation callee (values_after callee.params ns (filled callee.bits fill)) base;
          waiting = waits ∷ i.waiting;
          memory = memory_after base 0 callee.params ns i.memory;
        })) (slice_get-get_or callee.blocks 0 inner_run.no_block formed.begins)

    -- The state of the text after a step on the Call's text.

    abbrev entered : text_run.State
    entered = enter_step f own (target_for s results) x.values t

    target-given : (rs : List Loc) → All (has_name g) rs → result_target (text_run.scope_of tree t) (first_place s rs) ≡ Gives (target_for s rs)
    target-given [] all = refl
    target-given (l ∷ rs) all = ap (and_then (λ target. Gives (Some target))) (target-is s tree Before (AreWaiting setting) i t h l (All-head (has_name g) l rs all))

    types-are : text_run.param_types f ≡ map (λ v. v.type) (parameters callee)
    types-are = ap text_run.param_types callable.function

    entered-is : text_run.stmt_step tree (stmt_text s depth (inner.Call results entry arguments own)) at t ≡ entered
    entered-is =
        let scope = text_run.scope_of tree t in
        let texts = map (text s Low false) arguments in
        ap (λ o. text_run.on o at t (λ target. text_run.dos_or_call_step tree None (function_name entry) target texts own at t)) (target-given results call.written)
        ∙ ap (λ o. text_run.call_step o scope (target_for s results) texts own at t) (ap (λ n. function_in tree.functions (function_name n)) (sym entry-is) ∙ callable.found)
        ∙ ap (λ types. text_run.on (arguments_of scope types texts) at t (λ vs. enter_step f own (target_for s results) vs t)) types-are
        ∙ ap (λ o. text_run.on o at t (λ vs. enter_step f own (target_for s results) vs t)) x.given

    -- The text after the call stands for the program, but for the bytes of words.

    listed : is_param_list callee.bits callee.params ≡ true
    listed = of-callee (λ q. is_param_list q.bits q.params ≡ true) well.params

    last-ones : memory_params_last callee.params ≡ true
    last-ones = of-callee (λ q. memory_params_last q.params ≡ true) well.memory_last

    same-base : below t.frame.base own ≡ base
    same-base = ap (λ b. below b own) h.frame.base ∙ base-is i.running.base own parts.1

    -- what the frame has to be told
    abbrev variables_there : List Binding
    variables_there = variables callee named.few.variables named.few.params named.apart formed listed last-ones f (function_name callee.entry) callable.function callable.unplaced fill base x.values ns x.are

    variables-there : entered.frame.variables ≡ variables_there
    variables-there =
        ap (λ b. (frame_of f b t.fill x.values).variables) same-base ∙ ap (λ n. (frame_of f base n x.values).variables) stands.filled
        ∙ variables-are callee named.few.variables named.few.params named.apart formed listed last-ones f (function_name callee.entry) callable.function callable.unplaced fill base x.values ns x.are

    memory-there : entered.memory ≡ begun.memory
    memory-there =
        ap (λ b. with_arguments (params_of_call f b) x.values t.memory) same-base
        ∙ ap (λ places. with_arguments places x.values t.memory)
        (places-of-call callee named.few.variables named.few.params named.apart formed listed last-ones f (function_name callee.entry) callable.function callable.unplaced fill base x.values ns x.are)
        ∙ memory-is callee.bits base 0 callee.params x.values ns t.memory x.are
        ∙ ap (λ memory. memory_after base 0 callee.params ns memory) h.memory

    waiting-there : IsWaiting setting waits (record { frame = t.frame; rest = t.rest; target = target_for s results })
    waiting-there = record {
      function = stands.function;
      frame = frame-weaker s Before (MattersBesides setting waits) (λ l has. elim (call.left l has.0) [ inl taken ↦ absurd (has.1 taken) | inr was ↦ was ]) i.running i.running.block rest false t.frame h.frame;
      target = refl;
      continues = continues;
    }

    abbrev Held : Locations
    Held = AtFirst callee named.few.variables named.few.params named.apart formed listed last-ones f (function_name callee.entry) callable.function callable.unplaced fill base x.values ns x.are

    entered-holds : Holds (function_spelling callee) Held (AreWaiting setting) begun entered
    entered-holds = record {
      frame = frame-here callee named.few.variables named.few.params named.apart formed listed last-ones f (function_name callee.entry) callable.function callable.unplaced fill base x.values ns x.are
          begun.running refl refl refl entered.frame same-base variables-there;
      waiting = (waiting-there, h.waiting);
      memory = memory-there;
      input = h.input;
      events = h.events;
      end = h.end;
    }

    -- The openings follow.

    names-apart : (l : Loc) → is_among (all_byte_places callee.params) l ≡ true → (k : ℕ) → same_bytes ((function_spelling callee).name l) (parameter_name k) ≡ false
    names-apart l byte k =
        ap (λ o. same_bytes (name_or o (variable_name (shape_of callee) l)) (parameter_name k)) (bytes-are-own callee.params 0 l named.apart byte)

    abbrev steps : ℕ
    steps = length (openings (opens callee) callee)

    abbrev last : text_run.State
    last = after (text_run.step tree) steps entered

    opened : Opening callee (spelling-is callee named.few.variables named.few.params) tree (opens callee) callable.named (AreWaiting setting) begun going f fill (ends_function f.last) (waiting_with s results t)
        (OrOpened (opens callee) (all_byte_places callee.params) Held) lines 0 [] [] last
    opened =
        open-all callee (spelling-is callee named.few.variables named.few.params) tree (opens callee) callable.named (AreWaiting setting) begun going f fill (ends_function f.last) (waiting_with s results t)
        Held 0 callee.params ns f.body lines entered (argument-count callee.bits callee.params x.values ns x.are) formed.params names-apart (record {
          comes_to = refl;
          holds = entered-holds;
          words = subst (λ bs. AreWords bs begun.running.values 0 callee.params ns) (sym variables-there)
              (words-here callee named.few.variables named.few.params named.apart formed listed last-ones f (function_name callee.entry) callable.function callable.unplaced fill base x.values ns x.are);
          named = λ l has. has.0;
          function = refl;
          filled = stands.filled;
          waits = refl;
        }) begins

    -- what matters is held
    matters-held : (l : Loc) → matters callee first first.stmts l → OrOpened (opens callee) (all_byte_places callee.params) Held l
    matters-held l mine = elim (decided (is_among (all_byte_places callee.params) l)) [
      | inl byte ↦ inr (byte, callable.opened l byte mine)
      | inr other ↦ inl (named.named first first.stmts l mine, other)
    ]

    begun-there : HasBegun setting fill lines (waiting_with s results t) begun last
    begun-there =
        let k = opened in record {
          waits = k.waits;
          comes_to = k.comes_to ∙ ap (λ n. runs lines (ends_function n)) (ap (λ q. q.last) (sym k.function));
          stands = record {
            function = k.function;
            filled = k.filled;
            holds = holds-weaker (function_spelling callee) (OrOpened (opens callee) (all_byte_places callee.params) Held) (matters callee first first.stmts) matters-held (AreWaiting setting) begun last k.holds;
            results = All-cons (λ w. All (has_name w.caller.graph) w.results) waits i.waiting call.written stands.results;
          };
        }

    pub call-begins : HasBegun setting fill lines (waiting_with s results t) (called p fill results entry arguments own rest i)
        (after (text_run.step tree) steps (text_run.stmt_step tree (stmt_text s depth (inner.Call results entry arguments own)) at t))
    call-begins =
        subst (λ k. HasBegun setting fill lines (waiting_with s results t) k (after (text_run.step tree) steps (text_run.stmt_step tree (stmt_text s depth (inner.Call results entry arguments own)) at t))) (sym begun-is)
        (subst (λ u. HasBegun setting fill lines (waiting_with s results t) begun (after (text_run.step tree) steps u)) (sym entered-is) begun-there)

-- the setting in which graphs are spelled as functions; it is the setting where that does so
abbrev pub respelled : Setting → Setting
respelled setting = record setting { spelling = function_spelling }

pub setting-is : (setting : Setting) → ((graph : inner.Graph) → setting.spelling graph ≡ function_spelling graph) → respelled setting ≡ setting
setting-is setting spelled = ap (λ spelling. record setting { spelling = spelling }) (sym (fun_ext spelled))

pub calls-begin : (opens : Opens) (setting : Setting) → CallsBegin opens setting
calls-begin opens setting p tree fill results entry arguments own depth at rest lines i t well functions =
    subst (λ st. AreFunctions opens st p tree → CallOf st) (setting-is setting functions.spelled)
    (λ others known call begins fits going stands continues. call-begins opens setting.function setting.matters setting.Continues p tree fill results entry arguments own depth at rest lines i t
    well others known call begins fits going stands continues) functions
  where
    CallOf : Setting → Type 0
    CallOf st = (known : Contains p.graphs i.running.graph) → (call : IsReadyCall st p i.running.graph i.running.block rest results entry arguments own)
        → BeginsWith (openings (opens call.agrees.callee) call.agrees.callee) (st.function call.agrees.callee).body lines → Fits (inner_run.scene_of i) → is_over i.end ≡ false
        → StandsFor st fill (st.matters i.running.graph i.running.block (inner.Call results entry arguments own ∷ rest)) i t → st.Continues t.rest i.running.graph i.running.block rest
        → HasBegun st fill lines (waiting_with (st.spelling i.running.graph) results t) (called p fill results entry arguments own rest i) (after (text_run.step tree) (length (openings (opens call.agrees.callee) call.agrees.callee))
        (text_run.stmt_step tree (stmt_text (st.spelling i.running.graph) depth (inner.Call results entry arguments own)) at t))
