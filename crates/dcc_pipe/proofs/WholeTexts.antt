-- The text of a whole program is what the law that counts its visits needs.
use Rattle.std.proofs.Common.{◌≡◌, ℕ, ◌+◌, Bool, true, false, ◌==◌, List, [], ◌∷◌, ◌++◌, length, map, Some, refl, sym, ap, ap₂, ◌∙◌, subst, eq-eqb, true≢false}
use Rattle.std.specs.Prelude.{◌&&◌, ◌||◌, not, All, Contains, None, if◌then◌else◌, codes}
use Rattle.std.specs.List.{AllZip, list_all, list_any}
use Rattle.std.proofs.lemmas.Bool.{and_parts, or_parts}
use Rattle.std.proofs.lemmas.List.Elements.{All-contains}
use Rattle.dcc_ir.specs.Tree as inner
use Rattle.dcc_ir.specs.WellFormed.{all_differ, IsGraph, IsProgram}
use Rattle.dcc_ir.proofs.ListLaws.{all_had}
use Rattle.dcc_ir.proofs.LocationLaws.{Contains-here, Contains-later, Contains-none, Contains-cases}
use Rattle.dcc_c.specs.Grammar.{is_among}
use Rattle.dcc_c.specs.Numbered.{rows, numbered, numbered_lines, numbered_function, numbered_functions}
use Rattle.dcc_c.specs.Placement.{is_auto, takes_address}
use Rattle.dcc_c.specs.Rules as rules
use Rattle.dcc_c.specs.Run.{function_in}
use Rattle.dcc_c.specs.Tree.{Word, Global, Function, Tree}
use Rattle.dcc_c.specs.Written.{written_globals}
use Rattle.dcc_variables.specs.FunctionLaws.{HasFewNames}
use Rattle.dcc_variables.specs.Functions.{function_name, function_names, function_spelling, openings, BeginsWith, IsFunctionOf}
use Rattle.dcc_variables.proofs.ParamNames.{spelling-is}
use Rattle.dcc_variables.proofs.Words.{known-differ-all}
use Rattle.dcc_plan.specs.CallLaws.{IsBeginning}
use Rattle.dcc_plan.specs.Calls.{all_places, locations_differ, IsNamed, IsCallable, AreFunctions}
use Rattle.dcc_plan.specs.PlanText.{plan_text, IsPlanText}
use Rattle.dcc_plan.specs.Programs.{Texts, OpensWith, IsGraphText, open_setting, GivesFew, IsProgramText, AreAllKept}
use Rattle.dcc_control.specs.Plan.{Plan}
use Rattle.dcc_plan.proofs.TextLaws.{numbered-text}
use Rattle.dcc_pipe.specs.Control.{Control, IsControlOf, AreControls, keeps_step}
use Rattle.dcc_pipe.specs.GlobalData.{AreGlobalsFor}
use Rattle.dcc_pipe.specs.WholeText.{opened, text_function, other_functions, text_functions, whole_text}
use Rattle.dcc_pipe.proofs.MatteringLaws.{mattering, mattering-matters, matters-opened, opened-named}
use Rattle.dcc_pipe.proofs.OpeningLines.{openings-assign, GoesOn, goes-on, after_lines, after-opens}
use Rattle.dcc_pipe.proofs.FunctionTables.{value_for, later-values, values-are, each-of, each-value, IsNumbered, IsOther, IsOne, IsOneOf, others-numbered, all-numbered, found-by_name}
use Rattle.dcc_pipe.proofs.FreeBodies.{body-free, unplaced}
use Rattle.dcc_pipe.proofs.StepPlaces.{step-kept}

-- Names in a list of which a part is taken.

pub differ-right : (xs ys : List Word) → rules.all_differ (xs ++ ys) ≡ true → rules.all_differ ys ≡ true
differ-right [] ys differ = differ
differ-right (x ∷ xs) ys differ =
    differ-right xs ys (and_parts (not (is_among (xs ++ ys) x)) (rules.all_differ (xs ++ ys)) differ).1

among-left : (xs ys : List Word) (word : Word) → is_among (xs ++ ys) word ≡ false → is_among xs word ≡ false
among-left [] ys word none = refl
among-left (x ∷ xs) ys word none =
    let parts = or_parts _ (is_among (xs ++ ys) word) none in
    ap₂ (λ a b. a || b) parts.0 (among-left xs ys word parts.1)

not-among : (b c : Bool) → (c ≡ false → b ≡ false) → not c ≡ true → not b ≡ true
not-among b true to is = absurd (true≢false (sym is))
not-among b false to is = ap not (to refl)

pub differ-left : (xs ys : List Word) → rules.all_differ (xs ++ ys) ≡ true → rules.all_differ xs ≡ true
differ-left [] ys differ = refl
differ-left (x ∷ xs) ys differ =
    let parts = and_parts (not (is_among (xs ++ ys) x)) (rules.all_differ (xs ++ ys)) differ in
    ap₂ (λ a b. a && b) (not-among (is_among xs x) (is_among (xs ++ ys) x) (among-left xs ys x) parts.0)
    (differ-left xs ys parts.1)

-- One graph and its function.

module _ (g : inner.Graph) (plan : Plan) (f : Function) (is : IsOne plan g f) where
  pub body-goes : GoesOn (openings (opened g) g) f.body (plan_text (function_spelling g) g plan)
  body-goes =
      let number = is.1 in
      subst (λ (h : Function). GoesOn (openings (opened g) g) h.body (plan_text (function_spelling g) g plan)) (sym number.is)
      (goes-on (openings (opened g) g) (openings-assign (function_spelling g) (opened g) 0 g.params) 2 _
      (plan_text (function_spelling g) g plan))

  -- the body takes the address of no parameter that is not in memory
  pub one-unplaced : HasFewNames g → list_all (λ v. is_auto v.class || not (takes_address f.body v.name)) f.params ≡ true
  one-unplaced few =
      let number = is.1 in
      let lines = plan_text (function_spelling g) g plan in
      subst (λ vs. list_all (λ v. is_auto v.class || not (takes_address f.body v.name)) vs ≡ true)
      (sym (ap (λ (h : Function). h.params) number.is))
      (unplaced g few.params f.body (λ word apart.
      body-free g word apart (opened g) f.body (numbered_lines body-goes.depth body-goes.at lines)
      (openings-assign (function_spelling g) (opened g) 0 g.params) body-goes.begins
      (numbered-text (function_spelling g) g plan _ _)))

function-of : (plan : Plan) (name : Word) (g : inner.Graph) (f : Function) → IsNumbered plan name g f
    → IsFunctionOf g name f
function-of plan name g f number = subst (IsFunctionOf g name) (sym number.is) refl

-- The functions of graphs have their names.

module _ (control : Control) where
  names-are : (at : ℕ) (graphs : List inner.Graph)
      → map (λ f. f.name) (numbered_functions at (other_functions control graphs))
      ≡ map (λ graph. function_name graph.entry) graphs
  names-are at [] = refl
  names-are at (g ∷ graphs) =
      let here = numbered_function at (text_function (control g) (function_name g.entry) g) in
      ap (λ ws. function_name g.entry ∷ ws) (names-are (here.last + 1) graphs)

  pub text-names : (at : ℕ) (graphs : List inner.Graph)
      → map (λ f. f.name) (numbered_functions at (text_functions control graphs)) ≡ function_names graphs
  text-names at [] = refl
  text-names at (g ∷ graphs) =
      let here = numbered_function at (text_function (control g) (codes "start") g) in
      ap (λ ws. codes "start" ∷ ws) (names-are (here.last + 1) graphs)

-- A program with a first graph.

abbrev pub with_first : inner.Graph → List inner.Graph → List ℕ → ℕ → ℕ → inner.Program
with_first first others image lo hi = record { graphs = first ∷ others; image = image; lo = lo; hi = hi }

module _ (control : Control) (globals : List Global) (first : inner.Graph) (others : List inner.Graph) (image : List ℕ) (lo hi : ℕ) where
  abbrev pub program : inner.Program
  program = with_first first others image lo hi

  abbrev pub tree : Tree
  tree = numbered (whole_text control globals program)

  abbrev pub head : ℕ
  head = 3 + rows (written_globals None globals)

  abbrev pub start : Function
  start = numbered_function head (text_function (control first) (codes "start") first)

  abbrev pub later : List Function
  later = numbered_functions (start.last + 1) (other_functions control others)

  abbrev pub function : inner.Graph → Function
  function = value_for start (first ∷ others) (start ∷ later)

  abbrev pub texts : Texts
  texts = record {
    spelling = function_spelling;
    function = function;
    matters = mattering;
    plan = control;
    openings = λ graph. length (openings (opened graph) graph);
    lines = λ graph. after_lines (length (openings (opened graph) graph)) (function graph).body;
  }

  pub all-names : map (λ f. f.name) tree.functions ≡ function_names program.graphs
  all-names = text-names control head program.graphs

  module _ (well : IsProgram program) (few : All HasFewNames program.graphs)
      (apart : All (λ g. locations_differ (all_places g.params) ≡ true) program.graphs)
      (gives : All (λ g. All GivesFew g.blocks) program.graphs) (controls : AreControls control program)
      (may_declare : AreGlobalsFor program globals) where
    each-one : All (λ g. IsOneOf control g (function g)) program.graphs
    each-one = each-value start (IsOneOf control) program.graphs (start ∷ later) (all-numbered control head program.graphs) well.entries

    one-of : (g : inner.Graph) → Contains program.graphs g → IsOneOf control g (function g)
    one-of g c = All-contains (λ g. IsOneOf control g (function g)) program.graphs g each-one c

    control-of : (g : inner.Graph) → Contains program.graphs g → IsControlOf g (control g)
    control-of g c = All-contains (λ g. IsControlOf g (control g)) program.graphs g controls c

    graph-formed : (g : inner.Graph) → Contains program.graphs g → IsGraph g
    graph-formed g c = All-contains IsGraph program.graphs g well.graphs c

    few-of : (g : inner.Graph) → Contains program.graphs g → HasFewNames g
    few-of g c = All-contains HasFewNames program.graphs g few c

    lines-are : (g : inner.Graph) (c : Contains program.graphs g)
        → texts.lines g ≡ numbered_lines (body-goes g (control g) (function g) (one-of g c)).depth (body-goes g (control g) (function g) (one-of g c)).at (plan_text (function_spelling g) g (control g))
    lines-are g c = after-opens (body-goes g (control g) (function g) (one-of g c)).opens

    lines-text : (g : inner.Graph) (c : Contains program.graphs g) → IsPlanText (function_spelling g) g (control g) (texts.lines g)
    lines-text g c =
        subst (IsPlanText (function_spelling g) g (control g)) (sym (lines-are g c))
        (numbered-text (function_spelling g) g (control g) _ _)

    begins-lines : (g : inner.Graph) (c : Contains program.graphs g) → BeginsWith (openings (opened g) g) (function g).body (texts.lines g)
    begins-lines g c =
        subst (BeginsWith (openings (opened g) g) (function g).body) (sym (lines-are g c))
        (body-goes g (control g) (function g) (one-of g c)).begins

    graph-text : (g : inner.Graph) → Contains program.graphs g → IsGraphText texts g
    graph-text g c = record {
      spelling = spelling-is g (few-of g c).variables (few-of g c).params;
      matters = mattering-matters g (graph-formed g c);
      is_plan = (control-of g c).is_plan;
      text = lines-text g c;
      opens = subst (OpensWith (texts.openings g) (function g).body) (sym (lines-are g c)) (body-goes g (control g) (function g) (one-of g c)).opens;
    }

    -- The functions that are called.

    graph-named : (g : inner.Graph) → Contains program.graphs g → IsNamed (open_setting texts) g
    graph-named g c = record {
      few = few-of g c;
      apart = All-contains (λ g. locations_differ (all_places g.params) ≡ true) program.graphs g apart c;
      named = λ block stmts location is. is.0;
    }

    others-each : All (λ g. IsOther control g (function g)) others
    others-each =
        let zipped = others-numbered control (start.last + 1) others in
        let parts = and_parts (not (list_any (λ m. first.entry == m) (map (λ g. g.entry) others))) (all_differ (map (λ g. g.entry) others)) well.entries in
        each-of start (IsOther control) function others (subst (AllZip (IsOther control) others)
        (sym (later-values start first start others later others (no-true _ parts.0) ∙ values-are start (IsOther control) others later zipped parts.1)) zipped)
      where
        no-true : (b : Bool) → not b ≡ true → b ≡ false
        no-true true is = sym is
        no-true false is = refl

    function-there : (g : inner.Graph) → Contains program.graphs g → Contains tree.functions (function g)
    function-there g c =
        subst (λ functions. Contains functions (function g)) (values-are start (IsOneOf control) program.graphs (start ∷ later) (all-numbered control head program.graphs) well.entries)
        (mapped program.graphs g c)
      where
        mapped : (graphs : List inner.Graph) (g : inner.Graph) → Contains graphs g → Contains (map function graphs) (function g)
        mapped [] g c = absurd (Contains-none g c)
        mapped (x ∷ graphs) g c =
            Contains-cases x graphs g (Contains (map function (x ∷ graphs)) (function g))
            (λ same. subst (λ y. Contains (function y ∷ map function graphs) (function g)) (sym same) (Contains-here (function g) (map function graphs)))
            (λ d. Contains-later (function x) (map function graphs) (function g) (mapped graphs g d)) c

    functions-differ : rules.all_differ (map (λ f. f.name) tree.functions) ≡ true
    functions-differ =
        differ-left (map (λ f. f.name) tree.functions) _
        (differ-right (map (λ g. g.name) tree.globals) _ (known-differ-all program tree well may_declare.names all-names))

    pub start-is : function first ≡ start
    start-is = ap (λ b. if b then start else value_for start others later first) (eq-eqb first.entry first.entry refl)

    graph-callable : (g : inner.Graph) → Contains others g → IsCallable opened (open_setting texts) tree g
    graph-callable g c =
        let there = Contains-later first others g c in
        let number = All-contains (λ g. IsOther control g (function g)) others g others-each c in
        let is = function-of (control g) (function_name g.entry) g (function g) number in
        record {
          function = is;
          found = subst (λ word. function_in tree.functions word ≡ Some (function g)) (ap (λ (f : Function). f.name) is)
              (found-by_name tree.functions functions-differ (function g) (function-there g there));
          unplaced = one-unplaced g (control g) (function g) (one-of g there) (few-of g there);
          opened = λ location among is. matters-opened g (graph-formed g there) location is;
          named = opened-named g (graph-formed g there);
        }

    all-functions : AreFunctions opened (open_setting texts) program tree
    all-functions = record {
      spelled = λ graph. refl;
      graphs = all_had (IsNamed (open_setting texts)) program.graphs graph-named;
      others = all_had (IsCallable opened (open_setting texts) tree) others graph-callable;
    }

    -- The law's premises.

    pub whole-text : IsProgramText program opened texts tree
    whole-text = record {
      well = well;
      graphs = graph-text;
      functions = sym (values-are start (IsOneOf control) program.graphs (start ∷ later) (all-numbered control head program.graphs) well.entries);
      callable = all-functions;
      opened = λ graph c. record { count = refl; begins = begins-lines graph c };
      few = gives;
    }

    pub whole-begins : IsBeginning opened (open_setting texts) program tree first others
    whole-begins = record {
      graphs = refl;
      well = well;
      functions = all-functions;
      start = subst (IsFunctionOf first (codes "start")) (sym start-is) refl;
      hi = refl;
      memory = λ fill. may_declare.memory tree fill refl refl refl;
    }

    pub all-kept : AreAllKept program texts (keeps_step control program)
    all-kept graph c b less = step-kept control program well graph c b less
