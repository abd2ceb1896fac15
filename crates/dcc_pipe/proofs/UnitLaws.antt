-- The functions of a unit, as code makes them.
use Rattle.std.proofs.Common.{◌≡◌, ℕ, ◌+◌, ◌<◌, true, List, [], ◌∷◌, ◌++◌, length, map, take, get_or, refl, sym, ap, ap₂, ◌∙◌, subst}
use Rattle.std.specs.Prelude.{All, codes}
use Rattle.std.specs.List.{AllZip}
use Rattle.std.proofs.Math.Path.{fun_ext}
use Rattle.std.proofs.lemmas.List.{map-append, take_more}
use Rattle.std.proofs.lemmas.List.Elements.{All-nil, All-cons, All-head, All-tail, All-map, All-more}
use Rattle.dcc_ir.specs.declared.syntax.Graph.{Graph as GraphOf}
use Rattle.dcc_ir.specs.Views.{graph_of}
use Rattle.dcc_c.specs.declared.syntax.Func.{Func}
use Rattle.dcc_c.specs.Tree.{Word, Global, Function, Tree}
use Rattle.dcc_control.specs.Plan.{Plan, no_items}
use Rattle.dcc_ir.specs.declared.syntax.Loc.{Loc}
use Rattle.dcc_ir.specs.declared.syntax.Param.{Param}
use Rattle.dcc_ir.specs.Live.{is_among}
use Rattle.dcc_ir.specs.Tree.{Graph, Program}
use Rattle.dcc_ir.specs.WellFormed.{all_differ, IsGraph, IsProgram}
use Rattle.dcc_c.specs.declared.syntax.CStmt.{CStmt}
use Rattle.dcc_c.specs.declared.syntax.Line.{Line}
use Rattle.dcc_c.specs.Tree.{line}
use Rattle.dcc_c.specs.Views.{function_of, stmt_of, lines_of}
use Rattle.dcc_variables.specs.FunctionLaws.{HasFewNames}
use Rattle.dcc_variables.specs.Functions.{function_name, function_shape, spelling_by, openings_from}
use Rattle.dcc_variables.specs.Variables.{Shape}
use Rattle.dcc_plan.specs.PlanText.{plan_text}
use Rattle.dcc_pipe.specs.Lines.{fresh_line}
use Rattle.dcc_pipe.specs.Control.{Control, IsControlOf}
use Rattle.dcc_pipe.specs.WholeText.{opened, before_lines, body_of, text_function, other_functions, text_functions, IsWholeText}
use Rattle.dcc_pipe.specs.WrittenFunctions.{IsFunctionBy, IsOwnFunction, AreFunctionsBy}
use Rattle.dcc_pipe.proofs.FunctionTables.{value_for, values-are, each-value}

fresh-lines : (stmts : List CStmt) (lines : List Line)
    → lines_of (map fresh_line stmts ++ lines) ≡ before_lines (map stmt_of stmts) (lines_of lines)
fresh-lines [] lines = refl
fresh-lines (stmt ∷ stmts) lines = ap (λ ls. line (stmt_of stmt) 0 ls) (fresh-lines stmts lines)

-- the body of a graph's function by these openings and this text of its plan
pub body-is : (plan : Plan) (g : Graph) (shape : Shape) (params : List Param) (wanted : List Loc) (stmts : List CStmt)
    (first second all : List Line)
    → shape ≡ function_shape g → params ≡ g.params
    → map stmt_of stmts ≡ openings_from (spelling_by shape params) (is_among wanted) 0 params
    → ((location : Loc) → is_among wanted location ≡ opened g location)
    → first ≡ map fresh_line stmts → lines_of second ≡ plan_text (spelling_by shape params) g plan
    → all ≡ first ++ second → lines_of all ≡ body_of plan g
body-is plan g shape params wanted stmts first second all is_shape are_params opens exact fresh text joins =
    ap lines_of (joins ∙ ap (λ lines. lines ++ second) fresh) ∙ fresh-lines stmts second
    ∙ ap (λ opening. before_lines opening (lines_of second)) opens
    ∙ ap (λ wants. before_lines (openings_from (spelling_by shape params) wants 0 params) (lines_of second)) (fun_ext exact)
    ∙ ap (before_lines (openings_from (spelling_by shape params) (opened g) 0 params)) text
    ∙ ap (λ s. before_lines (openings_from (spelling_by s params) (opened g) 0 params)
    (plan_text (spelling_by s params) g plan)) is_shape
    ∙ ap (λ ps. before_lines (openings_from (spelling_by (function_shape g) ps) (opened g) 0 ps)
    (plan_text (spelling_by (function_shape g) ps) g plan)) are_params

-- what holds place by place holds with one more
zip-more : {A B : Type 0} (R : A → B → Type 0) (xs : List A) (ys : List B) (x : A) (y : B) → AllZip R xs ys → R x y
    → AllZip R (xs ++ x ∷ []) (ys ++ y ∷ [])
zip-more R [] [] x y all one = (one, tt)
zip-more R [] (b ∷ ys) x y all one = absurd all
zip-more R (a ∷ xs) [] x y all one = absurd all
zip-more R (a ∷ xs) (b ∷ ys) x y all one = (all.0, zip-more R xs ys x y all.1 one)

-- one function more, of the next graph
pub more-functions : (graphs : List GraphOf) (i : ℕ) (g : GraphOf) (fs new : List Func) (f : Func) (name : Word)
    → i < length graphs → g ≡ get_or graphs i g
    → AllZip IsOwnFunction (map graph_of (take i graphs)) (map function_of fs)
    → name ≡ function_name (graph_of g).entry → IsFunctionBy name (graph_of g) (function_of f) → new ≡ fs ++ f ∷ []
    → AllZip IsOwnFunction (map graph_of (take (i + 1) graphs)) (map function_of new)
more-functions graphs i g fs new f name less is so_far named made pushed =
    let one = zip-more IsOwnFunction (map graph_of (take i graphs)) (map function_of fs) (graph_of g) (function_of f) so_far
    (subst (λ word. IsFunctionBy word (graph_of g) (function_of f)) named made) in
    subst (λ hs. AllZip IsOwnFunction hs (map function_of new))
    (sym (ap (map graph_of) (take_more graphs i g less ∙ ap (λ x. take i graphs ++ x ∷ []) (sym is))
    ∙ map-append graph_of (take i graphs) (g ∷ [])))
    (subst (λ hs. AllZip IsOwnFunction (map graph_of (take i graphs) ++ graph_of g ∷ []) hs)
    (sym (ap (map function_of) pushed ∙ map-append function_of fs (f ∷ []))) one)

pub more-few : (graphs : List GraphOf) (i : ℕ) (g : GraphOf) → i < length graphs → g ≡ get_or graphs i g
    → All (λ graph. HasFewNames (graph_of graph)) (take i graphs) → HasFewNames (graph_of g)
    → All (λ graph. HasFewNames (graph_of graph)) (take (i + 1) graphs)
more-few graphs i g less is so_far few =
    All-more (λ graph. HasFewNames (graph_of graph)) graphs i g less so_far
    (subst (λ x. HasFewNames (graph_of x)) is few)

-- what the parts of all elements are, each element's part is
unmapped : {A B : Type 0} (P : B → Type 0) (f : A → B) (xs : List A) → All P (map f xs) → All (λ x. P (f x)) xs
unmapped P f [] all = All-nil (λ x. P (f x))
unmapped P f (x ∷ xs) all =
    All-cons (λ x. P (f x)) x xs (All-head P (f x) (map f xs) all)
    (unmapped P f xs (All-tail P (f x) (map f xs) all))

-- the first graph is well formed, and so are the others
pub first-formed : (graphs : List GraphOf) (first : GraphOf) (others : List GraphOf) → graphs ≡ first ∷ others
    → All IsGraph (map graph_of graphs) → IsGraph (graph_of first)
first-formed graphs first others is all =
    All-head IsGraph (graph_of first) (map graph_of others) (subst (λ gs. All IsGraph (map graph_of gs)) is all)

pub others-formed : (graphs : List GraphOf) (first : GraphOf) (others : List GraphOf) → graphs ≡ first ∷ others
    → All IsGraph (map graph_of graphs) → All (λ graph. IsGraph (graph_of graph)) others
others-formed graphs first others is all =
    unmapped IsGraph graph_of others
    (All-tail IsGraph (graph_of first) (map graph_of others) (subst (λ gs. All IsGraph (map graph_of gs)) is all))

-- the first graph's names are few, and those of the others
pub all-few : (graphs : List GraphOf) (first : GraphOf) (others : List GraphOf) → graphs ≡ first ∷ others
    → HasFewNames (graph_of first) → All (λ graph. HasFewNames (graph_of graph)) others
    → All HasFewNames (map graph_of graphs)
all-few graphs first others is few rest =
    subst (λ gs. All HasFewNames (map graph_of gs)) (sym is)
    (All-cons HasFewNames (graph_of first) (map graph_of others) few (All-map HasFewNames graph_of others rest))

-- the functions of the first graph and of the others, one after another
pub functions-after : (graphs : List GraphOf) (first : GraphOf) (others : List GraphOf) (f : Func) (fs all : List Func)
    → graphs ≡ first ∷ others → IsFunctionBy (codes "start") (graph_of first) (function_of f)
    → AllZip IsOwnFunction (map graph_of others) (map function_of fs) → all ≡ f ∷ fs
    → AreFunctionsBy (map graph_of graphs) (map function_of all)
functions-after graphs first others f fs all is start own joined =
    subst (λ gs. AreFunctionsBy (map graph_of gs) (map function_of all)) (sym is)
    (subst (λ hs. AreFunctionsBy (map graph_of (first ∷ others)) (map function_of hs)) (sym joined) (start, own))

pub no-functions : (graphs : List GraphOf) (all : List Func) → graphs ≡ [] → all ≡ []
    → AreFunctionsBy (map graph_of graphs) (map function_of all)
no-functions graphs all is none =
    subst (λ gs. AreFunctionsBy (map graph_of gs) (map function_of all)) (sym is)
    (subst (λ hs. AreFunctionsBy [] (map function_of hs)) (sym none) tt)

-- The control of functions that are written one by one.

-- equal lists that are not empty have equal first elements, and the others are equal
heads-equal : {A : Type 0} {x y : A} {xs ys : List A} → x ∷ xs ≡ y ∷ ys → x ≡ y
heads-equal e = cc

tails-equal : {A : Type 0} {x y : A} {xs ys : List A} → x ∷ xs ≡ y ∷ ys → xs ≡ ys
tails-equal e = cc

-- the plans by which the functions are written
abbrev plans-of : (graphs : List Graph) (functions : List Function) → AllZip IsOwnFunction graphs functions → List Plan
plans-of [] [] all = []
plans-of [] (f ∷ functions) all = absurd all
plans-of (g ∷ graphs) [] all = absurd all
plans-of (g ∷ graphs) (f ∷ functions) all = all.0.plan ∷ plans-of graphs functions all.1

plans-control : (graphs : List Graph) (functions : List Function) (all : AllZip IsOwnFunction graphs functions)
    → AllZip IsControlOf graphs (plans-of graphs functions all)
plans-control [] [] all = tt
plans-control [] (f ∷ functions) all = absurd all
plans-control (g ∷ graphs) [] all = absurd all
plans-control (g ∷ graphs) (f ∷ functions) all = (all.0.is_control, plans-control graphs functions all.1)

-- where the control has these plans, the functions are those of the graphs by it
written-by : (control : Control) (graphs : List Graph) (functions : List Function)
    (all : AllZip IsOwnFunction graphs functions) → map control graphs ≡ plans-of graphs functions all
    → functions ≡ other_functions control graphs
written-by control [] [] all same = refl
written-by control [] (f ∷ functions) all same = absurd all
written-by control (g ∷ graphs) [] all same = absurd all
written-by control (g ∷ graphs) (f ∷ functions) all same =
    let both : control g ∷ map control graphs ≡ all.0.plan ∷ plans-of graphs functions all.1 = same in
    ap₂ (λ h hs. h ∷ hs)
    (all.0.is ∙ ap (λ plan. text_function plan (function_name g.entry) g) (sym (heads-equal both)))
    (written-by control graphs functions all.1 (tails-equal both))

-- a tree is the text of a program whose functions are written one by one
pub whole-from : (known : List Global) (p : Program) (tree : Tree) → IsProgram p → tree.version ≡ 1 → tree.lo ≡ p.lo → tree.hi ≡ p.hi
    → tree.globals ≡ known → AreFunctionsBy p.graphs tree.functions → IsWholeText known p tree
whole-from known p tree well version lo hi globals are =
    let x = by p.graphs tree.functions well.entries are in
    record {
      control = x.0;
      controls = x.1;
      is = λ i. record {
        version = version i;
        lo = lo i;
        hi = hi i;
        globals = globals i;
        functions = x.2 i;
      };
    }
  where
    by : (graphs : List Graph) (functions : List Function) → all_differ (map (λ (g : Graph). g.entry) graphs) ≡ true
        → AreFunctionsBy graphs functions → (control : Control) × All (λ g. IsControlOf g (control g)) graphs
        × (functions ≡ text_functions control graphs)
    by [] [] differ are = (λ graph. no_items, All-nil (λ g. IsControlOf g no_items), refl)
    by [] (f ∷ functions) differ are = absurd are
    by (g ∷ graphs) [] differ are = absurd are
    by (g ∷ graphs) (f ∷ functions) differ are =
        let plans = are.0.plan ∷ plans-of graphs functions are.1 in
        let zipped : AllZip IsControlOf (g ∷ graphs) plans = (are.0.is_control, plans-control graphs functions are.1) in
        let control : Control = value_for no_items (g ∷ graphs) plans in
        let same : control g ∷ map control graphs ≡ plans =
        values-are no_items IsControlOf (g ∷ graphs) plans zipped differ in (
          control,
          each-value no_items IsControlOf (g ∷ graphs) plans zipped differ,
          ap₂ (λ h hs. h ∷ hs)
              (are.0.is ∙ ap (λ plan. text_function plan (codes "start") g) (sym (heads-equal same)))
              (written-by control graphs functions are.1 (tails-equal same)),
        )
