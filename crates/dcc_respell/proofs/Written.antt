-- A text whose expressions are written in ways that mean the same, its lines counted, is the text otherwise written.
use Rattle.std.proofs.Common.{◌≡◌, ℕ, ◌+◌, Bool, true, false, ◌&&◌, ◌||◌, not, List, [], ◌∷◌, ◌++◌, map, length, Option, Some, None, refl, sym, ap, ap₂, ◌∙◌, subst}
use Rattle.std.specs.Prelude.{option_map}
use Rattle.std.specs.List.{AllZip, list_all, list_any, flat_map}
use Rattle.std.proofs.lemmas.Bool.{and_parts}
use Rattle.std.proofs.lemmas.List.Folds.{list_all-append}
use Rattle.dcc_c.specs.declared.syntax.CType.{CType}
use Rattle.dcc_c.specs.Tree.{Word, Expr, Stmt, Assign, Call, If, While, DoWhile, Forever, Switch, Break, Continue, Goto, Label, Empty, Return, Lines, no_lines, line, Arms, no_arms, arm, Variable, Function, Tree}
use Rattle.dcc_c.specs.Dos.{Signature}
use Rattle.dcc_c.specs.Parts.{stmts_in, inner_stmts, arm_stmts, parts_of, expr_if, exprs_of}
use Rattle.dcc_c.specs.Placement.{is_address_of, takes_address}
use Rattle.dcc_c.specs.Typing.{Declared, place_type}
use Rattle.dcc_c.specs.Rules.{declared_in, converts, fits, is_switch_value, cases_of, differ, at_most_one, fit_all, result_fits, call_fits, allows_stmt, signature_in}
use Rattle.dcc_c.specs.Numbered.{numbered_stmt, numbered_lines, numbered_arms, numbered_default, numbered_function, numbered_functions}
use Rattle.dcc_c.specs.Value.{Outcome, Gives, Divides, Undefined, and_then, Target}
use Rattle.dcc_c.proofs.NumberedLaws.{all_same, exprs_same}
use Rattle.dcc_progress.specs.Stuck.{StandsIn, here, inside, later, in_then, in_else, in_while, in_do, in_for, in_arm}
use Rattle.dcc_progress.specs.Stuck.{in_default, StandsInside, StandsInArms, in_body, in_others}
use Rattle.dcc_progress.proofs.Bodies.{all_left, all_right, any_flat}
use Rattle.dcc_progress.proofs.Declarations.{Takes, takes-stmt, takes-first, takes-others}
use Rattle.dcc_progress.proofs.Values.{has-type}
use Rattle.dcc_respell.specs.Respelled.{Both, TargetAlike, IfTargetsAlike, ResultAlike, StmtAlike, LinesAlike, ArmsAlike, assigns, calls, repeats, tests_after, turns_round, chooses, breaks, continues, jumps, is_label, is_empty, returns, gives, no_more, one_more, no_arm, one_arm, VariableAlike, FunctionAlike}
use Rattle.dcc_respell.specs.Respelled as spelled
use Rattle.dcc_respell.specs.Writing.{Writing, stmt_by, lines_by, arms_by, function_by, MeansAlike, KeepsAddresses}

-- Statements.

module _ (tree after : Tree) (f g : Function) (w : Writing) (means : MeansAlike tree after f g w) where
  abbrev names : List Declared
  names = declared_in tree f

  one-target : (o p : Outcome Target) → Both TargetAlike o p → Both IfTargetsAlike (and_then (λ target. Gives (Some target)) o) (and_then (λ target. Gives (Some target)) p)
  one-target (Gives a) (Gives b) both = both
  one-target Divides Divides both = tt
  one-target (Gives a) Divides both = absurd both
  one-target (Gives a) Undefined both = absurd both
  one-target Divides (Gives b) both = absurd both
  one-target Divides Undefined both = absurd both
  one-target Undefined p both = absurd both

  taken-alike : (place : Expr) (result : Option CType) → result_fits names (Some place) result ≡ true → Takes f.body (parts_of place) →
      ResultAlike tree after f g (Some place) (Some (w.place place))
  taken-alike place None fit takes = absurd cc
  taken-alike place (Some from) fit takes =
      let has = has-type (place_type names place) (converts from) fit in
      λ frame other memory same. one-target _ _ (means.place place has.0 has.1 takes frame other memory same)

  result-alike : (place : Option Expr) (arguments : List Expr) (signature : Option Signature) → call_fits names place arguments signature ≡ true → Takes f.body (flat_map parts_of (expr_if place ++ arguments)) →
      ResultAlike tree after f g place (option_map w.place place)
  result-alike None arguments signature fit takes = λ frame other memory same. tt
  result-alike (Some place) arguments None fit takes = absurd cc
  result-alike (Some place) arguments (Some known) fit takes =
      taken-alike place known.result (and_parts (result_fits names (Some place) known.result) (fit_all names known.params arguments) fit).0 (takes-first f.body place arguments takes)

  arguments-fit : (place : Option Expr) (arguments : List Expr) (signature : Option Signature) (known : Signature) → call_fits names place arguments signature ≡ true → signature ≡ Some known → fit_all names known.params arguments ≡ true
  arguments-fit place arguments (Some own) known fit is =
      let same : own ≡ known = cc in
      subst (λ k. fit_all names k.params arguments ≡ true) same (and_parts (result_fits names place own.result) (fit_all names own.params arguments) fit).1
  arguments-fit place arguments None known fit is = absurd cc

  arguments-take : (place : Option Expr) (arguments : List Expr) → Takes f.body (flat_map parts_of (expr_if place ++ arguments)) → Takes f.body (flat_map parts_of arguments)
  arguments-take None arguments takes = takes
  arguments-take (Some place) arguments takes = takes-others f.body place arguments takes

  returned-alike : (e : Expr) → ((result : Option CType) → f.result ≡ result → elim result [ Some to ↦ fits names to e | None ↦ false ] ≡ true → Takes f.body (parts_of e) → StmtAlike tree after f g (Return (Some e)) (Return (Some (w.returned e))))
  returned-alike e (Some type) is fit takes =
      gives (λ own same. let one : type ≡ own = some (sym is ∙ same) in means.returned e own same (subst (λ t. fits names t e ≡ true) one fit) takes)
    where
      some : {a b : CType} → Some a ≡ Some b → a ≡ b
      some e = cc
  returned-alike e None is fit takes = absurd cc

  -- what stands among the statements stands in the function
  abbrev Own : Lines → Type 0
  Own lines = (stmt : Stmt) (at : ℕ) → StandsIn lines stmt at → StandsIn f.body stmt at

  abbrev OwnArms : Arms → Type 0
  OwnArms arms = (stmt : Stmt) (at : ℕ) → StandsInArms arms stmt at → StandsIn f.body stmt at

  abbrev Allowed : List Stmt → Type 0
  Allowed stmts = list_all (allows_stmt tree f) stmts ≡ true

  first-takes : (stmt : Stmt) (at : ℕ) → StandsIn f.body stmt at → Takes f.body (flat_map parts_of (exprs_of stmt))
  first-takes stmt at stands = takes-stmt stands

  mutual
    pub lines-alike : (lines : Lines) (depth at own there : ℕ) → Own (numbered_lines depth at lines) → Allowed (stmts_in (numbered_lines depth at lines)) →
        LinesAlike tree after f g (numbered_lines depth at lines) (numbered_lines own there (lines_by w lines))
    lines-alike no_lines depth at own there stands allowed = no_more
    lines-alike (line stmt was lines) depth at own there stands allowed =
        let first = and_parts (allows_stmt tree f (numbered_stmt _ _ stmt)) (list_all (allows_stmt tree f) (inner_stmts (numbered_stmt _ _ stmt) ++ stmts_in (numbered_lines _ _ lines))) allowed in
        one_more
        (stmt-alike stmt _ _ _ _ (stands _ _ here) (λ s a inner. stands s a (inside inner)) first.0 (all_left (allows_stmt tree f) (inner_stmts (numbered_stmt _ _ stmt)) (stmts_in (numbered_lines _ _ lines)) first.1))
        (lines-alike lines _ _ _ _ (λ s a rest. stands s a (later rest)) (all_right (allows_stmt tree f) (inner_stmts (numbered_stmt _ _ stmt)) (stmts_in (numbered_lines _ _ lines)) first.1))

    stmt-alike : (stmt : Stmt) (depth at own there : ℕ) {line_at : ℕ} → StandsIn f.body (numbered_stmt depth at stmt) line_at → ((s : Stmt) (a : ℕ) → StandsInside (numbered_stmt depth at stmt) s a → StandsIn f.body s a) →
        allows_stmt tree f (numbered_stmt depth at stmt) ≡ true → Allowed (inner_stmts (numbered_stmt depth at stmt)) →
        StmtAlike tree after f g (numbered_stmt depth at stmt) (numbered_stmt own there (stmt_by w stmt))
    stmt-alike (Assign place e) depth at own there stands inner allowed rest = assigns (means.value place e allowed (takes-stmt stands))
    stmt-alike (Call place function arguments calls_depth) depth at own there stands inner allowed rest =
        calls (result-alike place arguments (signature_in tree function) allowed (takes-stmt stands))
        (λ known below one two. means.arguments function arguments known below one two (arguments-fit place arguments (signature_in tree function) known allowed one) (arguments-take place arguments (takes-stmt stands)))
    stmt-alike (If e body otherwise) depth at own there stands inner allowed rest =
        spelled.tests (means.test e allowed (takes-first f.body e [] (takes-stmt stands)))
        (lines-alike body _ _ _ _ (λ s a i. inner s a (in_then i)) (all_left (allows_stmt tree f) (stmts_in (numbered_lines _ _ body)) (stmts_in (numbered_lines _ _ otherwise)) rest))
        (lines-alike otherwise _ _ _ _ (λ s a i. inner s a (in_else i)) (all_right (allows_stmt tree f) (stmts_in (numbered_lines _ _ body)) (stmts_in (numbered_lines _ _ otherwise)) rest))
    stmt-alike (While e body) depth at own there stands inner allowed rest =
        repeats (means.test e allowed (takes-first f.body e [] (takes-stmt stands))) (lines-alike body _ _ _ _ (λ s a i. inner s a (in_while i)) rest)
    stmt-alike (DoWhile body e) depth at own there stands inner allowed rest =
        tests_after (means.test e allowed (takes-first f.body e [] (takes-stmt stands))) (lines-alike body _ _ _ _ (λ s a i. inner s a (in_do i)) rest)
    stmt-alike (Forever body) depth at own there stands inner allowed rest =
        turns_round (lines-alike body _ _ _ _ (λ s a i. inner s a (in_for i)) rest)
    stmt-alike (Switch e arms last) depth at own there stands inner allowed rest =
        chooses (means.choice e (and_parts (is_switch_value names e) (differ (cases_of (numbered_arms _ _ arms)) && at_most_one (numbered_default _ _ last)) allowed).0 (takes-first f.body e [] (takes-stmt stands)))
        (arms-alike arms _ _ _ _ (λ s a i. inner s a (in_arm i)) (all_left (allows_stmt tree f) (arm_stmts (numbered_arms _ _ arms)) (arm_stmts (numbered_default _ _ last)) rest))
        (default-alike last _ _ _ _ (and_parts (differ (cases_of (numbered_arms _ _ arms))) (at_most_one (numbered_default _ _ last)) (and_parts (is_switch_value names e) (differ (cases_of (numbered_arms _ _ arms)) && at_most_one (numbered_default _ _ last)) allowed).1).1 (λ s a i. inner s a (in_default i)) (all_right (allows_stmt tree f) (arm_stmts (numbered_arms _ _ arms)) (arm_stmts (numbered_default _ _ last)) rest))
    stmt-alike Break depth at own there stands inner allowed rest = breaks
    stmt-alike Continue depth at own there stands inner allowed rest = continues
    stmt-alike (Goto word) depth at own there stands inner allowed rest = jumps
    stmt-alike (Label word) depth at own there stands inner allowed rest = is_label
    stmt-alike Empty depth at own there stands inner allowed rest = is_empty
    stmt-alike (Return None) depth at own there stands inner allowed rest = returns
    stmt-alike (Return (Some e)) depth at own there stands inner allowed rest =
        returned-alike e f.result refl allowed (takes-first f.body e [] (takes-stmt stands))

    arms-alike : (arms : Arms) (depth at own there : ℕ) → OwnArms (numbered_arms depth at arms) → Allowed (arm_stmts (numbered_arms depth at arms)) →
        ArmsAlike tree after f g (numbered_arms depth at arms) (numbered_arms own there (arms_by w arms))
    arms-alike no_arms depth at own there stands allowed = no_arm
    arms-alike (arm cases body arms) depth at own there stands allowed =
        one_arm
        (lines-alike body _ _ _ _ (λ s a i. stands s a (in_body i)) (all_left (allows_stmt tree f) (stmts_in (numbered_lines _ _ body)) (arm_stmts (numbered_arms _ _ arms)) allowed))
        (arms-alike arms _ _ _ _ (λ s a i. stands s a (in_others i)) (all_right (allows_stmt tree f) (stmts_in (numbered_lines _ _ body)) (arm_stmts (numbered_arms _ _ arms)) allowed))

    default-alike : (arms : Arms) (depth at own there : ℕ) → at_most_one (numbered_default depth at arms) ≡ true → OwnArms (numbered_default depth at arms) → Allowed (arm_stmts (numbered_default depth at arms)) →
        ArmsAlike tree after f g (numbered_default depth at arms) (numbered_default own there (arms_by w arms))
    default-alike no_arms depth at own there one stands allowed = no_arm
    default-alike (arm cases body no_arms) depth at own there one stands allowed =
        one_arm (lines-alike body _ _ _ _ (λ s a i. stands s a (in_body i)) (all_left (allows_stmt tree f) (stmts_in (numbered_lines _ _ body)) [] allowed)) no_arm
    default-alike (arm cases body (arm others lines arms)) depth at own there one stands allowed = absurd cc

-- Addresses.

-- a test that the statement passes as it is written anew all of them pass
module _ (w : Writing) (test : Stmt → Bool) (same : (stmt : Stmt) → test (stmt_by w stmt) ≡ test stmt) where
  both-pass : (xs ys us vs : List Stmt) → list_all test xs ≡ list_all test us → list_all test ys ≡ list_all test vs → list_all test (xs ++ ys) ≡ list_all test (us ++ vs)
  both-pass xs ys us vs first second = list_all-append test xs ys ∙ ap₂ (λ a b. a && b) first second ∙ sym (list_all-append test us vs)

  mutual
    pub lines-pass : (lines : Lines) → list_all test (stmts_in (lines_by w lines)) ≡ list_all test (stmts_in lines)
    lines-pass no_lines = refl
    lines-pass (line stmt at lines) =
        ap₂ (λ a b. a && b) (same stmt) (both-pass (inner_stmts (stmt_by w stmt)) (stmts_in (lines_by w lines)) (inner_stmts stmt) (stmts_in lines) (inner-pass stmt) (lines-pass lines))

    inner-pass : (stmt : Stmt) → list_all test (inner_stmts (stmt_by w stmt)) ≡ list_all test (inner_stmts stmt)
    inner-pass (If e body otherwise) =
        both-pass (stmts_in (lines_by w body)) (stmts_in (lines_by w otherwise)) (stmts_in body) (stmts_in otherwise) (lines-pass body) (lines-pass otherwise)
    inner-pass (While e body) = lines-pass body
    inner-pass (DoWhile body e) = lines-pass body
    inner-pass (Forever body) = lines-pass body
    inner-pass (Switch e arms last) =
        both-pass (arm_stmts (arms_by w arms)) (arm_stmts (arms_by w last)) (arm_stmts arms) (arm_stmts last) (arms-pass arms) (arms-pass last)
    inner-pass (Assign place e) = refl
    inner-pass (Call place function arguments depth) = refl
    inner-pass Break = refl
    inner-pass Continue = refl
    inner-pass (Goto word) = refl
    inner-pass (Label word) = refl
    inner-pass Empty = refl
    inner-pass (Return e) = refl

    arms-pass : (arms : Arms) → list_all test (arm_stmts (arms_by w arms)) ≡ list_all test (arm_stmts arms)
    arms-pass no_arms = refl
    arms-pass (arm cases body arms) =
        both-pass (stmts_in (lines_by w body)) (arm_stmts (arms_by w arms)) (stmts_in body) (arm_stmts arms) (lines-pass body) (arms-pass arms)

any-by-none : {A : Type 0} (p : A → Bool) (xs : List A) → list_any p xs ≡ not (list_all (λ x. not (p x)) xs)
any-by-none p [] = refl
any-by-none p (x ∷ xs) = ap (λ b. p x || b) (any-by-none p xs) ∙ turned (p x) (list_all (λ y. not (p y)) xs)
  where
    turned : (a b : Bool) → (a || not b) ≡ not (not a && b)
    turned true b = refl
    turned false b = refl

-- the statement takes no address of the name
abbrev spares : Word → Stmt → Bool
spares word stmt = not (list_any (is_address_of word) (flat_map parts_of (exprs_of stmt)))

taken-by-statements : (lines : Lines) (word : Word) → takes_address lines word ≡ not (list_all (spares word) (stmts_in lines))
taken-by-statements lines word =
    any_flat (is_address_of word) (λ stmt. flat_map parts_of (exprs_of stmt)) (stmts_in lines)
    ∙ any-by-none (λ stmt. list_any (is_address_of word) (flat_map parts_of (exprs_of stmt))) (stmts_in lines)

numbered-spares : (word : Word) (depth at : ℕ) (stmt : Stmt) → spares word (numbered_stmt depth at stmt) ≡ spares word stmt
numbered-spares word depth at stmt = ap (λ es. not (list_any (is_address_of word) (flat_map parts_of es))) (exprs_same depth at stmt)

-- a body that is written anew, and numbered, takes the addresses that the numbered one takes
pub addresses-kept : (w : Writing) → KeepsAddresses w → (lines : Lines) (depth at own there : ℕ) (word : Word) →
    takes_address (numbered_lines own there (lines_by w lines)) word ≡ takes_address (numbered_lines depth at lines) word
addresses-kept w keeps lines depth at own there word =
    taken-by-statements (numbered_lines own there (lines_by w lines)) word
    ∙ ap not (all_same (spares word) (numbered-spares word) (lines_by w lines) own there
    ∙ lines-pass w (spares word) (λ stmt. ap not (keeps stmt word)) lines
    ∙ sym (all_same (spares word) (numbered-spares word) lines depth at))
    ∙ sym (taken-by-statements (numbered_lines depth at lines) word)

-- Functions.

variables-same : (vs : List Variable) → AllZip VariableAlike vs vs
variables-same [] = tt
variables-same (v ∷ vs) = (record { name = refl; len = refl; class = refl; room = refl }, variables-same vs)

module _ (writing : Function → Writing) (tree after : Tree) where
  -- the functions of the two texts, numbered from these lines on
  abbrev pub MeanAlike : List Function → ℕ → ℕ → Type 0
  MeanAlike [] at there = Unit {0}
  MeanAlike (f ∷ functions) at there =
      let own = numbered_function at f in
      let other = numbered_function there (function_by writing f) in
      (MeansAlike tree after own other (writing f) × KeepsAddresses (writing f) × (list_all (allows_stmt tree own) (stmts_in own.body) ≡ true))
      × MeanAlike functions (own.last + 1) (other.last + 1)

  pub functions-alike : (functions : List Function) (at there : ℕ) → MeanAlike functions at there →
      AllZip (FunctionAlike tree after) (numbered_functions at functions) (numbered_functions there (map (function_by writing) functions))
  functions-alike [] at there mean = tt
  functions-alike (f ∷ functions) at there mean = (
    record {
      name = refl;
      result = refl;
      params = variables-same f.params;
      locals = variables-same f.locals;
      addresses = λ word. addresses-kept (writing f) mean.0.1 f.body 2 (at + 2 + length f.locals) 2 (there + 2 + length f.locals) word;
      body = lines-alike tree after (numbered_function at f) (numbered_function there (function_by writing f)) (writing f) mean.0.0 f.body 2 (at + 2 + length f.locals) 2 (there + 2 + length f.locals) (λ stmt line stands. stands) mean.0.2;
    },
    functions-alike functions _ _ mean.1,
  )
