-- What a text keeps to beside the grammar: names, types, places and depth.
use Rattle.std.specs.Prelude.{◌≡◌, ℕ, suc, ◌+◌, ◌-◌, max, ◌≤◌, nat_le, nat_lt, ◌==◌, Bool, true, false, ◌&&◌, ◌||◌, not}
use Rattle.std.specs.Prelude.{if◌then◌else◌, List, [], ◌∷◌, ◌++◌, length, map, codes, Option, Some, None, option_map}
use Rattle.std.specs.Prelude.{is_some}
use Rattle.std.specs.List.{list_any, list_all, flat_map}
use Rattle.dcc_c.specs.declared.syntax.Base.{Base}
use Rattle.dcc_c.specs.declared.syntax.Base.TheVariants.{Int, Uint}
use Rattle.dcc_c.specs.declared.syntax.CType.{CType}
use Rattle.dcc_c.specs.Token.{Mark, same_bytes}
use Rattle.dcc_c.specs.Lexing.{Placed}
use Rattle.dcc_c.specs.Types.{promoted_type, same_type}
use Rattle.dcc_c.specs.Tree.{Word, Expr, Number, Name, Unary, Binary, Conditional, Cast, Stmt, Assign, Call, If, While}
use Rattle.dcc_c.specs.Tree.{DoWhile, Switch, Goto, Return, Lines, Arms, no_arms, arm, Global, Variable, Function, Tree}
use Rattle.dcc_c.specs.Parts.{stmts_in, exprs_of, labels_in}
use Rattle.dcc_c.specs.Typing.{Declared, type_of, place_type}
use Rattle.dcc_c.specs.Placement.{elements, after_global, is_auto, is_register}
use Rattle.dcc_c.specs.Dos.{dos_names, dos_of, dos_signature, Signature}
use Rattle.dcc_c.specs.Run.{function_in, param_types}
use Rattle.dcc_c.specs.Grammar.{is_among}

-- Names.

-- no name stands twice in the list
abbrev pub all_differ : List Word → Bool
all_differ [] = true
all_differ (word ∷ words) = not (is_among words word) && all_differ words

abbrev pub names_of : List Variable → List Word
names_of variables = map (λ v. v.name) variables

-- the names that are known in the whole text: global variables, functions and the DOS calls share one name space
abbrev pub known_names : Tree → List Word
known_names tree = map (λ g. g.name) tree.globals ++ (map (λ f. f.name) tree.functions ++ dos_names)

-- a function's parameters and local variables
abbrev pub own_variables : Function → List Variable
own_variables f = f.params ++ f.locals

-- what the parameters, the local variables and the global ones are declared as; `&` is not allowed at `register`
-- parameters and at local variables that are not `auto`
abbrev pub declared_param : Variable → Declared
declared_param v =
    record { name = v.name; type = v.type; is_array = is_some v.len; is_placed = not (is_register v.class) }

abbrev pub declared_local : Variable → Declared
declared_local v = record { name = v.name; type = v.type; is_array = is_some v.len; is_placed = is_auto v.class }

abbrev pub declared_global : Global → Declared
declared_global g = record { name = g.name; type = g.type; is_array = is_some g.len; is_placed = true }

-- the names that a function's expressions may have
abbrev pub declared_in : Tree → Function → List Declared
declared_in tree f =
    map declared_param f.params ++ (map declared_local f.locals ++ map declared_global tree.globals)

abbrev pub goto_of : Stmt → List Word
goto_of (Goto word) = word ∷ []
goto_of _ = []

-- each `goto` names a label of the function, and each label stands once
abbrev pub allows_labels : Lines → Bool
allows_labels body =
    all_differ (labels_in body) && list_all (is_among (labels_in body)) (flat_map goto_of (stmts_in body))

-- Types.

-- a value of the first type may become one of the second: both are numbers, or both one type of pointers
abbrev pub converts : CType → CType → Bool
converts from to = if from.pointer || to.pointer then same_type from to else true

-- the expression has a type, and its value may become one of the type
abbrev pub fits : List Declared → CType → Expr → Bool
fits names to e = elim (type_of names e) [ Some from ↦ converts from to | None ↦ false ]

-- the expression is a number
abbrev pub is_number : List Declared → Expr → Bool
is_number names e = elim (type_of names e) [ Some type ↦ not type.pointer | None ↦ false ]

-- the expression is an int or an unsigned int after promotion
abbrev pub is_word_base : Base → Bool
is_word_base Int = true
is_word_base Uint = true
is_word_base _ = false

abbrev pub is_switch_value : List Declared → Expr → Bool
is_switch_value names e =
    elim (type_of names e) [ Some type ↦ not type.pointer && is_word_base (promoted_type type.base) | None ↦ false ]

-- the values may be the arguments of parameters of these types
abbrev pub fit_all : List Declared → List CType → List Expr → Bool
fit_all names [] [] = true
fit_all names (type ∷ types) (e ∷ es) = fits names type e && fit_all names types es
fit_all names _ _ = false

-- the place may take a value of the type
abbrev pub place_takes : List Declared → Expr → CType → Bool
place_takes names place from = elim (place_type names place) [ Some to ↦ converts from to | None ↦ false ]

-- a function's result may go to the place
abbrev pub result_fits : List Declared → Option Expr → Option CType → Bool
result_fits names None result = true
result_fits names (Some place) (Some from) = place_takes names place from
result_fits names (Some place) None = false

abbrev pub signature_of : Function → Signature
signature_of f = record { result = f.result; params = param_types f }

-- the function with the name, which is a DOS call or one of the text's functions
abbrev pub signature_in : Tree → Word → Option Signature
signature_in tree word = elim (dos_of word) [
  | Some dos ↦ Some (dos_signature dos)
  | None ↦ option_map signature_of (function_in tree.functions word)
]

abbrev pub call_fits : List Declared → Option Expr → List Expr → Option Signature → Bool
call_fits names place arguments None = false
call_fits names place arguments (Some known) =
    result_fits names place known.result && fit_all names known.params arguments

-- the cases of a `switch`
abbrev pub cases_of : Arms → List ℕ
cases_of no_arms = []
cases_of (arm cases body arms) = cases ++ cases_of arms

abbrev pub differ : List ℕ → Bool
differ [] = true
differ (n ∷ ns) = not (list_any (λ m. m == n) ns) && differ ns

abbrev pub at_most_one : Arms → Bool
at_most_one no_arms = true
at_most_one (arm cases body no_arms) = true
at_most_one (arm cases body (arm others last arms)) = false

-- the types of the statement's own expressions are allowed, and its cases differ
abbrev pub allows_stmt : Tree → Function → Stmt → Bool
allows_stmt tree f (Assign place e) =
    let names = declared_in tree f in
    elim (place_type names place) [ Some to ↦ fits names to e | None ↦ false ]
allows_stmt tree f (Call place function arguments depth) =
    call_fits (declared_in tree f) place arguments (signature_in tree function)
allows_stmt tree f (If e body otherwise) = is_number (declared_in tree f) e
allows_stmt tree f (While e body) = is_number (declared_in tree f) e
allows_stmt tree f (DoWhile body e) = is_number (declared_in tree f) e
allows_stmt tree f (Switch e arms last) =
    is_switch_value (declared_in tree f) e && (differ (cases_of arms) && at_most_one last)
allows_stmt tree f (Return None) = not (is_some f.result)
allows_stmt tree f (Return (Some e)) =
    elim f.result [ Some to ↦ fits (declared_in tree f) to e | None ↦ false ]
allows_stmt tree f _ = true

-- Depth.

-- how deep an expression is; a name or a number is 1 deep
abbrev pub expr_depth : Expr → ℕ
expr_depth (Number n base) = 1
expr_depth (Name word) = 1
expr_depth (Unary operator a) = suc (expr_depth a)
expr_depth (Binary operator a b) = suc (max (expr_depth a) (expr_depth b))
expr_depth (Conditional a b c) = suc (max (expr_depth a) (max (expr_depth b) (expr_depth c)))
expr_depth (Cast type a) = suc (expr_depth a)

-- no expression of the statement is deeper than the limit
abbrev pub shallow_stmt : ℕ → Stmt → Bool
shallow_stmt limit stmt = list_all (λ e. nat_le (expr_depth e) limit) (exprs_of stmt)

-- the greatest number of parentheses that are open at a token, where `opened` are open before
abbrev pub most_open : ℕ → List Placed → ℕ
most_open opened [] = opened
most_open opened (p ∷ tokens) = elim p.token [
  | Mark mark ↦ if same_bytes mark (codes "(") then max opened (most_open (opened + 1) tokens)
      else if same_bytes mark (codes ")") then max opened (most_open (opened - 1) tokens)
      else max opened (most_open opened tokens)
  | _ ↦ max opened (most_open opened tokens)
]

-- Places.

-- an array has an element
abbrev pub has_element : Option ℕ → Bool
has_element None = true
has_element (Some len) = nat_lt 0 len

-- a global variable ends within memory, and has no more initial values than elements
abbrev pub allows_global : Global → Bool
allows_global g =
    has_element g.len && (nat_le (after_global g) 65536 && nat_le (length g.init) (elements g.len))

abbrev pub are_apart : Global → Global → Bool
are_apart a b = nat_le (after_global a) b.at || nat_le (after_global b) a.at

-- no two global variables have a byte in common
abbrev pub all_apart : List Global → Bool
all_apart [] = true
all_apart (g ∷ globals) = list_all (are_apart g) globals && all_apart globals

-- the global variable has no byte of the stack
abbrev pub is_off_stack : ℕ → ℕ → Global → Bool
is_off_stack lo hi g = nat_le hi lo || (nat_le (after_global g) lo || nat_le hi g.at)

-- The names, types, places and expressions of a function are allowed.
pub record IsAllowedFunction (tree : Tree) (f : Function) : Type 0 where
  -- no parameter and no local variable is declared twice, or has a name that the whole text knows
  pub own_names : all_differ (names_of (own_variables f) ++ known_names tree) ≡ true
  pub labels : allows_labels f.body ≡ true
  pub types : list_all (allows_stmt tree f) (stmts_in f.body) ≡ true
  pub arrays : list_all (λ v. has_element v.len) f.locals ≡ true
  pub depth : list_all (shallow_stmt 200) (stmts_in f.body) ≡ true

-- each function of the list is allowed
pub data AreAllowed (tree : Tree) : List Function → Type 0 where
  no_more : AreAllowed tree []
  one_more : {f : Function} {functions : List Function} →
      IsAllowedFunction tree f → AreAllowed tree functions → AreAllowed tree (f ∷ functions)

-- The first function is `void start(void)`. The names, types, places and expressions of the text are allowed.
pub record IsAllowed (tree : Tree) : Type 0 where
  pub start : Function
  pub others : List Function
  pub first : tree.functions ≡ start ∷ others
  pub name : start.name ≡ codes "start"
  pub no_params : start.params ≡ []
  pub no_result : start.result ≡ None
  pub names : all_differ (known_names tree) ≡ true
  pub functions : AreAllowed tree tree.functions
  pub lo : tree.lo ≤ 65535
  pub hi : tree.hi ≤ 65535
  pub globals : list_all allows_global tree.globals ≡ true
  pub apart : all_apart tree.globals ≡ true
  pub off_stack : list_all (is_off_stack tree.lo tree.hi) tree.globals ≡ true
