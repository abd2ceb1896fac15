-- What stands at the points of a function's code: how the text goes on from there.
use Rattle.std.specs.Prelude.{◌≡◌, ℕ, Bool, false, ◌==◌, if◌then◌else◌, List, [], ◌∷◌, ◌++◌, length, map, string_bytes}
use Rattle.std.specs.Prelude.{Option, Some, None, is_some, slice_get}
use Rattle.std.specs.List.{list_any}
use Rattle.dcc_c.specs.declared.syntax.Base.TheVariants.{Uint}
use Rattle.dcc_c.specs.Token.{same_bytes}
use Rattle.dcc_c.specs.Types.{plain}
use Rattle.dcc_c.specs.Tree.{Word, Expr, Assign, Call, Return, Variable, Function, Tree}
use Rattle.dcc_c.specs.Typing.{Declared}
use Rattle.dcc_c.specs.Rules.{declared_global}
use Rattle.dcc_c.specs.Placement.{params_of_call, locals_of_call}
use Rattle.dcc_c.specs.Value.{is_zero, converted, value_of}
use Rattle.dcc_c.specs.Dos.{Dos, Putc, Getche, Getch, Puts, Leave, dos_of}
use Rattle.dcc_c.specs.Run.{Continuation, State, with_end, goes_on, on, scope_of, after_goto, jump_step, close_step}
use Rattle.dcc_c.specs.Run.{function_in, stmt_step, step_at}
use Rattle.dcc_run.specs.End.{Stuck as stuck}
use Rattle.dcc_value.specs.declared.expression.Resolved.{Resolved}
use Rattle.dcc_prepare.specs.declared.program.Dos.{Dos as DosCall}
use Rattle.dcc_prepare.specs.declared.program.Dos.TheVariants.{Putc as calls_putc, Getche as calls_getche}
use Rattle.dcc_prepare.specs.declared.program.Dos.TheVariants.{Getch as calls_getch, Puts as calls_puts}
use Rattle.dcc_prepare.specs.declared.program.Dos.TheVariants.{Leave as calls_leave}
use Rattle.dcc_prepare.specs.declared.program.Callee.{Callee}
use Rattle.dcc_prepare.specs.declared.program.Callee.TheVariants.{Dos as CallsDos, Function as CallsFunction}
use Rattle.dcc_prepare.specs.declared.program.Callee.TheVariants.{Unknown as CallsNothing}
use Rattle.dcc_prepare.specs.declared.program.CallRow.{CallRow}
use Rattle.dcc_prepare.specs.declared.program.Case.{Case}
use Rattle.dcc_prepare.specs.declared.program.Action.{Action}
use Rattle.dcc_prepare.specs.declared.program.Action.TheVariants.{Pass, Assign as Assigns, Call as Calls, Test, Switch}
use Rattle.dcc_prepare.specs.declared.program.Action.TheVariants.{Goto, Return as Returns, Close, Stuck}
use Rattle.dcc_prepare.specs.declared.program.Row.{Row}
use Rattle.dcc_prepare.specs.declared.program.Label.{Label}
use Rattle.dcc_value.specs.Places.{first_place}
use Rattle.dcc_prepare.specs.Lines.{next_line, IsLine}
use Rattle.dcc_value.specs.Resolved.{Names, Stands}

-- Names.

-- variables by what they are declared as, which are placed where there is an address for them
abbrev pub declared_with : List Variable → List (Option ℕ) → List Declared
declared_with (v ∷ variables) (place ∷ places) =
    record { name = v.name; type = v.type; is_array = is_some v.len; is_placed = is_some place }
    ∷ declared_with variables places
declared_with _ _ = []

-- the parameters and the local variables of a function
abbrev pub locals_declared : Function → List Declared
locals_declared f = declared_with f.params (params_of_call f 0) ++ declared_with f.locals (locals_of_call f 0)

-- what the expressions of a function may name
abbrev pub names_in : Tree → Function → Names
names_in tree f = record { locals = locals_declared f; globals = map declared_global tree.globals }

-- Points.

-- The text goes on from the point as the continuation does, and in no other line: the first list has the continuations
-- of all points.
pub record Goes (tree : Tree) (points : List Continuation) (at : ℕ) (rest : Continuation) : Type 0 where
  pub own : Continuation
  pub here : slice_get points at ≡ Some own
  pub alike : (s : State) → step_at tree own s ≡ step_at tree rest s
  pub in_line : (number : ℕ) → IsLine (next_line own) number → IsLine (next_line rest) number

-- where there is a continuation, the text goes on from the point as it does; and there is a point exactly where there
-- is one
abbrev pub MayGo : Tree → List Continuation → Option ℕ → Option Continuation → Type 0
MayGo tree points None None = Unit {0}
MayGo tree points (Some at) (Some rest) = Goes tree points at rest
MayGo tree points (Some at) None = ⊥
MayGo tree points None (Some rest) = ⊥

-- Labels.

-- the names of labels
abbrev pub label_words : List Label → List Word
label_words labels = map (λ l. string_bytes l.name) labels

-- the number of the label with the name
abbrev pub label_named : List Label → Word → Option ℕ
label_named labels word = first_place (label_words labels) word

-- the point of the label with this number
abbrev pub label_point : List Label → ℕ → Option ℕ
label_point labels number = elim (slice_get labels number) [ Some l ↦ l.point | None ↦ None ]

-- the point of the label with the name
abbrev pub point_named : List Label → Word → Option ℕ
point_named [] word = None
point_named (l ∷ labels) word = if same_bytes (string_bytes l.name) word then l.point else point_named labels word

-- Expressions that stand at a point.

abbrev pub StandsIf : Names → Option Expr → Option Resolved → Type 0
StandsIf names None None = Unit {0}
StandsIf names (Some e) (Some r) = Stands names e r
StandsIf names (Some e) None = ⊥
StandsIf names None (Some r) = ⊥

abbrev pub StandAll : Names → List Expr → List Resolved → Type 0
StandAll names [] [] = Unit {0}
StandAll names (e ∷ es) (r ∷ rs) = Stands names e r × StandAll names es rs
StandAll names (e ∷ es) [] = ⊥
StandAll names [] (r ∷ rs) = ⊥

-- What is executed at a point.

-- the point of the last case with the value, or else the other point
abbrev pub case_point : List Case → ℕ → ℕ → ℕ
case_point [] n otherwise = otherwise
case_point (c ∷ cases) n otherwise =
    case_point cases n (if list_any (λ v. v == n) c.values.items then c.point else otherwise)

abbrev pub dos_call : DosCall → Dos
dos_call calls_putc = Putc
dos_call calls_getche = Getche
dos_call calls_getch = Getch
dos_call calls_puts = Puts
dos_call calls_leave = Leave

-- what is called has the name
abbrev pub IsCallee : Tree → Word → Callee → Type 0
IsCallee tree word (CallsDos dos) = dos_of word ≡ Some (dos_call dos)
IsCallee tree word (CallsFunction number) =
    (f : Function) × (dos_of word ≡ None) × (function_in tree.functions word ≡ Some f)
    × (slice_get tree.functions number ≡ Some f)
IsCallee tree word CallsNothing = (dos_of word ≡ None) × (function_in tree.functions word ≡ None)

pub record IsPass (tree : Tree) (points : List Continuation) (rest : Continuation) (next : ℕ) : Type 0 where
  pub to : Continuation
  pub goes : Goes tree points next to
  pub does : (s : State) → step_at tree rest s ≡ goes_on to s

pub record IsAssign (tree : Tree) (f : Function) (points : List Continuation) (rest : Continuation) (line : ℕ)
    (place e : Resolved) (next : ℕ) : Type 0 where
  pub to : Continuation
  pub place_expr : Expr
  pub expr : Expr
  pub place_stands : Stands (names_in tree f) place_expr place
  pub stands : Stands (names_in tree f) expr e
  pub goes : Goes tree points next to
  pub does : (s : State) → step_at tree rest s ≡ stmt_step tree (Assign place_expr expr) line (goes_on to s)

pub record IsCall (tree : Tree) (f : Function) (points : List Continuation) (rest : Continuation) (line : ℕ)
    (row : CallRow) : Type 0 where
  pub to : Continuation
  pub place : Option Expr
  pub word : Word
  pub arguments : List Expr
  pub place_stands : StandsIf (names_in tree f) place row.place
  pub callee : IsCallee tree word row.callee
  pub stand : StandAll (names_in tree f) arguments row.arguments.items
  pub goes : Goes tree points row.next to
  pub does : (s : State) →
      step_at tree rest s ≡ stmt_step tree (Call place word arguments row.depth) line (goes_on to s)

pub record IsTest (tree : Tree) (f : Function) (points : List Continuation) (rest : Continuation) (line : ℕ)
    (e : Resolved) (first second : ℕ) : Type 0 where
  pub expr : Expr
  pub if_yes : Continuation
  pub if_no : Continuation
  pub following : State → Continuation
  pub stands : Stands (names_in tree f) expr e
  pub goes_yes : Goes tree points first if_yes
  pub goes_no : Goes tree points second if_no
  pub does : (s : State) → step_at tree rest s
      ≡ on (value_of (scope_of tree s) expr) line (goes_on (following s) s)
      (λ v. goes_on (if is_zero v then if_no else if_yes) s)

pub record IsSwitch (tree : Tree) (f : Function) (points : List Continuation) (rest : Continuation) (line : ℕ)
    (e : Resolved) (cases : List Case) (otherwise : ℕ) : Type 0 where
  pub expr : Expr
  pub to : ℕ → Continuation
  pub following : Continuation
  pub stands : Stands (names_in tree f) expr e
  pub goes : (n : ℕ) → Goes tree points (case_point cases n otherwise) (to n)
  pub does : (s : State) → step_at tree rest s
      ≡ on (value_of (scope_of tree s) expr) line (goes_on following s)
      (λ v. goes_on (to (converted (plain Uint) v).bits) s)

pub record IsGoto (tree : Tree) (labels : List Label) (rest : Continuation) (line number : ℕ) : Type 0 where
  pub word : Word
  pub following : Continuation
  pub label : label_named labels word ≡ Some number
  pub does : (s : State) → step_at tree rest s ≡ jump_step (after_goto s.frame.function word) line (goes_on following s)

pub record IsReturn (tree : Tree) (f : Function) (rest : Continuation) (line : ℕ) (e : Option Resolved) : Type 0 where
  pub expr : Option Expr
  pub following : Continuation
  pub stands : StandsIf (names_in tree f) expr e
  pub does : (s : State) → step_at tree rest s ≡ stmt_step tree (Return expr) line (goes_on following s)

pub record IsClose (tree : Tree) (rest : Continuation) (line : ℕ) : Type 0 where
  pub does : (s : State) → step_at tree rest s ≡ close_step line s

pub record IsStuck (tree : Tree) (rest : Continuation) (line : ℕ) : Type 0 where
  pub following : Continuation
  pub does : (s : State) → step_at tree rest s ≡ with_end (stuck line) (goes_on following s)

-- the action is the next step of the continuation, in this line
abbrev pub Acts : Tree → Function → List Continuation → List Label → Continuation → ℕ → Action → Type 0
Acts tree f points labels rest line (Pass next) = IsPass tree points rest next
Acts tree f points labels rest line (Assigns place e next) = IsAssign tree f points rest line place e next
Acts tree f points labels rest line (Calls row) = IsCall tree f points rest line row
Acts tree f points labels rest line (Test e first second) = IsTest tree f points rest line e first second
Acts tree f points labels rest line (Switch e cases otherwise) =
    IsSwitch tree f points rest line e cases.items otherwise
Acts tree f points labels rest line (Goto number) = IsGoto tree labels rest line number
Acts tree f points labels rest line (Returns e) = IsReturn tree f rest line e
Acts tree f points labels rest line Close = IsClose tree rest line
Acts tree f points labels rest line Stuck = IsStuck tree rest line

-- the action is the next step of the continuation, and the line is that of the step
pub record IsRow (tree : Tree) (f : Function) (points : List Continuation) (labels : List Label) (rest : Continuation)
    (line : ℕ) (action : Action) : Type 0 where
  pub in_line : IsLine (next_line rest) line
  pub acts : Acts tree f points labels rest line action

-- each point that is not open has its action, and its line
pub record AreRows (tree : Tree) (f : Function) (is_open : ℕ → Bool) (points : List Continuation)
    (rows : List Row) (labels : List Label) : Type 0 where
  pub same : length points ≡ length rows
  pub acts : (at : ℕ) (rest : Continuation) (row : Row) → slice_get points at ≡ Some rest →
      slice_get rows at ≡ Some row → is_open at ≡ false → IsRow tree f points labels rest row.line row.action
