-- How the points of a function grow while its statements are gone through.
use Rattle.std.specs.Prelude.{◌≡◌, ℕ, Bool, List, map, Option, Some, None, Result, IfOk, slice_get}
use Rattle.dcc_c.specs.Tree.{Word, Stmt, Lines, line, Arms, Function, Tree}
use Rattle.dcc_c.specs.Run.{Continuation, runs, arm_for, after_break, after_continue, from_label_inside}
use Rattle.dcc_prepare.specs.declared.program.Label.{Label}
use Rattle.dcc_prepare.specs.declared.program.Case.{Case}
use Rattle.dcc_prepare.specs.declared.code.Code.{Code}
use Rattle.dcc_prepare.specs.declared.code.Context.{Context}
use Rattle.dcc_prepare.specs.declared.emit.Following.{Following}
use Rattle.dcc_value.specs.Places.{AreFirst}
use Rattle.dcc_value.specs.Resolved.{names_of}
use Rattle.dcc_prepare.specs.Points.{names_in, Goes, MayGo, label_named, point_named, case_point, AreRows}

-- the points of the first list stay
abbrev pub Stay : List Continuation → List Continuation → Type 0
Stay before now = (at : ℕ) (rest : Continuation) → slice_get before at ≡ Some rest → slice_get now at ≡ Some rest

-- the labels of the first list keep their numbers
abbrev pub KeepNumbers : List Label → List Label → Type 0
KeepNumbers before now =
    (word : Word) (number : ℕ) → label_named before word ≡ Some number → label_named now word ≡ Some number

-- the label with the name stands where the text goes on from it as the continuation tells, or as before where there is
-- none
abbrev pub Relabels : Tree → List Continuation → List Label → List Label → Word → Option Continuation → Type 0
Relabels tree points before now word (Some rest) =
    (at : ℕ) × (point_named now word ≡ Some at) × Goes tree points at rest
Relabels tree points before now word None = point_named now word ≡ point_named before word

-- the points and the labels of the code have grown, and these labels are found
pub record Grows (tree : Tree) (f : Function) (is_open : ℕ → Bool) (points : List Continuation) (before now : Code)
    (found : Word → Option Continuation) : Type 0 where
  pub grown : List Continuation
  pub stay : Stay points grown
  pub rows : AreRows tree f is_open grown now.rows.items now.labels.items
  pub numbers : KeepNumbers before.labels.items now.labels.items
  pub labels : (word : Word) → Relabels tree grown before.labels.items now.labels.items word (found word)

-- the points and the labels of the code have grown, and from the point the text goes on as the continuation does
pub record Emits (tree : Tree) (f : Function) (is_open : ℕ → Bool) (points : List Continuation) (before now : Code)
    (found : Word → Option Continuation) (at : ℕ) (rest : Continuation) : Type 0 where
  pub grows : Grows tree f is_open points before now found
  pub goes : Goes tree grows.grown at rest

-- the points and the labels of the code have grown, and from the points of the cases the bodies of the arms begin
pub record EmitsArms (tree : Tree) (f : Function) (is_open : ℕ → Bool) (points : List Continuation) (before now : Code)
    (found : Word → Option Continuation) (cases : List Case) (arms : Arms) (rest : Continuation) : Type 0 where
  pub grows : Grows tree f is_open points before now found
  pub goes : (later : List Continuation) (n at : ℕ) (otherwise : Lines) → Stay grows.grown later →
      Goes tree later at (runs otherwise rest) →
      Goes tree later (case_point cases n at) (runs (arm_for n arms otherwise) rest)

-- the points after a statement lead where the continuation does
pub record Leads (tree : Tree) (points : List Continuation) (following : Following) (rest : Continuation) : Type 0 where
  pub next : Goes tree points following.next rest
  pub on_break : MayGo tree points following.on_break (after_break rest)
  pub on_continue : MayGo tree points following.on_continue (after_continue rest)

-- the names of functions
abbrev pub function_names : Tree → List Word
function_names tree = map (λ (f : Function). f.name) tree.functions

-- the names that statements are read with are those of the text and the function
pub record IsContext (context : Context) (tree : Tree) (f : Function) : Type 0 where
  pub names : names_of context.names.now ≡ names_in tree f
  pub functions : AreFirst context.functions.now (function_names tree)

-- In each function of a text that has the context, and whose points so far are those of the code, the text goes on
-- from the point of the answer as told, with these labels found, where the points after lead as they have to.
abbrev pub EmitsIn : {E : Type 0} → Context → Code → Code → Result ℕ E → (Tree → List Continuation → Type 0)
    → (Word → Option Continuation) → Continuation → Type 0
EmitsIn context before now result Leading found rest =
    (tree : Tree) (f : Function) (is_open : ℕ → Bool) (points : List Continuation) →
    IsContext context tree f → AreRows tree f is_open points before.rows.items before.labels.items →
    Leading tree points → IfOk result (λ at. Emits tree f is_open points before now found at rest)

-- what is emitted before given points, which lead where the other continuation does
abbrev pub EmitsBefore : {E : Type 0} → Context → Code → Code → Result ℕ E → Following → Continuation
    → (Word → Option Continuation) → Continuation → Type 0
EmitsBefore context before now result following after found rest =
    EmitsIn context before now result (λ tree points. Leads tree points following after) found rest

-- what is emitted for a statement in its line, before others that begin at the point
abbrev pub EmitsStmt : {E : Type 0} → Context → Code → Code → Result ℕ E → ℕ → Stmt → ℕ → Type 0
EmitsStmt context before now result next stmt at =
    (lines : Lines) (rest : Continuation) →
    EmitsIn context before now result (λ tree points. Goes tree points next (runs lines rest))
    (λ word. from_label_inside word stmt at lines rest) (runs (line stmt at lines) rest)

-- what is emitted for a statement with no names of variables, where the points after it are these
abbrev pub EmitsAlone : {E : Type 0} → Code → Code → Result ℕ E → (Tree → List Continuation → Continuation → Type 0)
    → Stmt → ℕ → Type 0
EmitsAlone before now result Leading stmt at =
    (tree : Tree) (f : Function) (is_open : ℕ → Bool) (points : List Continuation)
    (lines : Lines) (rest : Continuation) →
    AreRows tree f is_open points before.rows.items before.labels.items → Leading tree points (runs lines rest) →
    IfOk result (λ point. Emits tree f is_open points before now
    (λ word. from_label_inside word stmt at lines rest) point (runs (line stmt at lines) rest))
