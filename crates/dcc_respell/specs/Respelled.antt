-- A text that is another one with its expressions and its variables' types written otherwise, statement by statement.
use Rattle.std.specs.Prelude.{◌≡◌, ℕ, ◌<◌, ◌^◌, false, List, ◌++◌, map, Option, Some, None}
use Rattle.std.specs.List.{AllZip}
use Rattle.dcc_c.specs.declared.syntax.Base.TheVariants.{Uint}
use Rattle.dcc_c.specs.declared.syntax.CType.{CType}
use Rattle.dcc_c.specs.Types.{plain, size_of, bits_of, number_of_type}
use Rattle.dcc_c.specs.Tree.{Word, Expr, Stmt, Assign, Call, If, While, DoWhile, Forever, Switch, Break, Continue, Goto}
use Rattle.dcc_c.specs.Tree.{Label, Empty, Return, Lines, no_lines, line, Arms, no_arms, arm, Variable, Function, Tree}
use Rattle.dcc_c.specs.Typing.{Declared}
use Rattle.dcc_c.specs.Value.{Value, is_zero, converted, Outcome, Gives, Divides, Undefined, is_placed, Unplaced, Binding}
use Rattle.dcc_c.specs.Value.{variable_in, Scope, value_of, Target, ToVariable, ToMemory, target_of}
use Rattle.dcc_c.specs.Dos.{Signature}
use Rattle.dcc_c.specs.Placement.{takes_address}
use Rattle.dcc_c.specs.Rules.{signature_in}
use Rattle.dcc_c.specs.Run.{Frame, global_binding, arguments_of, result_target, first_memory}
use Rattle.dcc_progress.proofs.Frames.{own_declared, IsFrame}

-- Evaluations.

-- the evaluations give what the relation holds of, or a division faults in both
abbrev pub Both : {A : Type 0} → (A → A → Type 0) → Outcome A → Outcome A → Type 0
Both P (Gives a) (Gives b) = P a b
Both P (Gives a) Divides = ⊥
Both P (Gives a) Undefined = ⊥
Both P Divides (Gives b) = ⊥
Both P Divides Divides = Unit {0}
Both P Divides Undefined = ⊥
Both P Undefined o = ⊥

-- a value of the other type takes as many bytes
abbrev pub SameRoom : CType → CType → Type 0
SameRoom type other = size_of other ≡ size_of type

-- Values of the same bits in types of the same size; `AllBits`: each of some.
pub record SameBits (v w : Value) : Type 0 where
  pub bits : w.bits ≡ v.bits
  pub room : SameRoom v.type w.type

abbrev pub AllBits : List Value → List Value → Type 0
AllBits = AllZip SameBits

-- the variable is kept as the other one is, by the same name and in as much room
pub record BindingAlike (b c : Binding) : Type 0 where
  pub name : c.name ≡ b.name
  pub array : c.is_array ≡ b.is_array
  pub storage : c.storage ≡ b.storage
  pub room : SameRoom b.type c.type

-- the targets are one; what they take has the same size
abbrev pub TargetAlike : Target → Target → Type 0
TargetAlike (ToVariable word) (ToVariable other) = other ≡ word
TargetAlike (ToMemory type at) (ToMemory other there) = (there ≡ at) × SameRoom type other
TargetAlike (ToVariable word) (ToMemory other there) = ⊥
TargetAlike (ToMemory type at) (ToVariable other) = ⊥

abbrev pub IfTargetsAlike : Option Target → Option Target → Type 0
IfTargetsAlike None None = Unit {0}
IfTargetsAlike (Some target) (Some other) = TargetAlike target other
IfTargetsAlike None (Some other) = ⊥
IfTargetsAlike (Some target) None = ⊥

-- The target takes the same bits of both values: each is converted to the type of the variable, or of the number in
-- memory, on its side.
abbrev pub TakesAlike : List Binding → List Binding → Target → Target → Value → Value → Type 0
TakesAlike variables others (ToVariable word) target v w =
    (b c : Binding) → variable_in variables word ≡ Some b → variable_in others word ≡ Some c
    → (converted c.type w).bits ≡ (converted b.type v).bits
TakesAlike variables others (ToMemory type at) (ToMemory other there) v w =
    (converted other w).bits ≡ (converted type v).bits
TakesAlike variables others (ToMemory type at) (ToVariable word) v w = ⊥

-- Calls.

-- A variable that is declared without a place is kept by itself, and what is kept so has the bits of its type.
pub record IsKept (d : Declared) (b : Binding) : Type 0 where
  pub unplaced : d.is_placed ≡ false → is_placed b.storage ≡ false
  pub within : (bits : ℕ) → b.storage ≡ Unplaced bits → bits < 2 ^ bits_of (number_of_type b.type)

-- Calls of the two functions of the two texts whose variables hold the same.
pub record CallsAlike (tree after : Tree) (f g : Function) (frame other : Frame) : Type 0 where
  pub function : frame.function ≡ f
  pub other_function : other.function ≡ g
  pub is : IsFrame tree frame
  pub other_is : IsFrame after other
  pub kept : AllZip IsKept (own_declared f) frame.variables
  pub variables : AllZip BindingAlike frame.variables other.variables

abbrev pub scope_in : Tree → Frame → List ℕ → Scope
scope_in tree frame memory =
    record { variables = frame.variables ++ map global_binding tree.globals; memory = memory }

module _ (tree after : Tree) (f g : Function) where
  -- the relation holds in the scopes of all calls of the two functions whose variables hold the same
  abbrev pub InAllScopes : (Frame → Frame → Scope → Scope → Type 0) → Type 0
  InAllScopes P =
      (frame other : Frame) (memory : List ℕ) → CallsAlike tree after f g frame other
      → P frame other (scope_in tree frame memory) (scope_in after other memory)

  -- the expressions are numbers that are 0 alike
  abbrev pub TestAlike : Expr → Expr → Type 0
  TestAlike e h = InAllScopes (λ frame other scope there.
      Both (λ v w. is_zero w ≡ is_zero v) (value_of scope e) (value_of there h))

  -- the expressions have the same bits as values of the two types
  abbrev pub BecomesAlike : CType → CType → Expr → Expr → Type 0
  BecomesAlike type other e h = InAllScopes (λ frame with_other scope there.
      Both (λ v w. (converted other w).bits ≡ (converted type v).bits) (value_of scope e) (value_of there h))

  -- The places are one, and take the same bits of the expressions.
  pub record AssignAlike (place e other h : Expr) : Type 0 where
    pub places : InAllScopes (λ frame with_other scope there.
        Both TargetAlike (target_of scope place) (target_of there other))
    pub values : InAllScopes (λ frame with_other scope there.
        Both (λ v w. (target to : Target) → target_of scope place ≡ Gives target → target_of there other ≡ Gives to
        → TakesAlike frame.variables with_other.variables target to v w) (value_of scope e) (value_of there h))

  -- the places of results are one
  abbrev pub ResultAlike : Option Expr → Option Expr → Type 0
  ResultAlike place other = InAllScopes (λ frame with_other scope there.
      Both IfTargetsAlike (result_target scope place) (result_target there other))

  -- the arguments have the same bits as values of the parameters' types
  abbrev pub ArgumentsAlike : List CType → List CType → List Expr → List Expr → Type 0
  ArgumentsAlike types others es hs = InAllScopes (λ frame other scope there.
      Both AllBits (arguments_of scope types es) (arguments_of there others hs))

  -- Statements: each stands for one of its kind, with the same names and the same numbers, whatever their lines are.
  mutual
    pub data StmtAlike : Stmt → Stmt → Type 0 where
      assigns : {place e other h : Expr} → AssignAlike place e other h → StmtAlike (Assign place e) (Assign other h)
      calls : {place other : Option Expr} {function : Word} {arguments hs : List Expr} {depth : ℕ} →
          ResultAlike place other →
          ((known there : Signature) → signature_in tree function ≡ Some known → signature_in after function ≡ Some there
          → ArgumentsAlike known.params there.params arguments hs) →
          StmtAlike (Call place function arguments depth) (Call other function hs depth)
      tests : {e h : Expr} {body otherwise lines others : Lines} →
          TestAlike e h → LinesAlike body lines → LinesAlike otherwise others →
          StmtAlike (If e body otherwise) (If h lines others)
      repeats : {e h : Expr} {body lines : Lines} →
          TestAlike e h → LinesAlike body lines → StmtAlike (While e body) (While h lines)
      tests_after : {e h : Expr} {body lines : Lines} →
          TestAlike e h → LinesAlike body lines → StmtAlike (DoWhile body e) (DoWhile lines h)
      turns_round : {body lines : Lines} → LinesAlike body lines → StmtAlike (Forever body) (Forever lines)
      chooses : {e h : Expr} {arms last others final : Arms} →
          BecomesAlike (plain Uint) (plain Uint) e h → ArmsAlike arms others → ArmsAlike last final →
          StmtAlike (Switch e arms last) (Switch h others final)
      breaks : StmtAlike Break Break
      continues : StmtAlike Continue Continue
      jumps : {word : Word} → StmtAlike (Goto word) (Goto word)
      is_label : {word : Word} → StmtAlike (Label word) (Label word)
      is_empty : StmtAlike Empty Empty
      returns : StmtAlike (Return None) (Return None)
      gives : {e h : Expr} →
          ((type : CType) → f.result ≡ Some type → BecomesAlike type type e h) →
          StmtAlike (Return (Some e)) (Return (Some h))

    pub data LinesAlike : Lines → Lines → Type 0 where
      no_more : LinesAlike no_lines no_lines
      one_more : {stmt other : Stmt} {at there : ℕ} {lines others : Lines} →
          StmtAlike stmt other → LinesAlike lines others → LinesAlike (line stmt at lines) (line other there others)

    pub data ArmsAlike : Arms → Arms → Type 0 where
      no_arm : ArmsAlike no_arms no_arms
      one_arm : {cases : List ℕ} {body lines : Lines} {arms others : Arms} →
          LinesAlike body lines → ArmsAlike arms others → ArmsAlike (arm cases body arms) (arm cases lines others)

-- Texts.

-- the variable is declared as the other one, in as much room
pub record VariableAlike (v w : Variable) : Type 0 where
  pub name : w.name ≡ v.name
  pub len : w.len ≡ v.len
  pub class : w.class ≡ v.class
  pub room : SameRoom v.type w.type

-- The function has the name, the result and the variables of the other one, takes the addresses of the same names, and
-- its statements stand for the other one's.
pub record FunctionAlike (tree after : Tree) (f g : Function) : Type 0 where
  pub name : g.name ≡ f.name
  pub result : g.result ≡ f.result
  pub params : AllZip VariableAlike f.params g.params
  pub locals : AllZip VariableAlike f.locals g.locals
  pub addresses : (word : Word) → takes_address g.body word ≡ takes_address f.body word
  pub body : LinesAlike tree after f g f.body g.body

-- The second text is the first one with expressions and types written otherwise. Its global variables may be others, by
-- which expressions name what lies where they lie: they leave the same first memory, from every fill.
pub record IsRespelled (tree after : Tree) : Type 0 where
  pub hi : after.hi ≡ tree.hi
  pub memory : (fill : ℕ) → first_memory after fill ≡ first_memory tree fill
  pub functions : AllZip (FunctionAlike tree after) tree.functions after.functions
