-- What offends in expressions and statements beside the grammar, and where it stands, as far as they have been read.
use Rattle.std.specs.Prelude.{ℕ, suc, nat_lt, ◌==◌, Bool, true, false, ◌&&◌, ◌||◌, not, if◌then◌else◌, List, [], ◌∷◌}
use Rattle.std.specs.Prelude.{◌++◌, length, Option, Some, None, is_some, is_none, option_and_then}
use Rattle.std.specs.List.{list_any}
use Rattle.dcc_c.specs.declared.syntax.CType.{CType}
use Rattle.dcc_c.specs.declared.syntax.CUn.{CUn}
use Rattle.dcc_c.specs.declared.syntax.CUn.TheVariants.{Deref, AddressOf}
use Rattle.dcc_c.specs.declared.syntax.CBin.{CBin}
use Rattle.dcc_c.specs.Types.{promoted_type, plain}
use Rattle.dcc_c.specs.Tree.{Word}
use Rattle.dcc_c.specs.Typing.{Declared, declared_as, type_of_name, type_of_address, unary_type, is_comparison, is_sum}
use Rattle.dcc_c.specs.Typing.{both_types, both_arms_type, type_of_variable}
use Rattle.dcc_c.specs.Grammar.{is_among}
use Rattle.dcc_c.specs.Rules.{converts, is_word_base}
use Rattle.dcc_c.specs.Dos.{Signature}
use Rattle.dcc_c.specs.Kinds.{of_name, of_type, of_depth, Offence, offence, only_if}
use Rattle.dcc_c.specs.Partial.{WordAt, NumberAt, PartialExpr, Missing, NumberHere, NameHere, UnaryHere, BinaryOf}
use Rattle.dcc_c.specs.Partial.{ConditionalOf, CastHere, place_of, is_missing, is_name_here, PartialCall, PartialStmt}
use Rattle.dcc_c.specs.Partial.{AssignOf, CallOf, IfOf, WhileOf, DoWhileOf, ForeverOf, SwitchOf, BreakOf, ContinueOf}
use Rattle.dcc_c.specs.Partial.{GotoOf, LabelOf, EmptyOf, ReturnOf, PartialLines, no_rows, row, PartialArms, no_cases}
use Rattle.dcc_c.specs.Partial.{cases}
use Rattle.dcc_c.specs.Known.{Known, known_as}

-- What is known in a function's body: the variables, the functions, the labels, and the type of the result.
pub record BodyContext : Type 0 where
  pub names : List Declared
  pub functions : List Known
  pub labels : List Word
  pub has_result : Bool
  pub result : Option CType

-- Types.

-- the operand of `&`, where it is the name of a variable
abbrev pub operand_of_address : List Declared → PartialExpr → Option Declared
operand_of_address names (NameHere at word called) = declared_as names word
operand_of_address names e = None

-- The type of an expression as far as it can be told: a cast has its type, whatever it is applied to.
abbrev pub told_type : List Declared → PartialExpr → Option CType
told_type names Missing = None
told_type names (NumberHere at n base) = Some (plain base)
told_type names (NameHere at word called) = option_and_then type_of_name (declared_as names word)
told_type names (UnaryHere at AddressOf a) = option_and_then type_of_address (operand_of_address names a)
told_type names (UnaryHere at operator a) = option_and_then (unary_type operator) (told_type names a)
told_type names (BinaryOf operator a b) = both_types operator (told_type names a) (told_type names b)
told_type names (ConditionalOf a b c) = both_arms_type (told_type names b) (told_type names c)
told_type names (CastHere at type a) = Some type

abbrev pub is_pointer : Option CType → Bool
is_pointer (Some type) = type.pointer
is_pointer None = false

-- the type of a place: that of a variable, or what a pointer points to
abbrev pub told_place : List Declared → PartialExpr → Option CType
told_place names (NameHere at word called) = option_and_then type_of_variable (declared_as names word)
told_place names e = told_type names e

-- Names.

-- A name that is no variable: a function's offends as an operand, but not before a parenthesis.
abbrev pub no_variable : BodyContext → ℕ → Word → Bool → List Offence
no_variable scene at word called =
    if is_some (known_as scene.functions word) then only_if (not called) (offence of_type at)
    else offence of_name at ∷ []

-- a name as a value: that of an array of pointers has no type
abbrev pub value_offences : BodyContext → ℕ → Word → Bool → List Offence
value_offences scene at word called = elim (declared_as scene.names word) [
  | Some d ↦ only_if (is_none (type_of_name d)) (offence of_type at)
  | None ↦ no_variable scene at word called
]

-- Expressions.

-- A number is wanted: an operand that is known to be none offends.
abbrev pub wants_number : BodyContext → PartialExpr → List Offence
wants_number scene e = only_if (is_pointer (told_type scene.names e)) (offence of_type (place_of e))

-- a pointer is wanted: an operand that is known to be none offends
abbrev pub wants_pointer : BodyContext → PartialExpr → List Offence
wants_pointer scene e = elim (told_type scene.names e) [
  | Some type ↦ only_if (not type.pointer) (offence of_type (place_of e))
  | None ↦ []
]

-- the operand of a unary operator but `&`
abbrev pub unary_offences : BodyContext → CUn → PartialExpr → List Offence
unary_offences scene Deref a = wants_pointer scene a
unary_offences scene operator a = wants_number scene a

-- both operands have types, and the operator none: the second one offends
abbrev pub second_offends : BodyContext → CBin → PartialExpr → PartialExpr → List Offence
second_offends scene operator a b =
    let first = told_type scene.names a in
    let second = told_type scene.names b in
    only_if ((is_some first && is_some second) && is_none (both_types operator first second))
    (offence of_type (place_of b))

-- The operands of a binary operator: of a comparison, a sum and a difference the second one does not fit the first, of
-- any other each is a number.
abbrev pub binary_offences : BodyContext → CBin → PartialExpr → PartialExpr → List Offence
binary_offences scene operator a b =
    if is_comparison operator || is_sum operator then second_offends scene operator a b
    else wants_number scene a ++ wants_number scene b

-- the last two operands of `?:` have types that do not go together
abbrev pub arms_offences : BodyContext → PartialExpr → PartialExpr → List Offence
arms_offences scene b c =
    let first = told_type scene.names b in
    let second = told_type scene.names c in
    only_if ((is_some first && is_some second) && is_none (both_arms_type first second)) (offence of_type (place_of c))

-- The operand of `&`, with what offends in it: a variable that has an address, and is no array and no pointer.
abbrev pub address_offences : BodyContext → PartialExpr → List Offence → List Offence
address_offences scene a inner = elim (operand_of_address scene.names a) [
  | Some d ↦ only_if (is_none (type_of_address d)) (offence of_type (place_of a))
  | None ↦ inner ++ only_if (is_some (told_type scene.names a)) (offence of_type (place_of a))
]

abbrev pub expr_offences : BodyContext → PartialExpr → List Offence
expr_offences scene Missing = []
expr_offences scene (NumberHere at n base) = []
expr_offences scene (NameHere at word called) = value_offences scene at word called
expr_offences scene (UnaryHere at AddressOf a) = address_offences scene a (expr_offences scene a)
expr_offences scene (UnaryHere at operator a) = expr_offences scene a ++ unary_offences scene operator a
expr_offences scene (BinaryOf operator a b) =
    expr_offences scene a ++ (expr_offences scene b ++ binary_offences scene operator a b)
expr_offences scene (ConditionalOf a b c) =
    expr_offences scene a
    ++ (expr_offences scene b ++ (expr_offences scene c ++ (wants_number scene a ++ arms_offences scene b c)))
expr_offences scene (CastHere at type a) = expr_offences scene a

-- Assignments.

-- the place of an assignment: an array's name is none
abbrev pub place_offences : BodyContext → PartialExpr → List Offence
place_offences scene (NameHere at word called) = elim (declared_as scene.names word) [
  | Some d ↦ only_if d.is_array (offence of_type at)
  | None ↦ no_variable scene at word called
]
place_offences scene e = expr_offences scene e

-- A value of the first type goes where one of the second is wanted: it offends at the place where it may not become
-- one.
abbrev pub conversion : Option CType → Option CType → ℕ → List Offence
conversion (Some from) (Some to) at = only_if (not (converts from to)) (offence of_type at)
conversion from to at = []

-- the value goes where one of the type is wanted, if it has been read to its end
abbrev pub becomes : BodyContext → PartialExpr → Bool → Option CType → List Offence
becomes scene e done to = if done then conversion (told_type scene.names e) to (place_of e) else []

-- the value of an assignment: a name alone that is not read to its end may be called
abbrev pub assigned_offences : BodyContext → PartialExpr → Option PartialExpr → Bool → List Offence
assigned_offences scene place None done = if is_name_here place then [] else place_offences scene place
assigned_offences scene place (Some e) done =
    place_offences scene place
    ++ (if is_name_here e && not done then []
    else expr_offences scene e ++ becomes scene e done (told_place scene.names place))

-- Calls.

abbrev pub arguments_inner : BodyContext → List PartialExpr → List Offence
arguments_inner scene [] = []
arguments_inner scene (e ∷ es) = expr_offences scene e ++ arguments_inner scene es

-- The arguments become values of the parameters' types. The last one has been read to its end where the closing
-- parenthesis has.
abbrev pub arguments_become : BodyContext → Bool → List CType → List PartialExpr → List Offence
arguments_become scene closed (type ∷ types) (e ∷ []) = becomes scene e closed (Some type)
arguments_become scene closed (type ∷ types) (e ∷ f ∷ es) =
    becomes scene e true (Some type) ++ arguments_become scene closed types (f ∷ es)
arguments_become scene closed types es = []

-- how many arguments have been read, at least in part
abbrev pub count_read : List PartialExpr → ℕ
count_read [] = 0
count_read (e ∷ es) = if is_missing e then count_read es else suc (count_read es)

-- a call has more arguments than the function parameters, or fewer up to the closing parenthesis
abbrev pub count_offends : PartialCall → List CType → Bool
count_offends call params =
    nat_lt (length params) (count_read call.arguments)
    || (call.closed && nat_lt (count_read call.arguments) (length params))

-- what offends where the result of a call goes to a place
abbrev pub result_offences : BodyContext → ℕ → Option PartialExpr → WordAt → Option CType → List Offence
result_offences scene at None function result = []
result_offences scene at (Some place) function None = offence of_type at ∷ []
result_offences scene at (Some place) function (Some from) =
    conversion (Some from) (told_place scene.names place) function.at

-- a call of a known function, which begins at a place
abbrev pub signature_offences : BodyContext → ℕ → Option PartialExpr → PartialCall → Option Signature → List Offence
signature_offences scene at place call None = []
signature_offences scene at place call (Some of) =
    result_offences scene at place call.function of.result
    ++ (only_if (count_offends call of.params) (offence of_type at)
    ++ arguments_become scene call.closed of.params call.arguments)

-- the function that is called: no variable, and known
abbrev pub callee_offences : BodyContext → ℕ → Option PartialExpr → PartialCall → List Offence
callee_offences scene at place call =
    if is_some (declared_as scene.names call.function.word) then offence of_type call.function.at ∷ []
    else elim (known_as scene.functions call.function.word) [
      | Some k ↦ signature_offences scene at place call k.signature
      | None ↦ offence of_name call.function.at ∷ []
    ]

abbrev pub place_if : BodyContext → Option PartialExpr → List Offence
place_if scene (Some place) = place_offences scene place
place_if scene None = []

abbrev pub call_offences : BodyContext → ℕ → Option PartialExpr → PartialCall → List Offence
call_offences scene at place call =
    place_if scene place ++ (arguments_inner scene call.arguments ++ callee_offences scene at place call)

-- Other statements.

-- what offends in a test, whether read to its parenthesis or not
abbrev pub test_offences : BodyContext → PartialExpr → Bool → List Offence
test_offences scene e done = expr_offences scene e ++ (if done then wants_number scene e else [])

-- the value of a `switch` is an int or an unsigned int after promotion
abbrev pub is_switch_type : CType → Bool
is_switch_type type = not type.pointer && is_word_base (promoted_type type.base)

abbrev pub switch_offences : BodyContext → PartialExpr → Bool → List Offence
switch_offences scene e done = expr_offences scene e ++ (elim (told_type scene.names e) [
  | Some type ↦ only_if (done && not (is_switch_type type)) (offence of_type (place_of e))
  | None ↦ []
])

-- a `return`: a value stands where the function has a result, and there alone
abbrev pub return_offences : BodyContext → ℕ → Option PartialExpr → Bool → List Offence
return_offences scene at None done = only_if (done && scene.has_result) (offence of_type at)
return_offences scene at (Some e) done =
    expr_offences scene e
    ++ (if scene.has_result then becomes scene e done scene.result
    else only_if (not (is_missing e)) (offence of_type at))

-- a `goto` names a label of the function
abbrev pub goto_offences : BodyContext → Option WordAt → List Offence
goto_offences scene (Some name) = only_if (not (is_among scene.labels name.word)) (offence of_name name.at)
goto_offences scene None = []

-- the statement's own parts, without the statements inside it
abbrev pub own_offences : BodyContext → ℕ → PartialStmt → List Offence
own_offences scene at (AssignOf place e done) = assigned_offences scene place e done
own_offences scene at (CallOf place call) = call_offences scene at place call
own_offences scene at (IfOf e done body otherwise) = test_offences scene e done
own_offences scene at (WhileOf e done body) = test_offences scene e done
own_offences scene at (DoWhileOf body e done) = test_offences scene e done
own_offences scene at (ForeverOf body) = []
own_offences scene at (SwitchOf e done arms) = switch_offences scene e done
own_offences scene at BreakOf = []
own_offences scene at ContinueOf = []
own_offences scene at (GotoOf name) = goto_offences scene name
own_offences scene at (LabelOf name) = []
own_offences scene at EmptyOf = []
own_offences scene at (ReturnOf e done) = return_offences scene at e done

-- Cases.

-- the numbers of cases that stand among earlier ones, or twice
abbrev pub case_offences : List ℕ → List NumberAt → List Offence
case_offences known [] = []
case_offences known (n ∷ numbers) =
    only_if (list_any (λ m. m == n.value) known) (offence of_name n.at) ++ case_offences (n.value ∷ known) numbers

abbrev pub case_numbers : PartialArms → List NumberAt
case_numbers no_cases = []
case_numbers (cases numbers default body arms) = numbers ++ case_numbers arms

-- a second `default`
abbrev pub default_offences : Bool → PartialArms → List Offence
default_offences known no_cases = []
default_offences known (cases numbers None body arms) = default_offences known arms
default_offences known (cases numbers (Some at) body arms) =
    only_if known (offence of_name at) ++ default_offences true arms

abbrev mutual
  -- what offends in statements, at every depth, with a number of blocks around them
  pub lines_offences : BodyContext → ℕ → PartialLines → List Offence
  lines_offences scene blocks no_rows = []
  lines_offences scene blocks (row stmt at line rows) =
      only_if (nat_lt 200 blocks) (offence of_depth at)
      ++ (own_offences scene at stmt ++ (inner_offences scene (suc blocks) stmt ++ lines_offences scene blocks rows))

  -- what offends in the statements inside a statement, with a number of blocks around them, and in its arms
  pub inner_offences : BodyContext → ℕ → PartialStmt → List Offence
  inner_offences scene blocks (IfOf e done body otherwise) =
      lines_offences scene blocks body ++ lines_offences scene blocks otherwise
  inner_offences scene blocks (WhileOf e done body) = lines_offences scene blocks body
  inner_offences scene blocks (DoWhileOf body e done) = lines_offences scene blocks body
  inner_offences scene blocks (ForeverOf body) = lines_offences scene blocks body
  inner_offences scene blocks (SwitchOf e done arms) =
      case_offences [] (case_numbers arms) ++ (default_offences false arms ++ arms_inner scene blocks arms)
  inner_offences scene blocks stmt = []

  pub arms_inner : BodyContext → ℕ → PartialArms → List Offence
  arms_inner scene blocks no_cases = []
  arms_inner scene blocks (cases numbers default body arms) =
      lines_offences scene blocks body ++ arms_inner scene blocks arms

-- Labels.

abbrev mutual
  -- the labels of statements, at every depth, in the order of the text
  pub label_list : PartialLines → List WordAt
  label_list no_rows = []
  label_list (row stmt at line rows) = labels_of stmt ++ label_list rows

  pub labels_of : PartialStmt → List WordAt
  labels_of (LabelOf name) = name ∷ []
  labels_of (IfOf e done body otherwise) = label_list body ++ label_list otherwise
  labels_of (WhileOf e done body) = label_list body
  labels_of (DoWhileOf body e done) = label_list body
  labels_of (ForeverOf body) = label_list body
  labels_of (SwitchOf e done arms) = labels_in_arms arms
  labels_of stmt = []

  pub labels_in_arms : PartialArms → List WordAt
  labels_in_arms no_cases = []
  labels_in_arms (cases numbers default body arms) = label_list body ++ labels_in_arms arms

-- the labels whose names are known already, or stand twice
abbrev pub repeated : List Word → List WordAt → List Offence
repeated known [] = []
repeated known (n ∷ names) = only_if (is_among known n.word) (offence of_name n.at) ++ repeated (n.word ∷ known) names

-- what offends in the statements of a function: each label stands once, and the rest
abbrev pub body_offences : BodyContext → PartialLines → List Offence
body_offences scene body = repeated [] (label_list body) ++ lines_offences scene 0 body
