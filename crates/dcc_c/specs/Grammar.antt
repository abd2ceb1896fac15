-- The grammar, by cases on the tokens (after ISO/IEC 9899:1990, 6.3, 6.5, 6.6 and 6.7). Each relation says that the
-- first tokens of a list stand for a part of a tree, and what tokens are left after them.
use Rattle.std.specs.Prelude.{◌≡◌, ◌≤◌, ℕ, suc, Bool, true, false, ◌&&◌, ◌||◌, not, if◌then◌else◌, List, [], ◌∷◌, ◌++◌}
use Rattle.std.specs.Prelude.{map, codes, Option, Some, None}
use Rattle.std.specs.List.{list_any}
use Rattle.dcc_c.specs.declared.syntax.Base.{Base}
use Rattle.dcc_c.specs.declared.syntax.Base.TheVariants.{Schar, Uchar, Int, Uint, Long, Ulong}
use Rattle.dcc_c.specs.declared.syntax.CType.{CType}
use Rattle.dcc_c.specs.declared.syntax.CUn.{CUn}
use Rattle.dcc_c.specs.declared.syntax.CUn.TheVariants.{Minus, Complement, Not, Deref, AddressOf}
use Rattle.dcc_c.specs.declared.syntax.CBin.{CBin}
use Rattle.dcc_c.specs.declared.syntax.CBin.TheVariants.{OrOr, AndAnd, Or, Xor, And, Eq, Ne, Lt, Le, Gt, Ge, Shl, Shr}
use Rattle.dcc_c.specs.declared.syntax.CBin.TheVariants.{Add, Sub, Mul, Div, Rem}
use Rattle.dcc_c.specs.declared.syntax.Class.{Class}
use Rattle.dcc_c.specs.declared.syntax.Class.TheVariants.{Plain, Auto, Register}
use Rattle.dcc_c.specs.Token.{Token, WordToken, Decimal, Hex, Mark, Pragma, Suffix, plain_number, unsigned_suffix}
use Rattle.dcc_c.specs.Token.{version_line, stack_line, place_line, depth_line, decimal_type, hex_type, is_word}
use Rattle.dcc_c.specs.Token.{same_bytes}
use Rattle.dcc_c.specs.Lexing.{Placed, placed}
use Rattle.dcc_c.specs.Tree.{Word, Expr, Number, Name, Unary, Binary, Conditional, Cast, Stmt, Assign, Call, If, While}
use Rattle.dcc_c.specs.Tree.{DoWhile, Forever, Switch, Break, Continue, Goto, Label, Empty, Return, Lines, no_lines}
use Rattle.dcc_c.specs.Tree.{line, Arms, no_arms, arm, Global, Variable, Function, Tree}
use Rattle.dcc_c.specs.Placement.{after_global}

-- a word and a mark in a line
abbrev pub word : ℕ → Word → Placed
word at bytes = placed at (WordToken bytes)

abbrev pub mark : ℕ → Word → Placed
mark at bytes = placed at (Mark bytes)

-- the keywords of ISO C90, none of which is a name
abbrev pub keywords : List Word
keywords =
    codes "auto" ∷ codes "break" ∷ codes "case" ∷ codes "char" ∷ codes "const" ∷ codes "continue" ∷ codes "default"
    ∷ codes "do" ∷ codes "double" ∷ codes "else" ∷ codes "enum" ∷ codes "extern" ∷ codes "float" ∷ codes "for"
    ∷ codes "goto" ∷ codes "if" ∷ codes "int" ∷ codes "long" ∷ codes "register" ∷ codes "return" ∷ codes "short"
    ∷ codes "signed" ∷ codes "sizeof" ∷ codes "static" ∷ codes "struct" ∷ codes "switch" ∷ codes "typedef"
    ∷ codes "union" ∷ codes "unsigned" ∷ codes "void" ∷ codes "volatile" ∷ codes "while" ∷ []

-- the name is in the list
abbrev pub is_among : List Word → Word → Bool
is_among words word = list_any (same_bytes word) words

-- a name: a word that is no keyword
abbrev pub is_name : Word → Bool
is_name word = is_word word && not (is_among keywords word)

-- the mark of a unary operator
abbrev pub unary_mark : CUn → Word
unary_mark Minus = codes "-"
unary_mark Complement = codes "~"
unary_mark Not = codes "!"
unary_mark Deref = codes "*"
unary_mark AddressOf = codes "&"

-- the mark of a binary operator
abbrev pub binary_mark : CBin → Word
binary_mark OrOr = codes "||"
binary_mark AndAnd = codes "&&"
binary_mark Or = codes "|"
binary_mark Xor = codes "^"
binary_mark And = codes "&"
binary_mark Eq = codes "=="
binary_mark Ne = codes "!="
binary_mark Lt = codes "<"
binary_mark Le = codes "<="
binary_mark Gt = codes ">"
binary_mark Ge = codes ">="
binary_mark Shl = codes "<<"
binary_mark Shr = codes ">>"
binary_mark Add = codes "+"
binary_mark Sub = codes "-"
binary_mark Mul = codes "*"
binary_mark Div = codes "/"
binary_mark Rem = codes "%"

-- the strength of a binary operator, from 1; a conditional has 0, and a unary part 11
abbrev pub strength : CBin → ℕ
strength OrOr = 1
strength AndAnd = 2
strength Or = 3
strength Xor = 4
strength And = 5
strength Eq = 6
strength Ne = 6
strength Lt = 7
strength Le = 7
strength Gt = 7
strength Ge = 7
strength Shl = 8
strength Shr = 8
strength Add = 9
strength Sub = 9
strength Mul = 10
strength Div = 10
strength Rem = 10

-- the words of a number type
abbrev pub base_words : Base → List Word
base_words Schar = codes "signed" ∷ codes "char" ∷ []
base_words Uchar = codes "unsigned" ∷ codes "char" ∷ []
base_words Int = codes "int" ∷ []
base_words Uint = codes "unsigned" ∷ codes "int" ∷ []
base_words Long = codes "long" ∷ []
base_words Ulong = codes "unsigned" ∷ codes "long" ∷ []

-- the tokens of a type
abbrev pub type_tokens : CType → List Token
type_tokens type = map WordToken (base_words type.base) ++
    (if type.pointer then Mark (codes "*") ∷ [] else [])

-- the placed tokens begin with the tokens of the list, in whatever lines they stand
pub data Begins : List Placed → List Token → List Placed → Type 0 where
  none : {rest : List Placed} → Begins rest [] rest
  one : {at : ℕ} {token : Token} {tokens : List Token} {all rest : List Placed} →
      Begins all tokens rest → Begins (placed at token ∷ all) (token ∷ tokens) rest

-- Expressions.

-- A number with the type that its spelling gives it.
pub data IsNumber : Token → ℕ → Base → Type 0 where
  decimal : (n : ℕ) (suffix : Suffix) → IsNumber (Decimal n suffix) n (decimal_type n suffix)
  hex : (n : ℕ) (suffix : Suffix) → IsNumber (Hex n suffix) n (hex_type n suffix)

-- The tokens begin with the expression, read at the strength or a greater one. Binary operators group to the left.
pub data IsExpr : ℕ → List Placed → Expr → List Placed → Type 0 where
  number : {at n : ℕ} {token : Token} {base : Base} {rest : List Placed} →
      IsNumber token n base → IsExpr 11 (placed at token ∷ rest) (Number n base) rest
  name : {at : ℕ} {rest : List Placed} (bytes : Word) →
      is_name bytes ≡ true → IsExpr 11 (word at bytes ∷ rest) (Name bytes) rest
  parentheses : {opening closing : ℕ} {tokens rest : List Placed} {e : Expr} →
      IsExpr 0 tokens e (mark closing (codes ")") ∷ rest) →
      IsExpr 11 (mark opening (codes "(") ∷ tokens) e rest
  unary : {at : ℕ} {tokens rest : List Placed} {e : Expr} (operator : CUn) →
      IsExpr 11 tokens e rest →
      IsExpr 11 (mark at (unary_mark operator) ∷ tokens) (Unary operator e) rest
  cast : {opening closing : ℕ} {all tokens rest : List Placed} {e : Expr} (type : CType) →
      Begins all (type_tokens type) (mark closing (codes ")") ∷ tokens) → IsExpr 11 tokens e rest →
      IsExpr 11 (mark opening (codes "(") ∷ all) (Cast type e) rest
  binary : {at : ℕ} {tokens others rest : List Placed} {a b : Expr} (operator : CBin) →
      IsExpr (strength operator) tokens a (mark at (binary_mark operator) ∷ others) →
      IsExpr (suc (strength operator)) others b rest →
      IsExpr (strength operator) tokens (Binary operator a b) rest
  conditional : {question colon : ℕ} {tokens first second rest : List Placed} {a b c : Expr} →
      IsExpr 1 tokens a (mark question (codes "?") ∷ first) →
      IsExpr 0 first b (mark colon (codes ":") ∷ second) → IsExpr 0 second c rest →
      IsExpr 0 tokens (Conditional a b c) rest
  stronger : {strength : ℕ} {tokens rest : List Placed} {e : Expr} →
      IsExpr (suc strength) tokens e rest → IsExpr strength tokens e rest

-- the tokens begin with a place: a name, or a star and a unary part
pub data IsPlace : List Placed → Expr → List Placed → Type 0 where
  name_place : {at : ℕ} {rest : List Placed} (bytes : Word) →
      is_name bytes ≡ true → IsPlace (word at bytes ∷ rest) (Name bytes) rest
  deref_place : {at : ℕ} {tokens rest : List Placed} {e : Expr} →
      IsExpr 11 tokens e rest → IsPlace (mark at (codes "*") ∷ tokens) (Unary Deref e) rest

-- the tokens begin with expressions with commas between them
pub data AreArguments : List Placed → List Expr → List Placed → Type 0 where
  no_argument : {rest : List Placed} → AreArguments rest [] rest
  last_argument : {tokens rest : List Placed} {e : Expr} →
      IsExpr 0 tokens e rest → AreArguments tokens (e ∷ []) rest
  more_arguments : {at : ℕ} {tokens others rest : List Placed} {e f : Expr} {es : List Expr} →
      IsExpr 0 tokens e (mark at (codes ",") ∷ others) → AreArguments others (f ∷ es) rest →
      AreArguments tokens (e ∷ f ∷ es) rest

-- a call: a function's name and its arguments
pub data IsCall : List Placed → Word → List Expr → List Placed → Type 0 where
  call : {at opening closing : ℕ} {tokens rest : List Placed}
      {arguments : List Expr} (function : Word) →
      is_name function ≡ true → AreArguments tokens arguments (mark closing (codes ")") ∷ rest) →
      IsCall (word at function ∷ mark opening (codes "(") ∷ tokens) function arguments rest

-- Statements.

-- what stands around a statement
pub record Around : Type 0 where
  -- how many blocks stand around the statement, without the function's own braces
  pub blocks : ℕ
  -- whether a loop or a `switch` stands around the statement, which a `break` leaves
  pub breaks : Bool
  -- whether a loop stands around the statement, which a `continue` goes on with
  pub continues : Bool

-- what stands around the statements of a function, of a block, of a loop, and of an arm
abbrev pub outermost : Around
outermost = record { blocks = 0; breaks = false; continues = false }

abbrev pub in_block : Around → Around
in_block around = record around { blocks = suc around.blocks }

abbrev pub in_loop : Around → Around
in_loop around = record { blocks = suc around.blocks; breaks = true; continues = true }

abbrev pub in_switch : Around → Around
in_switch around = record { blocks = suc around.blocks; breaks = true; continues = around.continues }

-- the number of a case: at most 65535, without suffix or with U
pub data IsCaseNumber : Token → ℕ → Type 0 where
  plain_decimal : {n : ℕ} → n ≤ 65535 → IsCaseNumber (Decimal n plain_number) n
  unsigned_decimal : {n : ℕ} → n ≤ 65535 → IsCaseNumber (Decimal n unsigned_suffix) n
  plain_hex : {n : ℕ} → n ≤ 65535 → IsCaseNumber (Hex n plain_number) n
  unsigned_hex : {n : ℕ} → n ≤ 65535 → IsCaseNumber (Hex n unsigned_suffix) n

-- the tokens begin with one or more cases
pub data AreCases : List Placed → List ℕ → List Placed → Type 0 where
  last_case : {at place colon n : ℕ} {token : Token} {rest : List Placed} → IsCaseNumber token n →
      AreCases (word at (codes "case") ∷ placed place token ∷ mark colon (codes ":") ∷ rest) (n ∷ []) rest
  more_cases : {at place colon n : ℕ} {token : Token} {others rest : List Placed} {cases : List ℕ} →
      IsCaseNumber token n → AreCases others cases rest →
      AreCases (word at (codes "case") ∷ placed place token ∷ mark colon (codes ":") ∷ others) (n ∷ cases)
      rest

-- the `switch` has an arm
abbrev pub has_arm : Arms → Bool
has_arm no_arms = false
has_arm (arm cases body arms) = true

mutual
  -- The tokens begin with the statement, which is no label, inside what stands around it. The numbers are the depth of
  -- calls before it and after it.
  pub data IsStmt (limit : ℕ) : Around → ℕ → List Placed → Stmt → ℕ → List Placed → Type 0 where
    assign : {around : Around} {depth equals end : ℕ} {tokens right rest : List Placed}
        {place e : Expr} →
        IsPlace tokens place (mark equals (codes "=") ∷ right) →
        IsExpr 0 right e (mark end (codes ";") ∷ rest) →
        IsStmt limit around depth tokens (Assign place e) depth rest
    call_alone : {around : Around} {depth end : ℕ} {tokens rest : List Placed} {function : Word}
        {arguments : List Expr} →
        IsCall tokens function arguments (mark end (codes ";") ∷ rest) →
        IsStmt limit around depth tokens (Call None function arguments depth) depth rest
    call_into : {around : Around} {depth equals end : ℕ} {tokens right rest : List Placed}
        {place : Expr}
        {function : Word} {arguments : List Expr} →
        IsPlace tokens place (mark equals (codes "=") ∷ right) →
        IsCall right function arguments (mark end (codes ";") ∷ rest) →
        IsStmt limit around depth tokens (Call (Some place) function arguments depth) depth rest
    if_alone : {around : Around} {depth after at opening closing : ℕ} {tokens block rest : List Placed}
        {e : Expr} {body : Lines} →
        IsExpr 0 tokens e (mark closing (codes ")") ∷ block) →
        IsBlock limit (in_block around) depth block body after rest →
        IsStmt limit around depth
        (word at (codes "if") ∷ mark opening (codes "(") ∷ tokens) (If e body no_lines) after rest
    if_else : {around : Around} {depth between after at opening closing other : ℕ}
        {tokens block second rest : List Placed}
        {e : Expr} {body otherwise : Lines} →
        IsExpr 0 tokens e (mark closing (codes ")") ∷ block) →
        IsBlock limit (in_block around) depth block body between (word other (codes "else") ∷ second) →
        IsBlock limit (in_block around) between second otherwise after rest →
        IsStmt limit around depth
        (word at (codes "if") ∷ mark opening (codes "(") ∷ tokens) (If e body otherwise) after rest
    while : {around : Around} {depth after at opening closing : ℕ} {tokens block rest : List Placed}
        {e : Expr} {body : Lines} →
        IsExpr 0 tokens e (mark closing (codes ")") ∷ block) →
        IsBlock limit (in_loop around) depth block body after rest →
        IsStmt limit around depth
        (word at (codes "while") ∷ mark opening (codes "(") ∷ tokens) (While e body) after rest
    do_while : {around : Around} {depth after at again opening closing end : ℕ}
        {block tokens rest : List Placed} {body : Lines} {e : Expr} →
        IsBlock limit (in_loop around) depth block body after
        (word again (codes "while") ∷ mark opening (codes "(") ∷ tokens) →
        IsExpr 0 tokens e (mark closing (codes ")") ∷ mark end (codes ";") ∷ rest) →
        IsStmt limit around depth (word at (codes "do") ∷ block) (DoWhile body e) after rest
    for_ever : {around : Around} {depth after : ℕ} {all block rest : List Placed} {body : Lines} →
        Begins all
        (WordToken (codes "for") ∷ Mark (codes "(") ∷ Mark (codes ";") ∷ Mark (codes ";") ∷ Mark (codes ")") ∷ [])
        block →
        IsBlock limit (in_loop around) depth block body after rest →
        IsStmt limit around depth all (Forever body) after rest
    switch : {around : Around} {depth after at opening closing brace end : ℕ}
        {tokens inside rest : List Placed} {e : Expr}
        {arms last : Arms} →
        IsExpr 0 tokens e (mark closing (codes ")") ∷ mark brace (codes "{") ∷ inside) →
        AreArms limit (in_switch around) depth inside arms last after (mark end (codes "}") ∷ rest) →
        (has_arm arms || has_arm last) ≡ true →
        IsStmt limit around depth
        (word at (codes "switch") ∷ mark opening (codes "(") ∷ tokens) (Switch e arms last) after rest
    break : {around : Around} {depth at end : ℕ} {rest : List Placed} → around.breaks ≡ true →
        IsStmt limit around depth (word at (codes "break") ∷ mark end (codes ";") ∷ rest) Break depth rest
    continue : {around : Around} {depth at end : ℕ} {rest : List Placed} → around.continues ≡ true →
        IsStmt limit around depth (word at (codes "continue") ∷ mark end (codes ";") ∷ rest)
        Continue depth rest
    goto : {around : Around} {depth at place end : ℕ} {rest : List Placed} (label : Word) →
        is_name label ≡ true →
        IsStmt limit around depth (word at (codes "goto") ∷ word place label ∷ mark end (codes ";") ∷ rest)
        (Goto label) depth rest
    empty : {around : Around} {depth end : ℕ} {rest : List Placed} →
        IsStmt limit around depth (mark end (codes ";") ∷ rest) Empty depth rest
    return_nothing : {around : Around} {depth at end : ℕ} {rest : List Placed} →
        IsStmt limit around depth (word at (codes "return") ∷ mark end (codes ";") ∷ rest) (Return None)
        depth rest
    return_value : {around : Around} {depth at end : ℕ} {tokens rest : List Placed} {e : Expr} →
        IsExpr 0 tokens e (mark end (codes ";") ∷ rest) →
        IsStmt limit around depth (word at (codes "return") ∷ tokens) (Return (Some e)) depth rest

  -- the tokens begin with a block, around whose statements stands what is given
  pub data IsBlock (limit : ℕ) : Around → ℕ → List Placed → Lines → ℕ → List Placed → Type 0 where
    block : {around : Around} {depth after opening closing : ℕ} {tokens rest : List Placed}
        {lines : Lines} →
        AreLines limit around false depth tokens lines after (mark closing (codes "}") ∷ rest) →
        IsBlock limit around depth (mark opening (codes "{") ∷ tokens) lines after rest

  -- The tokens begin with the statements, each in the line of its first token; at most `limit` blocks stand around
  -- each. Where a label stands before them, they begin with a statement.
  pub data AreLines (limit : ℕ) : Around → Bool → ℕ → List Placed → Lines → ℕ → List Placed → Type 0 where
    no_more : {around : Around} {depth : ℕ} {rest : List Placed} →
        AreLines limit around false depth rest no_lines depth rest
    depth_pragma : {around : Around} {depth after at n : ℕ} {tokens rest : List Placed}
        {lines : Lines} →
        around.blocks ≤ limit → AreLines limit around false n tokens lines after rest →
        AreLines limit around false depth
        (placed at (Pragma depth_line) ∷ placed at (Decimal n plain_number) ∷ tokens) lines after rest
    label : {around : Around} {labelled : Bool} {depth after at colon : ℕ} {tokens rest : List Placed}
        {lines : Lines} (name : Word) →
        is_name name ≡ true → around.blocks ≤ limit →
        AreLines limit around true depth tokens lines after rest →
        AreLines limit around labelled depth (word at name ∷ mark colon (codes ":") ∷ tokens)
        (line (Label name) at lines) after rest
    statement : {around : Around} {labelled : Bool} {depth between after at : ℕ} {token : Token}
        {tokens others rest : List Placed} {stmt : Stmt} {lines : Lines} →
        around.blocks ≤ limit →
        IsStmt limit around depth (placed at token ∷ tokens) stmt between others →
        AreLines limit around false between others lines after rest →
        AreLines limit around labelled depth (placed at token ∷ tokens) (line stmt at lines) after rest

  -- The tokens begin with the arms of a `switch`, those with cases and those with `default`; a `break` ends each, which
  -- at most `limit` blocks stand around.
  pub data AreArms (limit : ℕ) : Around → ℕ → List Placed → Arms → Arms → ℕ → List Placed → Type 0 where
    no_arm : {around : Around} {depth : ℕ} {rest : List Placed} →
        AreArms limit around depth rest no_arms no_arms depth rest
    case_arm : {around : Around} {depth between after leaves end : ℕ}
        {all tokens others rest : List Placed} {cases : List ℕ} {body : Lines} {arms last : Arms} →
        AreCases all cases tokens → around.blocks ≤ limit →
        AreLines limit around false depth tokens body between
        (word leaves (codes "break") ∷ mark end (codes ";") ∷ others) →
        AreArms limit around between others arms last after rest →
        AreArms limit around depth all (arm cases body arms) last after rest
    default_arm : {around : Around} {depth between after at colon leaves end : ℕ}
        {tokens others rest : List Placed}
        {body : Lines} {arms last : Arms} → around.blocks ≤ limit →
        AreLines limit around false depth tokens body between
        (word leaves (codes "break") ∷ mark end (codes ";") ∷ others) →
        AreArms limit around between others arms last after rest →
        AreArms limit around depth (word at (codes "default") ∷ mark colon (codes ":") ∷ tokens) arms
        (arm [] body last) after rest

-- Declarations.

-- the tokens begin with the size of an array, or with none
pub data HasSize : List Placed → Option ℕ → List Placed → Type 0 where
  no_size : {rest : List Placed} → HasSize rest None rest
  size : {opening place closing n : ℕ} {rest : List Placed} →
      HasSize
      (mark opening (codes "[") ∷ placed place (Decimal n plain_number) ∷ mark closing (codes "]") ∷ rest)
      (Some n) rest

-- the tokens begin with numbers with commas between them
pub data AreNumbers : List Placed → List ℕ → List Placed → Type 0 where
  last_number : {at n : ℕ} {rest : List Placed} →
      AreNumbers (placed at (Decimal n plain_number) ∷ rest) (n ∷ []) rest
  more_numbers : {at comma n : ℕ} {others rest : List Placed} {ns : List ℕ} →
      AreNumbers others ns rest →
      AreNumbers (placed at (Decimal n plain_number) ∷ mark comma (codes ",") ∷ others) (n ∷ ns) rest

-- the tokens begin with initial values, or with none
pub data AreInitial : List Placed → List ℕ → List Placed → Type 0 where
  no_value : {rest : List Placed} → AreInitial rest [] rest
  one_value : {equals at n : ℕ} {rest : List Placed} →
      AreInitial (mark equals (codes "=") ∷ placed at (Decimal n plain_number) ∷ rest) (n ∷ []) rest
  values : {equals opening closing : ℕ} {tokens rest : List Placed} {ns : List ℕ} →
      AreNumbers tokens ns (mark closing (codes "}") ∷ rest) →
      AreInitial (mark equals (codes "=") ∷ mark opening (codes "{") ∷ tokens) ns rest

-- The tokens begin with the declaration of the global variable: `type name[size] = values;`
pub record IsGlobal (tokens : List Placed) (g : Global) (rest : List Placed) : Type 0 where
  pub name_at : ℕ
  pub end_at : ℕ
  pub after_name : List Placed
  pub after_size : List Placed
  pub type_is : Begins tokens (type_tokens g.type) (word name_at g.name ∷ after_name)
  pub name_is : is_name g.name ≡ true
  pub len_is : HasSize after_name g.len after_size
  pub init_is : AreInitial after_size g.init (mark end_at (codes ";") ∷ rest)

-- The tokens begin with global variables. Each stands at the address that the line before it tells, or where the
-- variable before it ends; the first one has such a line.
pub data AreGlobals : Option ℕ → List Placed → List Global → List Placed → Type 0 where
  no_global : {place : Option ℕ} {rest : List Placed} → AreGlobals place rest [] rest
  placed_at : {place : Option ℕ} {at n : ℕ} {tokens rest : List Placed} {globals : List Global} →
      AreGlobals (Some n) tokens globals rest →
      AreGlobals place (placed at (Pragma place_line) ∷ placed at (Decimal n plain_number) ∷ tokens)
      globals rest
  one_global : {tokens others rest : List Placed} {g : Global} {globals : List Global} →
      IsGlobal tokens g others → AreGlobals (Some (after_global g)) others globals rest →
      AreGlobals (Some g.at) tokens (g ∷ globals) rest

-- the tokens begin with the word for a class, or with none
pub data HasClass : List Placed → Class → List Placed → Type 0 where
  no_class : {rest : List Placed} → HasClass rest Plain rest
  auto_class : {at : ℕ} {rest : List Placed} → HasClass (word at (codes "auto") ∷ rest) Auto rest
  register_class : {at : ℕ} {rest : List Placed} →
      HasClass (word at (codes "register") ∷ rest) Register rest

-- The tokens begin with the declaration of the parameter: `class type name`
pub record IsParam (tokens : List Placed) (v : Variable) (rest : List Placed) : Type 0 where
  pub name_at : ℕ
  pub typed : List Placed
  pub class_is : HasClass tokens v.class typed
  pub type_is : Begins typed (type_tokens v.type) (word name_at v.name ∷ rest)
  pub name_is : is_name v.name ≡ true
  pub no_len : v.len ≡ None

-- the tokens begin with parameters with commas between them
pub data AreSomeParams : List Placed → List Variable → List Placed → Type 0 where
  last_param : {tokens rest : List Placed} {v : Variable} → IsParam tokens v rest →
      AreSomeParams tokens (v ∷ []) rest
  more_params : {comma : ℕ} {tokens others rest : List Placed} {v : Variable} {params : List Variable} →
      IsParam tokens v (mark comma (codes ",") ∷ others) → AreSomeParams others params rest →
      AreSomeParams tokens (v ∷ params) rest

-- the tokens begin with a function's parameters; `void` stands for none
pub data AreParams : List Placed → List Variable → List Placed → Type 0 where
  no_param : {at : ℕ} {rest : List Placed} → AreParams (word at (codes "void") ∷ rest) [] rest
  some_params : {tokens rest : List Placed} {params : List Variable} →
      AreSomeParams tokens params rest → AreParams tokens params rest

-- the class of a local variable that has the word `auto` or not; an array is `auto` in either case
pub data IsLocalClass : Class → Option ℕ → Class → Type 0 where
  plain_local : IsLocalClass Plain None Plain
  array_local : {n : ℕ} → IsLocalClass Plain (Some n) Auto
  auto_local : {len : Option ℕ} → IsLocalClass Auto len Auto

-- The tokens begin with the declaration of the local variable: `auto type name[size];`
pub record IsLocal (tokens : List Placed) (v : Variable) (rest : List Placed) : Type 0 where
  pub name_at : ℕ
  pub end_at : ℕ
  pub spelled : Class
  pub typed : List Placed
  pub after_name : List Placed
  pub class_is : HasClass tokens spelled typed
  pub type_is : Begins typed (type_tokens v.type) (word name_at v.name ∷ after_name)
  pub name_is : is_name v.name ≡ true
  pub len_is : HasSize after_name v.len (mark end_at (codes ";") ∷ rest)
  pub stored_is : IsLocalClass spelled v.len v.class

-- the tokens begin with declarations of local variables
pub data AreLocals : List Placed → List Variable → List Placed → Type 0 where
  no_local : {rest : List Placed} → AreLocals rest [] rest
  one_local : {tokens others rest : List Placed} {v : Variable} {locals : List Variable} →
      IsLocal tokens v others → AreLocals others locals rest → AreLocals tokens (v ∷ locals) rest

-- the tokens begin with the type of a result, or with `void` where there is none
pub data HasResult : List Placed → Option CType → List Placed → Type 0 where
  no_result : {at : ℕ} {rest : List Placed} → HasResult (word at (codes "void") ∷ rest) None rest
  result : {tokens rest : List Placed} (type : CType) → Begins tokens (type_tokens type) rest →
      HasResult tokens (Some type) rest

-- The tokens begin with the function: `result name(params) { locals statements }`. Calls have depth 2 at its
-- beginning.
pub record IsFunction (limit : ℕ) (tokens : List Placed) (f : Function) (rest : List Placed) : Type 0 where
  pub name_at : ℕ
  pub open_at : ℕ
  pub close_at : ℕ
  pub brace_at : ℕ
  pub depth : ℕ
  pub params : List Placed
  pub locals : List Placed
  pub body : List Placed
  pub result_is : HasResult tokens f.result (word name_at f.name ∷ mark open_at (codes "(") ∷ params)
  pub name_is : is_name f.name ≡ true
  pub params_are : AreParams params f.params (mark close_at (codes ")") ∷ mark brace_at (codes "{")
      ∷ locals)
  pub locals_are : AreLocals locals f.locals body
  pub body_is : AreLines limit outermost false 2 body f.body depth (mark f.last (codes "}") ∷ rest)

-- the tokens are one or more functions
pub data AreFunctions (limit : ℕ) : List Placed → List Function → Type 0 where
  last_function : {tokens : List Placed} {f : Function} → IsFunction limit tokens f [] →
      AreFunctions limit tokens (f ∷ [])
  more_functions : {tokens rest : List Placed} {f : Function} {functions : List Function} →
      IsFunction limit tokens f rest → AreFunctions limit rest functions →
      AreFunctions limit tokens (f ∷ functions)

-- The tokens are a text: the version line, which is the first line, the stack line with its two numbers, global
-- variables, and functions. At most `limit` blocks stand around each statement.
pub record IsUnit (limit : ℕ) (tokens : List Placed) (tree : Tree) : Type 0 where
  pub stack_at : ℕ
  pub globals : List Placed
  pub functions : List Placed
  pub head_is : tokens ≡ placed 1 (Pragma version_line) ∷ placed stack_at (Pragma stack_line)
      ∷ placed stack_at (Decimal tree.lo plain_number) ∷ placed stack_at (Decimal tree.hi plain_number)
      ∷ globals
  pub version_is : tree.version ≡ 1
  pub globals_are : AreGlobals None globals tree.globals functions
  pub functions_are : AreFunctions limit functions tree.functions
