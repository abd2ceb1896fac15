-- Reading a text piece by piece, for every text: a reader takes pieces as long as the grammar and the limits of depth
-- allow them, and at the first one that they do not it stops. From there on it sees no piece, and every part ends with
-- what has been read. Expressions stand here.
--
-- `calls` is how deep reading may nest; a text has a number of pieces with which it suffices.
use Rattle.std.specs.Prelude.{ℕ, zero, suc, ◌+◌, nat_le, nat_lt, Bool, true, false, ◌||◌, if◌then◌else◌, List, [], ◌∷◌}
use Rattle.std.specs.Prelude.{drop, codes, Option, Some, None, is_some}
use Rattle.dcc_c.specs.declared.syntax.Base.{Base}
use Rattle.dcc_c.specs.declared.syntax.Base.TheVariants.{Schar, Uchar, Int, Uint, Long, Ulong}
use Rattle.dcc_c.specs.declared.syntax.CType.{CType}
use Rattle.dcc_c.specs.declared.syntax.CUn.{CUn}
use Rattle.dcc_c.specs.declared.syntax.CUn.TheVariants.{Minus, Complement, Not, Deref, AddressOf}
use Rattle.dcc_c.specs.declared.syntax.CBin.{CBin}
use Rattle.dcc_c.specs.declared.syntax.CBin.TheVariants.{OrOr, AndAnd, Or, Xor, And, Eq, Ne, Lt, Le, Gt, Ge, Shl, Shr}
use Rattle.dcc_c.specs.declared.syntax.CBin.TheVariants.{Add, Sub, Mul, Div, Rem}
use Rattle.dcc_c.specs.Token.{Token, WordToken, Decimal, Hex, Mark, plain_number, decimal_type, hex_type, same_bytes}
use Rattle.dcc_c.specs.Tree.{Word}
use Rattle.dcc_c.specs.Grammar.{is_name, unary_mark, binary_mark, strength}
use Rattle.dcc_c.specs.Kinds.{Kind, of_token, of_grammar, of_depth, Offence, offence}
use Rattle.dcc_c.specs.Pieces.{Piece}
use Rattle.dcc_c.specs.Partial.{WordAt, NumberAt, PartialExpr, Missing, NumberHere, NameHere, UnaryHere, BinaryOf}
use Rattle.dcc_c.specs.Partial.{ConditionalOf, CastHere, depth_of}

-- What is left of a text, how many pieces have been read, at what offence reading stopped, and the depth of calls in
-- force.
pub record Reader : Type 0 where
  pub left : List Piece
  pub at : ℕ
  pub stop : Option Offence
  pub depth : ℕ

-- what was read, and the reader after it
pub record Got (A : Type 0) : Type 0 where
  pub value : A
  pub following : Reader

abbrev pub got : {A : Type 0} → A → Reader → Got A
got value r = record { value = value; following = r }

abbrev pub is_stopped : Reader → Bool
is_stopped r = is_some r.stop

-- the token of the first of some pieces
abbrev pub first_token : List Piece → Option Token
first_token [] = None
first_token (p ∷ pieces) = p.token

-- the next token; `second_token`: the one after it
abbrev pub next_token : Reader → Option Token
next_token r = if is_stopped r then None else first_token r.left

abbrev pub second_token : Reader → Option Token
second_token r = if is_stopped r then None else first_token (drop 1 r.left)

-- the line of the next piece
abbrev pub line_of : List Piece → ℕ
line_of [] = 0
line_of (p ∷ pieces) = p.line

-- the reader after the next piece
abbrev pub skip : Reader → Reader
skip r = record r { left = drop 1 r.left; at = suc r.at }

-- How reading stops.

abbrev pub stop_at : Kind → ℕ → Reader → Reader
stop_at kind at r = if is_stopped r then r else record r { stop = Some (offence kind at) }

-- the kind of the piece that the grammar does not allow, or of the end
abbrev pub stop_kind : List Piece → Kind
stop_kind [] = of_grammar
stop_kind (p ∷ pieces) = if is_some p.token then of_grammar else of_token

-- reading stops since the next piece is not allowed
abbrev pub fail : Reader → Reader
fail r = stop_at (stop_kind r.left) r.at r

-- Tests.

abbrev pub is_the_mark : Word → Option Token → Bool
is_the_mark bytes (Some (Mark mark)) = same_bytes mark bytes
is_the_mark bytes token = false

abbrev pub is_the_word : Word → Option Token → Bool
is_the_word bytes (Some (WordToken word)) = same_bytes word bytes
is_the_word bytes token = false

-- the name that the token is
abbrev pub name_if : Word → Option Word
name_if word = if is_name word then Some word else None

abbrev pub name_of : Option Token → Option Word
name_of (Some (WordToken word)) = name_if word
name_of token = None

abbrev pub sees_mark : Word → Reader → Bool
sees_mark bytes r = is_the_mark bytes (next_token r)

abbrev pub sees_word : Word → Reader → Bool
sees_word bytes r = is_the_word bytes (next_token r)

-- the mark or the word, which must stand here
abbrev pub take_mark : Word → Reader → Reader
take_mark bytes r = if sees_mark bytes r then skip r else fail r

abbrev pub take_word : Word → Reader → Reader
take_word bytes r = if sees_word bytes r then skip r else fail r

-- a name, which must stand here
abbrev pub take_name : Reader → Got (Option WordAt)
take_name r = elim (name_of (next_token r)) [
  | Some word ↦ got (Some (record { word = word; at = r.at })) (skip r)
  | None ↦ got None (fail r)
]

-- the decimal number without suffix that the token is
abbrev pub plain_of : Option Token → Option ℕ
plain_of (Some (Decimal n plain_number)) = Some n
plain_of token = None

-- a decimal number without suffix, which must stand here
abbrev pub take_plain : Reader → Got (Option NumberAt)
take_plain r = elim (plain_of (next_token r)) [
  | Some n ↦ got (Some (record { value = n; at = r.at })) (skip r)
  | None ↦ got None (fail r)
]

-- Types.

abbrev pub begins_type : Option Token → Bool
begins_type token =
    (is_the_word (codes "signed") token || is_the_word (codes "unsigned") token)
    || (is_the_word (codes "int") token || is_the_word (codes "long") token)

-- the number type whose words have been read
abbrev pub base_following : Base → Reader → Got (Option Base)
base_following base r = got (Some base) (skip r)

-- the word after `unsigned`
abbrev pub unsigned_base : Reader → Got (Option Base)
unsigned_base r =
    if sees_word (codes "char") r then base_following Uchar r
    else if sees_word (codes "int") r then base_following Uint r
    else if sees_word (codes "long") r then base_following Ulong r
    else got None (fail r)

abbrev pub signed_base : Reader → Got (Option Base)
signed_base r = if sees_word (codes "char") r then base_following Schar r else got None (fail r)

abbrev pub take_base : Reader → Got (Option Base)
take_base r =
    if sees_word (codes "int") r then base_following Int r
    else if sees_word (codes "long") r then base_following Long r
    else if sees_word (codes "signed") r then signed_base (skip r)
    else if sees_word (codes "unsigned") r then unsigned_base (skip r)
    else got None (fail r)

-- a star or none after a base
abbrev pub with_star : Base → Reader → Got (Option CType)
with_star base r =
    if sees_mark (codes "*") r then got (Some (record { base = base; pointer = true })) (skip r)
    else got (Some (record { base = base; pointer = false })) r

-- a type, which must stand here
abbrev pub take_type : Reader → Got (Option CType)
take_type r =
    let base = take_base r in
    elim base.value [ Some b ↦ with_star b base.following | None ↦ got None base.following ]

-- Operators.

abbrev pub all_unary : List CUn
all_unary = Minus ∷ Complement ∷ Not ∷ Deref ∷ AddressOf ∷ []

abbrev pub all_binary : List CBin
all_binary =
    OrOr ∷ AndAnd ∷ Or ∷ Xor ∷ And ∷ Eq ∷ Ne ∷ Lt ∷ Le ∷ Gt ∷ Ge ∷ Shl ∷ Shr ∷ Add ∷ Sub ∷ Mul ∷ Div ∷ Rem ∷ []

abbrev pub unary_in : List CUn → Option Token → Option CUn
unary_in [] token = None
unary_in (operator ∷ others) token =
    if is_the_mark (unary_mark operator) token then Some operator else unary_in others token

abbrev pub binary_in : List CBin → Option Token → Option CBin
binary_in [] token = None
binary_in (operator ∷ others) token =
    if is_the_mark (binary_mark operator) token then Some operator else binary_in others token

abbrev pub unary_of : Option Token → Option CUn
unary_of token = unary_in all_unary token

abbrev pub binary_of : Option Token → Option CBin
binary_of token = binary_in all_binary token

-- a number with its type
pub record TypedNumber : Type 0 where
  pub value : ℕ
  pub base : Base

abbrev pub number_of : Option Token → Option TypedNumber
number_of (Some (Decimal n suffix)) = Some (record { value = n; base = decimal_type n suffix })
number_of (Some (Hex n suffix)) = Some (record { value = n; base = hex_type n suffix })
number_of token = None

-- Expressions.

-- What stands around a part of an expression: the place where the whole expression begins, how many operators of it are
-- around the part, and how many parentheses are open.
pub record Inside : Type 0 where
  pub start : ℕ
  pub operators : ℕ
  pub opened : ℕ

-- an operand of one more operator, and what stands in one more pair of parentheses
abbrev pub in_operator : Inside → Inside
in_operator inside = record inside { operators = suc inside.operators }

abbrev pub in_parentheses : Inside → Inside
in_parentheses inside = record inside { opened = suc inside.opened }

-- an expression may begin with the token
abbrev pub begins_expr : Option Token → Bool
begins_expr token =
    (is_some (unary_of token) || is_the_mark (codes "(") token)
    || (is_some (number_of token) || is_some (name_of token))

-- Reading stops where an expression gets more than 200 deep, of which the given one is a part. The expression offends
-- where it begins.
abbrev pub stop_if_deep : Inside → PartialExpr → Reader → Reader
stop_if_deep inside e r = if nat_lt 200 (inside.operators + depth_of e) then stop_at of_depth inside.start r else r

-- Reading stops at a piece that stands in more than 200 parentheses, and may be the first in them.
abbrev pub stop_if_enclosed : Inside → Reader → Reader
stop_if_enclosed inside r =
    if nat_lt 200 inside.opened
    then (if begins_expr (next_token r) || begins_type (next_token r) then stop_at of_depth r.at r else fail r) else r

-- a number
abbrev pub number_here : TypedNumber → Reader → Got PartialExpr
number_here n r = got (NumberHere r.at n.value n.base) (skip r)

-- a name, and whether a parenthesis follows
abbrev pub name_here : Word → Reader → Got PartialExpr
name_here word r = got (NameHere r.at word (sees_mark (codes "(") (skip r))) (skip r)

-- a number or a name, which must stand here
abbrev pub read_leaf : Reader → Got PartialExpr
read_leaf r = elim (number_of (next_token r)) [
  | Some n ↦ number_here n r
  | None ↦ elim (name_of (next_token r)) [ Some word ↦ name_here word r | None ↦ got Missing (fail r) ]
]

-- the expression in parentheses, with the closing one after it
abbrev pub closed : Got PartialExpr → Got PartialExpr
closed inner = got inner.value (take_mark (codes ")") inner.following)

-- the cast of an operand, and the unary operator on one, at their places
abbrev pub cast_of : ℕ → CType → Got PartialExpr → Got PartialExpr
cast_of at type a = got (CastHere at type a.value) a.following

abbrev pub unary_at : ℕ → CUn → Got PartialExpr → Got PartialExpr
unary_at at operator a = got (UnaryHere at operator a.value) a.following

-- two operands and their operator
abbrev pub joined : Inside → CBin → PartialExpr → Got PartialExpr → Got PartialExpr
joined inside operator a b =
    let whole = BinaryOf operator a b.value in got whole (stop_if_deep inside whole b.following)

-- a conditional
abbrev pub chosen : Inside → PartialExpr → PartialExpr → Got PartialExpr → Got PartialExpr
chosen inside test first second =
    let whole = ConditionalOf test first second.value in got whole (stop_if_deep inside whole second.following)

abbrev mutual
  -- a unary part, which must stand here
  pub read_unary : ℕ → Inside → Reader → Got PartialExpr
  read_unary zero inside r = got Missing r
  read_unary (suc calls) inside r =
      if nat_le 200 inside.operators then got Missing (stop_at of_depth inside.start r)
      else elim (unary_of (next_token r)) [
        | Some operator ↦ unary_at r.at operator (read_unary calls (in_operator inside) (skip r))
        | None ↦ if sees_mark (codes "(") r then read_parentheses calls inside r.at (skip r) else read_leaf r
      ]

  -- what stands after an opening parenthesis at a place: a type, and an operand after it, or an expression
  pub read_parentheses : ℕ → Inside → ℕ → Reader → Got PartialExpr
  read_parentheses zero inside at r = got Missing r
  read_parentheses (suc calls) inside at r =
      let here = stop_if_enclosed (in_parentheses inside) r in
      if begins_type (next_token here) then read_cast calls inside at (take_type here)
      else closed (read_expr calls (in_parentheses inside) here)

  -- the rest of a cast after its type
  pub read_cast : ℕ → Inside → ℕ → Got (Option CType) → Got PartialExpr
  read_cast zero inside at type = got Missing type.following
  read_cast (suc calls) inside at type = elim type.value [
    | Some of ↦ cast_of at of (read_unary calls (in_operator inside) (take_mark (codes ")") type.following))
    | None ↦ got Missing type.following
  ]

  -- operands that are joined by binary operators of at least this strength
  pub read_binary : ℕ → Inside → ℕ → Reader → Got PartialExpr
  read_binary zero inside weakest r = got Missing r
  read_binary (suc calls) inside weakest r = read_more calls inside weakest (read_unary calls inside r)

  -- the operands that are joined to the first one by binary operators of at least this strength
  pub read_more : ℕ → Inside → ℕ → Got PartialExpr → Got PartialExpr
  read_more zero inside weakest left = left
  read_more (suc calls) inside weakest left = elim (binary_of (next_token left.following)) [
    | Some operator ↦ if nat_le weakest (strength operator)
        then read_more calls inside weakest
        (joined inside operator left.value
        (read_binary calls (in_operator inside) (suc (strength operator)) (skip left.following)))
        else left
    | None ↦ left
  ]

  -- an expression, which must stand here
  pub read_expr : ℕ → Inside → Reader → Got PartialExpr
  read_expr zero inside r = got Missing r
  read_expr (suc calls) inside r = read_rest calls inside (read_binary calls inside 1 r)

  -- the rest of a conditional after its test, or nothing
  pub read_rest : ℕ → Inside → Got PartialExpr → Got PartialExpr
  read_rest zero inside test = test
  read_rest (suc calls) inside test =
      if sees_mark (codes "?") test.following then (
      let first = read_expr calls (in_operator inside) (skip test.following) in
      let second = read_expr calls (in_operator inside) (take_mark (codes ":") first.following) in
      chosen inside test.value first.value second
      ) else test
