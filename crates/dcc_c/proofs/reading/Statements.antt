-- What it means that reading and the grammar agree on expressions, in both directions.
use Rattle.std.proofs.Common.{◌≡◌, ℕ, ◌+◌, ◌*◌, ◌<◌, ◌≤◌, false, Bool, true, List, [], ◌∷◌, length, Option, Some, None}
use Rattle.std.specs.Prelude.{codes}
use Rattle.dcc_c.specs.declared.syntax.CType.{CType}
use Rattle.dcc_c.specs.declared.syntax.CBin.{CBin}
use Rattle.std.specs.List.{list_all}
use Rattle.dcc_c.specs.Token.{Token, Pragma, version_line}
use Rattle.dcc_c.specs.Lexing.{Placed, placed}
use Rattle.dcc_c.specs.Pieces.{Piece}
use Rattle.dcc_c.specs.Tree.{Expr, Function, Tree}
use Rattle.dcc_c.specs.Parts.{stmts_in}
use Rattle.dcc_c.specs.Grammar.{type_tokens, strength, Begins, IsExpr, IsUnit}
use Rattle.dcc_c.specs.Rules.{expr_depth, most_open, shallow_stmt}
use Rattle.dcc_c.specs.Partial.{PartialExpr}
use Rattle.dcc_c.specs.Reading.{Reader, Got, got, first_token, is_the_mark, binary_of, Inside, read_unary, read_expr}
use Rattle.dcc_c.specs.ReadingText.{reading_of}
use Rattle.dcc_c.specs.Stripped.{plain_expr, plain_text}
use Rattle.dcc_c.proofs.reading.Passing.{tokens_of, are_tokens, pieces_with, Passed}

-- So many calls are enough for a rule at these pieces: sixteen for each piece, and what the rule itself takes. These are
-- 1 for a unary part, 2 for operands and their operators, 3 for an expression and 4 for what stands after a parenthesis.
abbrev pub IsEnough : ℕ → ℕ → List Piece → Type 0
IsEnough calls rule pieces = 16 * length pieces + rule ≤ calls

-- no binary operator of this strength or a greater one is the token
abbrev pub IsWeaker : ℕ → Option Token → Type 0
IsWeaker least token = (operator : CBin) → binary_of token ≡ Some operator → strength operator < least

-- What was read between two readers is an expression of this strength: the grammar says so of the tokens in whatever
-- follows, no parenthesis in it is one too many, and with the operators around it it is at most 200 deep.
pub record ReadsExpr (least : ℕ) (inside : Inside) (r : Reader) (g : Got PartialExpr) : Type 0 where
  pub passed : Passed r g.following
  pub steady : g.following.depth ≡ r.depth
  pub shorter : length g.following.left < length r.left
  pub derived : IsExpr least (tokens_of r.left) (plain_expr g.value) (tokens_of g.following.left)
  pub enclosed : most_open inside.opened (tokens_of g.following.left) ≤ 200 → most_open inside.opened (tokens_of r.left) ≤ 200
  pub shallow : inside.operators + expr_depth (plain_expr g.value) ≤ 200

-- reading that has not stopped has read an expression
abbrev pub IsSound : ℕ → Inside → Reader → Got PartialExpr → Type 0
IsSound least inside r g = g.following.stop ≡ None → ReadsExpr least inside r g

-- reading that has not stopped has read a type
pub record ReadsType (r : Reader) (g : Got (Option CType)) : Type 0 where
  pub passed : Passed r g.following
  pub steady : g.following.depth ≡ r.depth
  pub shorter : length g.following.left < length r.left
  pub type : CType
  pub is : g.value ≡ Some type
  pub derived : Begins (tokens_of r.left) (type_tokens type) (tokens_of g.following.left)
  pub enclosed : (opened : ℕ) → most_open opened (tokens_of g.following.left) ≤ 200 → most_open opened (tokens_of r.left) ≤ 200

-- The other direction of the agreement: what the grammar allows is read so.

-- a reader at the first of some tokens, which goes on
abbrev pub on : List Placed → ℕ → ℕ → Reader
on tokens at depth = record { left = pieces_with tokens; at = at; stop = None; depth = depth }

-- so many calls are enough for a rule at these tokens
abbrev pub IsEnoughFor : ℕ → ℕ → List Placed → Type 0
IsEnoughFor calls rule tokens = 16 * length tokens + rule ≤ calls

-- the first of some tokens
abbrev pub first_of : List Placed → Option Token
first_of tokens = first_token (pieces_with tokens)

-- no operator follows that an expression goes on with
pub record EndsExpr (rest : List Placed) : Type 0 where
  pub no_operator : binary_of (first_of rest) ≡ None
  pub no_question : is_the_mark (codes "?") (first_of rest) ≡ false

-- the limits of depth allow the expression, which the tokens begin with
pub record IsShallow (inside : Inside) (tokens : List Placed) (e : Expr) : Type 0 where
  pub shallow : inside.operators + expr_depth e ≤ 200
  pub enclosed : most_open inside.opened tokens ≤ 200

-- the expression was read, with exactly the rest left
pub record FindsExpr (tokens : List Placed) (e : Expr) (rest : List Placed) (at depth : ℕ) (g : Got PartialExpr) : Type 0 where
  pub partial : PartialExpr
  pub following : ℕ
  pub same : plain_expr partial ≡ e
  pub place : following + length rest ≡ at + length tokens
  pub is : g ≡ got partial (on rest following depth)

-- The statements.

-- What has been read of a whole expression, or of a unary part, is one.
abbrev pub SoundExpr : Type 0
SoundExpr = (calls : ℕ) (inside : Inside) (r : Reader) → IsEnough calls 3 r.left → IsSound 0 inside r (read_expr calls inside r)

abbrev pub SoundUnary : Type 0
SoundUnary = (calls : ℕ) (inside : Inside) (r : Reader) → IsEnough calls 1 r.left → IsSound 11 inside r (read_unary calls inside r)

-- An expression of the grammar that the limits of depth allow is read.
abbrev pub CompleteExpr : Type 0
CompleteExpr =
    (tokens rest : List Placed) (e : Expr) → IsExpr 0 tokens e rest → EndsExpr rest →
    (calls : ℕ) (inside : Inside) (at depth : ℕ) → IsEnoughFor calls 3 tokens → IsShallow inside tokens e →
    FindsExpr tokens e rest at depth (read_expr calls inside (on tokens at depth))

abbrev pub CompleteUnary : Type 0
CompleteUnary =
    (tokens rest : List Placed) (e : Expr) → IsExpr 11 tokens e rest →
    (calls : ℕ) (inside : Inside) (at depth : ℕ) → IsEnoughFor calls 1 tokens → IsShallow inside tokens e →
    FindsExpr tokens e rest at depth (read_unary calls inside (on tokens at depth))

-- Whole texts.

-- no expression of the function is too deep
abbrev pub is_shallow : Function → Bool
is_shallow f = list_all (shallow_stmt 200) (stmts_in f.body)

-- the tokens of a text: the version line, which is the first, and those after it
abbrev pub with_version : List Placed → List Placed
with_version tokens = placed 1 (Pragma version_line) ∷ tokens

-- The grammar and the limits of depth say that the tokens after the version line stand for the tree.
pub record IsText (tokens : List Placed) (tree : Tree) : Type 0 where
  pub formed : IsUnit 200 (with_version tokens) tree
  pub enclosed : most_open 0 (with_version tokens) ≤ 200
  pub shallow : list_all is_shallow tree.functions ≡ true

-- What has been read of a text to its end is one, and its pieces are tokens.
abbrev pub SoundText : Type 0
SoundText =
    (pieces : List Piece) → (reading_of pieces).following.stop ≡ None →
    (are_tokens pieces ≡ true) × IsText (tokens_of pieces) (plain_text (reading_of pieces).value) × ((reading_of pieces).following.left ≡ [])

-- A text of the grammar that the limits of depth allow is read to its end.
abbrev pub CompleteText : Type 0
CompleteText =
    (tokens : List Placed) (tree : Tree) → IsText tokens tree →
    ((reading_of (pieces_with tokens)).following.stop ≡ None) × (plain_text (reading_of (pieces_with tokens)).value ≡ tree)
