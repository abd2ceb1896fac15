-- Reading a text and the grammar agree, and what stands for a tree is what is read of it.
use Rattle.std.proofs.Common.{◌≡◌, ℕ, ◌≤◌, List, [], ◌∷◌, true, Option, Some, None, refl, sym, ap, ◌∙◌, subst}
use Rattle.std.specs.Prelude.{is_some, ◌&&◌}
use Rattle.std.specs.List.{list_all}
use Rattle.std.proofs.lemmas.Bool.{and_from}
use Rattle.dcc_c.specs.Token.{Token, Decimal, Pragma, plain_number, stack_line}
use Rattle.dcc_c.specs.Lexing.{Placed, placed}
use Rattle.dcc_c.specs.Tree.{Function, Tree}
use Rattle.dcc_c.specs.Pieces.{Piece, piece}
use Rattle.dcc_c.specs.Rules.{most_open, AreAllowed, no_more, one_more}
use Rattle.dcc_c.specs.Grammar.{IsUnit}
use Rattle.dcc_c.specs.Text.{StandsFor}
use Rattle.dcc_c.specs.ReadingText.{reading_of}
use Rattle.dcc_c.specs.Stripped.{plain_text}
use Rattle.dcc_c.proofs.reading.Passing.{tokens_of, are_tokens, pieces_with}
use Rattle.dcc_c.proofs.reading.Statements.{is_shallow, with_version, IsText}
use Rattle.dcc_c.proofs.reading.UnitSound.{sound_text}
use Rattle.dcc_c.proofs.reading.TextComplete.{complete_text}

piece_is : (p : Piece) (token : Option Token) (pieces : List Piece) → p.token ≡ token → (is_some token && are_tokens pieces) ≡ true → (are_tokens pieces ≡ true → pieces_with (tokens_of pieces) ≡ pieces) →
    pieces_with (elim token [ Some t ↦ placed p.line t ∷ tokens_of pieces | None ↦ tokens_of pieces ]) ≡ p ∷ pieces
piece_is p (Some t) pieces is all others = ap (λ o. piece p.line o ∷ pieces_with (tokens_of pieces)) (sym is) ∙ ap (λ ps. p ∷ ps) (others all)
piece_is p None pieces is all others = absurd cc

-- pieces that are tokens are those of their tokens
pub pieces_are : (pieces : List Piece) → are_tokens pieces ≡ true → pieces_with (tokens_of pieces) ≡ pieces
pieces_are [] all = refl
pieces_are (p ∷ pieces) all = piece_is p p.token pieces refl all (pieces_are pieces)

-- The pieces are read to their end as the tree.
pub record IsReadAs (pieces : List Piece) (tree : Tree) : Type 0 where
  pub going : (reading_of pieces).following.stop ≡ None
  pub same : plain_text (reading_of pieces).value ≡ tree

-- what is read to its end is what the grammar and the limits of depth say
pub read_is_text : (pieces : List Piece) (tree : Tree) → IsReadAs pieces tree → (are_tokens pieces ≡ true) × IsText (tokens_of pieces) tree
read_is_text pieces tree read =
    let found = sound_text pieces read.going in (found.0, subst (IsText (tokens_of pieces)) read.same found.1)

-- what the grammar and the limits of depth say is read to its end
pub text_is_read : (pieces : List Piece) (tree : Tree) → are_tokens pieces ≡ true → IsText (tokens_of pieces) tree → IsReadAs pieces tree
text_is_read pieces tree all is =
    let found = complete_text (tokens_of pieces) tree is in
    let same = pieces_are pieces all in
    record {
      going = ap (λ ps. (reading_of ps).following.stop) (sym same) ∙ found.0;
      same = ap (λ ps. plain_text (reading_of ps).value) (sym same) ∙ found.1;
    }

-- The depth of expressions is among the rules on a tree.
pub allowed_shallow : {tree : Tree} {functions : List Function} → AreAllowed tree functions → list_all is_shallow functions ≡ true
allowed_shallow no_more = refl
allowed_shallow (one_more is others) = and_from _ _ is.depth (allowed_shallow others)

-- A text that stands for a tree has the version line first, and tokens after it that are the tree's.
pub record StandsAsText (tokens : List Placed) (tree : Tree) : Type 0 where
  pub others : List Placed
  pub same : tokens ≡ with_version others
  pub is : IsText others tree

pub stands_as_text : (text : List ℕ) (tree : Tree) (stands : StandsFor text tree) → StandsAsText stands.tokens tree
stands_as_text text tree stands =
    let f = stands.formed in
    let others : List Placed = placed f.stack_at (Pragma stack_line) ∷ placed f.stack_at (Decimal tree.lo plain_number) ∷ placed f.stack_at (Decimal tree.hi plain_number) ∷ f.globals in
    let same : stands.tokens ≡ with_version others = f.head_is in
    record {
      others = others;
      same = same;
      is = record {
        formed = subst (λ ts. IsUnit 200 ts tree) same stands.formed;
        enclosed = subst (λ ts. most_open 0 ts ≤ 200) same stands.shallow;
        shallow = allowed_shallow stands.allowed.functions;
      };
    }
