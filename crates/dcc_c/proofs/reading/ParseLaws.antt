-- Pieces that are read to their end, and in which nothing offends, are the tokens of a tree, and the other way round.
use Rattle.std.proofs.Common.{◌≡◌, ◌≤◌, List, [], ◌∷◌, None, refl, sym, ap, subst}
use Rattle.dcc_c.specs.Lexing.{Placed}
use Rattle.dcc_c.specs.Pieces.{Piece}
use Rattle.dcc_c.specs.Tree.{Tree}
use Rattle.dcc_c.specs.Rules.{most_open, IsAllowed}
use Rattle.dcc_c.specs.Grammar.{IsUnit}
use Rattle.dcc_c.specs.ReadingText.{reading_of}
use Rattle.dcc_c.specs.TextOffences.{text_offences}
use Rattle.dcc_c.specs.Stripped.{plain_text}
use Rattle.dcc_c.proofs.refusals.TextRules.{text-allowed, text-clean}
use Rattle.dcc_c.proofs.reading.Passing.{tokens_of, pieces_with}
use Rattle.dcc_c.proofs.reading.Statements.{with_version}
use Rattle.dcc_c.proofs.reading.UnitSound.{sound_text}
use Rattle.dcc_c.proofs.reading.TextComplete.{complete_text}
use Rattle.dcc_c.proofs.reading.TextLaws.{allowed_shallow}
use Rattle.dcc_c.proofs.reading.TextWhole.{complete_reading}

-- The tokens after the version line stand for the tree: so says the grammar, and the rules on depth, names, types and
-- places.
pub record AreUnit (tokens : List Placed) (tree : Tree) : Type 0 where
  pub formed : IsUnit 200 (with_version tokens) tree
  pub enclosed : most_open 0 (with_version tokens) ≤ 200
  pub allowed : IsAllowed tree

-- Nothing offends in the pieces, which are read to their end as the tree.
pub record IsParsed (pieces : List Piece) (tree : Tree) : Type 0 where
  pub going : (reading_of pieces).following.stop ≡ None
  pub same : plain_text (reading_of pieces).value ≡ tree
  pub clean : text_offences (reading_of pieces).value [] ≡ []

-- the tokens of pieces with these tokens
pub tokens_are : (tokens : List Placed) → tokens_of (pieces_with tokens) ≡ tokens
tokens_are [] = refl
tokens_are (t ∷ tokens) = ap (λ ts. t ∷ ts) (tokens_are tokens)

-- what is parsed is a unit
pub parsed-unit : (tokens : List Placed) (tree : Tree) → IsParsed (pieces_with tokens) tree → AreUnit tokens tree
parsed-unit tokens tree parsed =
    let pieces = pieces_with tokens in
    let read = sound_text pieces parsed.going in
    let complete = complete_reading pieces parsed.going in
    let allowed : IsAllowed (plain_text (reading_of pieces).value) = text-allowed (reading_of pieces).value complete.0 complete.1 parsed.clean in
    let formed : IsUnit 200 (with_version (tokens_of pieces)) tree = subst (IsUnit 200 (with_version (tokens_of pieces))) parsed.same read.1.formed in
    record {
      formed = subst (λ ts. IsUnit 200 (with_version ts) tree) (tokens_are tokens) formed;
      enclosed = subst (λ ts. most_open 0 (with_version ts) ≤ 200) (tokens_are tokens) read.1.enclosed;
      allowed = subst IsAllowed parsed.same allowed;
    }

-- the pieces of a unit are parsed as it
pub unit-parsed : (tokens : List Placed) (tree : Tree) → AreUnit tokens tree → IsParsed (pieces_with tokens) tree
unit-parsed tokens tree unit =
    let pieces = pieces_with tokens in
    let found = complete_text tokens tree (record { formed = unit.formed; enclosed = unit.enclosed; shallow = allowed_shallow unit.allowed.functions }) in
    let complete = complete_reading pieces found.0 in
    record {
      going = found.0;
      same = found.1;
      clean = text-clean (reading_of pieces).value complete.0 (subst IsAllowed (sym found.1) unit.allowed);
    }
