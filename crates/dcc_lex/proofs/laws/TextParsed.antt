-- A text stands for a tree exactly where its pieces after the version line are read to their end as the tree and
-- nothing offends in them.
use Rattle.std.proofs.Common.{◌≡◌, ◌≤◌, ℕ, true, List, Some, refl, sym, ◌∙◌, subst}
use Rattle.dcc_c.specs.Lexing.{Placed, Lexes}
use Rattle.dcc_c.specs.Pieces.{Piece, pieces_of, after_version}
use Rattle.dcc_c.specs.Tree.{Tree}
use Rattle.dcc_c.specs.Rules.{most_open}
use Rattle.dcc_c.specs.Grammar.{IsUnit}
use Rattle.dcc_c.specs.Text.{StandsFor}
use Rattle.dcc_c.proofs.reading.Passing.{tokens_of, pieces_with}
use Rattle.dcc_c.proofs.reading.Statements.{with_version}
use Rattle.dcc_c.proofs.reading.UnitSound.{sound_text}
use Rattle.dcc_c.proofs.reading.TextLaws.{pieces_are}
use Rattle.dcc_c.proofs.reading.ParseLaws.{AreUnit, IsParsed, parsed-unit, unit-parsed}
use Rattle.dcc_lex.proofs.laws.UsedDeclarations.{after_first, unit_used}
use Rattle.dcc_lex.proofs.laws.Version.{cut-lexes, lexes-cut, used_no_version}

-- a text whose pieces are parsed as a tree stands for it
pub parsed-stands : (text rest : List ℕ) (tree : Tree) → after_version text ≡ Some rest → IsParsed (pieces_of rest) tree → StandsFor text tree
parsed-stands text rest tree begins parsed =
    let pieces = pieces_of rest in
    let tokens = tokens_of pieces in
    let same : pieces_with tokens ≡ pieces = pieces_are pieces (sound_text pieces parsed.going).0 in
    let unit = parsed-unit tokens tree (subst (λ ps. IsParsed ps tree) (sym same) parsed) in
    record {
      tokens = with_version tokens;
      lexed = cut-lexes text rest tokens begins (sym same) (used_no_version tokens (unit_used tokens unit.formed));
      formed = unit.formed;
      shallow = unit.enclosed;
      allowed = unit.allowed;
    }

-- the pieces of a text that stands for a tree are parsed as the tree
pub stands-parsed : (text : List ℕ) (tree : Tree) → StandsFor text tree → (rest : List ℕ) × (after_version text ≡ Some rest) × IsParsed (pieces_of rest) tree
stands-parsed text tree stands =
    let tokens = after_first stands.tokens in
    let same : stands.tokens ≡ with_version tokens = begins_version stands.tokens stands.formed in
    let unit : AreUnit tokens tree = record {
      formed = subst (λ ts. IsUnit 200 ts tree) same stands.formed;
      enclosed = subst (λ ts. most_open 0 ts ≤ 200) same stands.shallow;
      allowed = stands.allowed;
    }
    in
    let found = lexes-cut text tokens (subst (Lexes true 1 text) same stands.lexed) (unit_used tokens unit.formed) in
    (found.rest, found.begins, subst (λ ps. IsParsed ps tree) (sym found.same) (unit-parsed tokens tree unit))
  where
    begins_version : (tokens : List Placed) → IsUnit 200 tokens tree → tokens ≡ with_version (after_first tokens)
    begins_version tokens unit = subst (λ ts. ts ≡ with_version (after_first ts)) (sym unit.head_is) refl

-- pieces are parsed as one tree at most
pub parsed-one : {pieces : List Piece} {a b : Tree} → IsParsed pieces a → IsParsed pieces b → a ≡ b
parsed-one first second = sym first.same ∙ second.same

-- a text stands for one tree at most
pub stands-one : (text : List ℕ) (a b : Tree) → StandsFor text a → StandsFor text b → a ≡ b
stands-one text a b first second =
    let (rest, begins, parsed) = stands-parsed text a first in
    let (other, begins_other, parsed_other) = stands-parsed text b second in
    let same : other ≡ rest = rest_same rest other (sym begins_other ∙ begins) in
    parsed-one parsed (subst (λ r. IsParsed (pieces_of r) b) same parsed_other)
  where
    rest_same : (rest other : List ℕ) → Some other ≡ Some rest → other ≡ rest
    rest_same rest other is = cc
