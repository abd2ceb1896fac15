-- Why a text is not parsed.
use Rattle.std.specs.Prelude.{◌≡◌, ℕ, true, ◌≤◌, List, [], length}
use Rattle.dcc_c.specs.Complete.{is_complete_text}
use Rattle.dcc_c.specs.Partial.{PartialText}
use Rattle.dcc_c.specs.Pieces.{Piece}
use Rattle.dcc_c.specs.ReadingText.{reading_of}
use Rattle.dcc_c.specs.Refusals.{IsRefused}
use Rattle.dcc_c.specs.Stripped.{plain_text}
use Rattle.dcc_c.specs.Text.{StandsFor}
use Rattle.dcc_c.specs.TextOffences.{text_offences, offences_of}
use Rattle.dcc_c.specs.Tree.{Tree}
use Rattle.dcc_reader.specs.OffenceViews.{kind_of}
use Rattle.dcc_reader.specs.declared.offence.ParseKind.{ParseKind}
use Rattle.dcc_parse.specs.declared.fault.ParseFault.{ParseFault}
use Rattle.dcc_parse.specs.declared.fault.ParseFault.TheVariants.{At, Memory}

-- The text is refused for what offends in it first, in the given line. No tree stands for it, or it is too long.
pub record IsRefusal (text : List ℕ) (line : ℕ) (kind : ParseKind) : Type 0 where
  pub refused : IsRefused text line (kind_of kind)
  pub no_tree : length text ≤ 67108864 → (tree : Tree) → ¬ StandsFor text tree

-- the fault says why the text is refused; want of memory has no cause
abbrev pub IsFaultOf : List ℕ → ParseFault → Type 0
IsFaultOf text (At line kind) = IsRefusal text line kind
IsFaultOf text Memory = Unit {0}

-- Nothing offends in the pieces, and they are read as the tree.
pub record IsTreeOf (pieces : List Piece) (tree : Tree) : Type 0 where
  pub clean : offences_of pieces ≡ []
  pub same : plain_text (reading_of pieces).value ≡ tree

-- Nothing offends in the pieces, and they are read to their end as the text.
pub record IsWhole (pieces : List Piece) (text : PartialText) : Type 0 where
  pub complete : is_complete_text text ≡ true
  pub none : text_offences text [] ≡ []
  pub tree : IsTreeOf pieces (plain_text text)
