-- Laws of texts and trees.
use Rattle.std.specs.Prelude.{◌≡◌, ◌≤◌, ◌⊎◌, ℕ, List, length}
use Rattle.dcc_c.specs.Kinds.{Kind}
use Rattle.dcc_c.specs.Numbered.{numbered}
use Rattle.dcc_c.specs.Refusals.{IsRefused}
use Rattle.dcc_c.specs.Text.{StandsFor}
use Rattle.dcc_c.specs.Tree.{Tree}
use Rattle.dcc_c.specs.Written.{written_form}

-- a text stands for one tree at most
abbrev pub TextsHaveOneTree : Type 0
TextsHaveOneTree = (text : List ℕ) (a b : Tree) → StandsFor text a → StandsFor text b → a ≡ b

-- What is printed of a tree that a text stands for is a text of the same tree, with its lines counted anew. The
-- printed text is refused for nothing, but for its length where it is too long.
pub record PrintedTextsStand : Type 0 where
  pub stands : (text : List ℕ) (tree : Tree) → StandsFor text tree → StandsFor (written_form tree) (numbered tree)
  pub not_refused : (text : List ℕ) (tree : Tree) → StandsFor text tree → length (written_form tree) ≤ 67108864 →
      (line : ℕ) (kind : Kind) → ¬ IsRefused (written_form tree) line kind

-- the text stands for some tree
pub record HasTree (text : List ℕ) : Type 0 where
  pub tree : Tree
  pub stands : StandsFor text tree

-- the text is refused, for what offends in some line
pub record HasRefusal (text : List ℕ) : Type 0 where
  pub line : ℕ
  pub kind : Kind
  pub refused : IsRefused text line kind

-- A text that is not too long stands for a tree or is refused, and not both; and it is refused in one line for one
-- kind.
pub record TextsStandOrAreRefused : Type 0 where
  pub one : (text : List ℕ) → length text ≤ 67108864 → HasTree text ⊎ HasRefusal text
  pub not_both : (text : List ℕ) → length text ≤ 67108864 → HasTree text → ¬ HasRefusal text
  pub first : (text : List ℕ) (line other : ℕ) (kind last : Kind) → IsRefused text line kind →
      IsRefused text other last → (line ≡ other) × (kind ≡ last)
