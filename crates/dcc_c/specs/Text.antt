-- A text stands for a tree.
use Rattle.std.specs.Prelude.{ℕ, ◌≤◌, true, List}
use Rattle.dcc_c.specs.Lexing.{Placed, Lexes}
use Rattle.dcc_c.specs.Tree.{Tree}
use Rattle.dcc_c.specs.Grammar.{IsUnit}
use Rattle.dcc_c.specs.Rules.{most_open, IsAllowed}

-- The bytes are tokens of the grammar that keep to the rules on names, types, places and depth.
pub record StandsFor (text : List ℕ) (tree : Tree) : Type 0 where
  pub tokens : List Placed
  pub lexed : Lexes true 1 text tokens
  pub formed : IsUnit 200 tokens tree
  pub shallow : most_open 0 tokens ≤ 200
  pub allowed : IsAllowed tree
