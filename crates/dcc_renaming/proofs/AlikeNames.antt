-- New names that keep apart all words that differ.
use Rattle.std.specs.Prelude.{◌≡◌, List, map, codes}
use Rattle.dcc_c.specs.Dos.{dos_of}
use Rattle.dcc_c.specs.Token.{same_bytes}
use Rattle.dcc_c.specs.Tree.{Word, Global, Function, Tree}
use Rattle.dcc_renaming.specs.Renamed.{renamed_global, with_names}

-- New names: of global variables and functions, and of the variables that each function, by its old name, uses. Names
-- that differ stay different, and names of DOS calls and `start` stay.
pub record AreNames (globals : List Global) (outer : Word → Word) (own : Word → Word → Word) : Type 0 where
  pub outer_same : (a b : Word) → same_bytes (outer a) (outer b) ≡ same_bytes a b
  pub own_same : (function a b : Word) → same_bytes (own function a) (own function b) ≡ same_bytes a b
  pub globals_same : (function : Word) → map (renamed_global (own function)) globals ≡ map (renamed_global outer) globals
  pub dos : (word : Word) → dos_of (outer word) ≡ dos_of word
  pub start : (word : Word) → same_bytes (outer word) (codes "start") ≡ same_bytes word (codes "start")

-- the function and the tree with these names
abbrev pub new_function : (Word → Word) → (Word → Word → Word) → Function → Function
new_function outer own f = with_names (own f.name) outer f

abbrev pub new_tree : (Word → Word) → (Word → Word → Word) → Tree → Tree
new_tree outer own tree = record tree {
  globals = map (renamed_global outer) tree.globals;
  functions = map (new_function outer own) tree.functions;
}
