-- The names of a text's global variables.
use Rattle.std.specs.Prelude.{◌≡◌, ◌==◌, Bool, true, false, ◌&&◌, ◌||◌, List, [], ◌∷◌, map}
use Rattle.std.specs.List.{list_all}
use Rattle.dcc_c.specs.Rules.{all_differ}
use Rattle.dcc_c.specs.Tree.{Word, Global}

-- the names begin with `g_` or `d_`, as those of functions, parameters and other variables don't
abbrev pub is_data_name : Word → Bool
is_data_name (a ∷ b ∷ word) = ((a == 103) || (a == 100)) && (b == 95)
is_data_name word = false

-- The global variables have names of their own.
pub record HaveNames (globals : List Global) : Type 0 where
  pub begin : list_all is_data_name (map (λ g. g.name) globals) ≡ true
  pub differ : all_differ (map (λ g. g.name) globals) ≡ true
