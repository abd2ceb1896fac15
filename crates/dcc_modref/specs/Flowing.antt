-- How states flow from block to block. No public contract rests on it.
use Rattle.std.specs.Prelude.{◌≡◌, ℕ, ◌<◌, Bool, true, false, ◌&&◌, ◌||◌, List, [], ◌∷◌, get_or, slice_set, Option}
use Rattle.std.specs.Prelude.{Some, None, option_map}
use Rattle.dcc_ir.specs.declared.syntax.Loc.{Loc}
use Rattle.dcc_ir.specs.Tree.{Graph}
use Rattle.dcc_ir.specs.Live.{block_in}
use Rattle.dcc_sums.specs.Points.{Ends, is_return}
use Rattle.dcc_modref.specs.States.{State, joined, is_news, after_all}
use Rattle.dcc_modref.specs.Tables.{States, HasFlowed, words_of, left_in}

-- a trail with that state comes to a block
abbrev pub met : Option State → State → Option State
met None s = Some s
met (Some known) s = Some (joined known s)

-- which is new there
abbrev pub is_new : Option State → State → Bool
is_new None s = true
is_new (Some known) s = is_news known s

abbrev pub flowed : States → ℕ → State → States
flowed begins block s = slice_set begins block (met (get_or begins block None) s)

-- the state flows to each of these blocks
abbrev pub all_flowed : States → State → List ℕ → States
all_flowed begins s [] = begins
all_flowed begins s (block ∷ blocks) = all_flowed (flowed begins block s) s blocks

abbrev pub any_new : States → State → List ℕ → Bool
any_new begins s [] = false
any_new begins s (block ∷ blocks) = is_new (get_or begins block None) s || any_new (flowed begins block s) s blocks

-- the block is reached and some trail has lost the location there
abbrev pub is_lost : Option State → Bool
is_lost (Some s) = s.lost
is_lost None = false

module _ (changed : ℕ → Bool) (graph : Graph) (location : Loc) where
  -- the states after a turn of these blocks, whose answer was whether something is new
  pub record HasTurned (before after : States) (new : Bool) (blocks : ℕ → Type 0) : Type 0 where
    pub less : new ≡ true → left_in (words_of location graph) after < left_in (words_of location graph) before
    pub same : new ≡ false → after ≡ before
    pub flowed : new ≡ false → (block : ℕ) → blocks block → HasFlowed changed graph location before block

  -- Where the graph loses the location.

  -- the block is reached, ends in a return and has lost the location there
  abbrev pub loses_at : States → ℕ → Bool
  loses_at begins block =
      is_return (Ends (block_in graph block).exit)
      && is_lost (option_map (after_all changed graph.pushed location (block_in graph block).stmts)
      (get_or begins block None))

  -- the answer is whether one of so many blocks does
  pub record Answers (begins : States) (answer : Bool) (count : ℕ) : Type 0 where
    pub some : answer ≡ true → (block : ℕ) × (loses_at begins block ≡ true)
    pub none : answer ≡ false → (block : ℕ) → block < count → loses_at begins block ≡ false
