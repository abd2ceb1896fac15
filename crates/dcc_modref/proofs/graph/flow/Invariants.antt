use Rattle.std.proofs.Common.{◌≡◌, ◌||◌, drop, length}
use Rattle.dcc_modref.specs.States.{state_of}
use Rattle.dcc_modref.specs.Tables.{states_of}
use Rattle.dcc_modref.specs.Flowing.{all_flowed, any_new}
use Rattle.dcc_modref.proofs.graph.flow.Given as goal

abbrev pub invariant-loop-block : goal.invariant-loop-block
invariant-loop-block l = record {
  len : length l.begins.items ≡ length l.initial.begins.items;
  begins : all_flowed (states_of l.begins.items) (state_of l.state) (drop l.block-index l.blocks) ≡ all_flowed (states_of l.initial.begins.items) (state_of l.state) l.blocks;
  news : (l.new || any_new (states_of l.begins.items) (state_of l.state) (drop l.block-index l.blocks)) ≡ any_new (states_of l.initial.begins.items) (state_of l.state) l.blocks;
}
