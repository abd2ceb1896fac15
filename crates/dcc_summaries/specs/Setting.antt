-- What is known of a program before the search for what is wanted, as code keeps it.
use Rattle.std.specs.Prelude.{map}
use Rattle.dcc_ir.specs.Views.{program_of}
use Rattle.dcc_summaries.specs.declared.follow.Setting.{Setting as SettingOf}
use Rattle.dcc_summaries.specs.Ways.{lists_in}
use Rattle.dcc_summaries.specs.Follow.{Setting, changed_in}

abbrev pub setting_of : SettingOf → Setting
setting_of s = record {
  program = program_of s.program.now;
  changed = changed_in (map (λ v. v.items) s.changed.now);
  preds = lists_in s.ways.now.preds.items;
  calls = s.ways.now.calls.items;
  returns = s.ways.now.returns.items;
}
