use Rattle.std.proofs.Common.{rules}
use Rattle.dcc_flow.specs.Marks.{members}
use Rattle.dcc_webs.proofs.NameLaws.{names_none}
use Rattle.dcc_webs.proofs.names.Names.new.Goals as goal

pub returns : goal.returns
returns c = names_none c.new-2.result.items c.new-3.result.items (members c.new.result) (search rules) c.new.ensures
