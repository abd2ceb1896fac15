use Rattle.std.proofs.Common.{rules}
use Rattle.dcc_flow.specs.Marks.{members}
use Rattle.dcc_webs.proofs.NameLaws.{names_none}
use Rattle.dcc_webs.proofs.names.Names.clear.Goals as goal

pub returns : goal.returns
returns c = names_none c.args.self.now.numbers.items c.clear-2.new.self.items (members c.clear.new.self) (search rules) c.clear.ensures
