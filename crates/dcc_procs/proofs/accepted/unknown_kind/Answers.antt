use Rattle.std.proofs.Common.{sym, subst}
use Rattle.dcc_prog.specs.Construct.{IsAtNode}
use Rattle.dcc_procs.proofs.Causes.{kind-indirect, kind-none}
use Rattle.dcc_procs.proofs.accepted.unknown_kind.Goals as goal

pub returns-in-Some : goal.returns-in-Some
returns-in-Some c entry =
    let image = c.args.image.now in
    let layout = c.args.layout.now in
    subst (IsAtNode image layout entry c.args.at) (sym c.indirect_kind.ensures)
    (kind-indirect image layout entry c.args.at c.in-Some.reg c.requires.none c.in-Some.ensures.some)

pub returns-in-None : goal.returns-in-None
returns-in-None c entry =
    kind-none c.args.image.now c.args.layout.now entry c.args.at c.requires.none
    (c.indirect_at.ensures.none c.in-None.is)
