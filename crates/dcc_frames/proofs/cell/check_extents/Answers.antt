use Rattle.std.proofs.Common.{◌≡◌, None, All, sym, ◌∙◌, subst}
use Rattle.std.proofs.lemmas.List.{take_all}
use Rattle.std.proofs.lemmas.List.Elements.{All-more, Contains-get_or}
use Rattle.dcc_frames.specs.declared.bytes.Piece.{Piece}
use Rattle.dcc_frames.specs.CellLists.{long_user, told}
use Rattle.dcc_frames.proofs.cell.check_extents.Goals as goal

pub returns-in-Some-clause-refused : goal.returns-in-Some-clause-refused
returns-in-Some-clause-refused c =
    told (Contains-get_or c.args.extents.now c.loop-extent.extent-index _ c.loop-extent-test.true)
    (sym c.long_user.ensures ∙ c.in-Some.is)

pub loop-extent-preserved : goal.loop-extent-preserved
loop-extent-preserved c =
    All-more (λ (extent : Piece). long_user c.args.lacks_addresses extent
    ≡ None) c.args.extents.now c.loop-extent.extent-index _
    c.loop-extent-test.true c.loop-extent.invariant (sym c.long_user.ensures ∙ c.in_default.is)

pub returns-clause-none : goal.returns-clause-none
returns-clause-none c =
    subst (All (λ (extent : Piece). long_user c.args.lacks_addresses extent ≡ None))
    (take_all c.loop-extent.extent-index c.args.extents.now c.loop-extent-test.false)
    c.loop-extent.invariant
