use Rattle.std.proofs.Common.{subst}
use Rattle.std.proofs.lemmas.Result.{IfOk-weaker}
use Rattle.dcc_flow.specs.Marks.{members}
use Rattle.dcc_live.specs.First.{TellsOf}
use Rattle.dcc_live.proofs.RowLaws.{tells_listed}
use Rattle.dcc_live.proofs.places.bits_of.Goals as goal

pub returns-clause-tells : goal.returns-clause-tells
returns-clause-tells g c =
    IfOk-weaker c.bits_at.result _ _
    (λ bits told.
    tells_listed c.args.places.now c.in_ok-listed.listed.items (members c.args.marks.now) bits c.in_ok-listed.ensures
    (subst (λ l. TellsOf c.args.places.now l bits) c.as_slice.ensures.value told))
    c.bits_at.ensures.tells
