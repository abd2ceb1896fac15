use Rattle.std.proofs.Common.{◌∙◌}
use Rattle.dcc_flow.proofs.PlaceLaws.{with_known, with_new}
use Rattle.dcc_flow.proofs.places.Places.add.Goals as goal

pub returns-in-Some : goal.returns-in-Some
returns-in-Some c = with_known c.args.self.now c.args.location c.in-Some.field-0 c.in-Some.ensures

pub returns-in_ok-push-in-None : goal.returns-in_ok-push-in-None
returns-in_ok-push-in-None c = c.in_ok-push-in-None.ensures ∙ with_new c.args.self.now c.args.location c.in-None.ensures
