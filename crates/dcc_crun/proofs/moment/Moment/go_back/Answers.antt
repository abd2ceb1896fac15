use Rattle.std.proofs.Common.{refl}
use Rattle.std.specs.Prelude.{option_map}
use Rattle.dcc_value.specs.Evaluation.{typed}
use Rattle.dcc_crun.proofs.StepLaws.{back_made}
use Rattle.dcc_crun.proofs.moment.Moment.go_back.Goals as goal

pub returns : goal.returns
returns c tree points s line state =
    let w = c.in-Some.waiting in
    back_made tree points c.args.self.now (record c.args.self.now { call = w.call; waiting = c.pop.new.self }) c.take_result.new.self s w (option_map typed c.args.v) line
    c.take_result.result s.waiting state.waiting state c.in-Some.ensures.items refl refl refl refl
    (λ t there lands. c.take_result.ensures.state tree points t line there lands)
    c.take_result.ensures.at
