use Rattle.std.proofs.Common.{◌≡◌, [], ◌∷◌, ◌++◌, length, refl, ap, ◌∙◌, arith}
use Rattle.std.specs.Vec.{with_items}
use Rattle.std.proofs.lemmas.List.{with_items_is}
use Rattle.dcc_crun.specs.declared.call.Call.{Call}
use Rattle.dcc_crun.specs.declared.call.Waiting.{Waiting}
use Rattle.dcc_prepare.specs.Frames.{arguments_put}
use Rattle.dcc_crun.proofs.EnterLaws.{entered}
use Rattle.dcc_crun.proofs.moment.Moment.enter.Goals as goal

pub returns-in-Err-clause-same : goal.returns-in-Err-clause-same
returns-in-Err-clause-same c =
    let at = c.args.self.now.call.at in
    record {
      call = ap (λ (w : Waiting). record w.call { at = at }) c.in-Err.ensures.value_returned ∙ ap (λ (k : Call). record k { at = at }) c.replace.ensures.value;
      waiting = c.in-Err.ensures.items;
      fill = refl;
      memory = refl;
      end = refl;
    }

pub returns-clause-state : goal.returns-clause-state
returns-clause-state c tree points s f state goes here is lands same =
    let now = record c.args.self.now { call = c.replace.new.dest; waiting = c.push.new.self; memory = with_items c.args.self.now.memory c.put_arguments.new.memory } in
    let long : length c.put_arguments.new.memory ≡ c.args.self.now.memory.len =
    omega (arith, c.put_arguments.auto.memory, c.deref_mut.ensures.len, ap length c.deref_mut.ensures.value, c.args.self.now.memory.ok.0) in
    entered tree points c.args.self.now now s c.args.number c.args.row.now.next c.base_below-base.result c.args.row.now.depth f c.args.procedure.now c.args.target c.args.arguments.now
    (record {
      procedure_is = ap (λ (k : Call). k.procedure) c.replace.ensures.after;
      at = ap (λ (k : Call). k.at) c.replace.ensures.after;
      base_is = ap (λ (k : Call). k.base) c.replace.ensures.after;
      variables = ap (λ (k : Call). k.variables.items) c.replace.ensures.after ∙ c.in_ok-variables.ensures;
      waiting = c.in_default.ensures.items ∙ ap (λ (k : Call). c.args.self.now.waiting.items ++ record { call = k; target = c.args.target } ∷ []) c.replace.ensures.value;
      memory = with_items_is c.args.self.now.memory c.put_arguments.new.memory long ∙ c.put_arguments.ensures
          ∙ ap (arguments_put c.base_below-base.result c.args.procedure.now.params.items c.args.arguments.now) c.deref_mut.ensures.value;
      fill = refl;
      end = refl;
    }) c.base_below-base.ensures state goes here is lands same
