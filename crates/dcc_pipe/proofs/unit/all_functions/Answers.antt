use Rattle.std.proofs.Common.{◌≡◌, ◌∷◌, rules, subst}
use Rattle.std.specs.Prelude.{codes, string_bytes}
use Rattle.dcc_ir.specs.Views.{graph_of}
use Rattle.dcc_c.specs.Views.{function_of}
use Rattle.dcc_pipe.specs.WrittenFunctions.{IsFunctionBy}
use Rattle.dcc_pipe.proofs.UnitLaws.{first-formed, others-formed, all-few, functions-after}
use Rattle.dcc_pipe.proofs.unit.all_functions.Goals as goal

pub function-requires : goal.function-requires
function-requires c =
    let is : c.args.graphs.now ≡ c.in-Some.first.now ∷ c.in-Some.others.now = search rules in
    first-formed c.args.graphs.now c.in-Some.first.now c.in-Some.others.now is c.requires

pub other_functions-requires : goal.other_functions-requires
other_functions-requires c =
    let is : c.args.graphs.now ≡ c.in-Some.first.now ∷ c.in-Some.others.now = search rules in
    others-formed c.args.graphs.now c.in-Some.first.now c.in-Some.others.now is c.requires

pub returns-clause-few : goal.returns-clause-few
returns-clause-few c =
    let is : c.args.graphs.now ≡ c.in-Some.first.now ∷ c.in-Some.others.now = search rules in
    all-few c.args.graphs.now c.in-Some.first.now c.in-Some.others.now is c.in_ok-function.ensures.few
    c.in_ok-rest.ensures.few

pub returns-clause-functions : goal.returns-clause-functions
returns-clause-functions c =
    let first = c.in-Some.first.now in
    let f = c.in_ok-function.field-0 in
    let is : c.args.graphs.now ≡ first ∷ c.in-Some.others.now = search rules in
    let named : string_bytes c.in_ok-start.start ≡ codes "start" = search rules in
    let joined : c.append.new.self.items ≡ f ∷ c.in_ok-rest.rest.items = search rules in
    functions-after c.args.graphs.now first c.in-Some.others.now f c.in_ok-rest.rest.items c.append.new.self.items is
    (subst (λ word. IsFunctionBy word (graph_of first) (function_of f)) named c.in_ok-function.ensures.function)
    c.in_ok-rest.ensures.functions joined
