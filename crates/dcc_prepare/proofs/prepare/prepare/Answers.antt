use Rattle.std.proofs.Common.{◌≡◌, ◌+◌, ◌<◌, ◌≤◌, ◌++◌, List, [], ◌∷◌, length, take, map, string_bytes, sym, ap, ◌∙◌, subst, arith}
use Rattle.std.proofs.lemmas.List.{take_more, take_all, map-append}
use Rattle.dcc_c.specs.declared.syntax.Func.{Func}
use Rattle.dcc_c.specs.declared.syntax.Global_.{Global_}
use Rattle.dcc_c.specs.Tree.{Function, Tree}
use Rattle.dcc_c.specs.Rules.{declared_global}
use Rattle.dcc_c.specs.Run.{global_binding}
use Rattle.dcc_c.specs.Views.{global_of, function_of, tree_of}
use Rattle.dcc_prepare.specs.declared.program.Procedure.{Procedure}
use Rattle.dcc_prepare.specs.declared.program.Program.{Program}
use Rattle.dcc_value.specs.Evaluation.{declared_of, bindings_named}
use Rattle.dcc_prepare.specs.Prepared.{HasPoints, ArePrepared}
use Rattle.dcc_prepare.proofs.ProgramLaws.{prepared_push, points_by, program_is}
use Rattle.dcc_value.specs.Places.{AreFirst}
use Rattle.dcc_prepare.proofs.PrepareLaws.{function_names-are}
use Rattle.dcc_prepare.proofs.prepare.prepare.Goals as goal

pub loop-function-preserved : goal.loop-function-preserved
loop-function-preserved c =
    let unit = c.args.unit.now in
    let tree : Tree = tree_of unit in
    let all = c.deref-function-items.result.now in
    let same : all ≡ unit.funcs.items = c.deref-function-items.ensures.value in
    let i = c.loop-function.function-index in
    let f = c.function-item.result in
    let p = c.in_ok-procedure.field-0 in
    let within : i < length all = omega arith in
    let more : map function_of (take (i + 1) unit.funcs.items) ≡ map function_of (take i unit.funcs.items) ++ function_of f ∷ [] =
    ap (λ (l : List Func). map function_of (take (i + 1) l)) (sym same)
    ∙ ap (map function_of) (take_more all i f within ∙ ap (λ x. take i all ++ x ∷ []) (sym c.function-item.is))
    ∙ map-append function_of (take i all) (f ∷ [])
    ∙ ap (λ (l : List Func). map function_of (take i l) ++ function_of f ∷ []) same in
    let one : HasPoints tree (function_of f) p =
    c.in_ok-procedure.ensures tree
    (ap (map declared_of) (c.in_ok-globals-2.ensures ∙ c.deref-2.ensures.value) ∙ c.in_ok-globals.ensures ∙ ap (λ (l : List Global_). map declared_global (map global_of l)) c.deref.ensures.value)
    (subst (AreFirst c.in_ok-functions.functions) (ap (map (λ (f : Func). string_bytes f.name)) c.deref-3.ensures.value ∙ function_names-are unit.funcs.items) c.in_ok-functions.ensures) in
    subst (λ (fs : List Function). ArePrepared tree fs c.push.new.self.items) (sym more)
    (subst (λ (ps : List Procedure). ArePrepared tree (map function_of (take i unit.funcs.items) ++ function_of f ∷ []) ps) (sym c.in_ok-push.ensures.items)
    (prepared_push tree (map function_of (take i unit.funcs.items)) c.loop-function.procedures.items (function_of f) p c.loop-function.invariant one))

pub returns : goal.returns
returns c =
    let unit = c.args.unit.now in
    let tree : Tree = tree_of unit in
    let i = c.loop-function.function-index in
    let procedures = c.loop-function.procedures in
    let program : Program = record { globals = c.in_ok-global_bindings.field-0; procedures = procedures } in
    let long = ap length c.deref-function-items.ensures.value in
    let end : length unit.funcs.items ≤ i = omega arith in
    let are : ArePrepared tree tree.functions procedures.items =
    subst (λ (fs : List Func). ArePrepared tree (map function_of fs) procedures.items) (take_all i unit.funcs.items end) c.loop-function.invariant in
    let globals : bindings_named (map declared_global tree.globals) program.globals.items ≡ map global_binding tree.globals =
    subst (λ (gs : List Global_). bindings_named (map declared_global (map global_of gs)) program.globals.items ≡ map global_binding (map global_of gs))
    c.deref-4.ensures.value c.in_ok-global_bindings.ensures in
    (points_by tree tree.functions procedures.items are, program_is tree program are globals)
