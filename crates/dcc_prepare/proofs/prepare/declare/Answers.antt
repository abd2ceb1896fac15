use Rattle.std.proofs.Common.{◌+◌, ◌<◌, ◌++◌, [], ◌∷◌, length, drop, map, refl, sym, ap, ◌∙◌, append_assoc, arith}
use Rattle.std.proofs.lemmas.List.{append-nil, map-append}
use Rattle.dcc_value.specs.Evaluation.{declared_of}
use Rattle.dcc_prepare.specs.Prepared.{names_declared}
use Rattle.dcc_prepare.proofs.FrameLaws.{past_min}
use Rattle.dcc_prepare.proofs.PrepareLaws.{declare-step, declare-end}
use Rattle.dcc_prepare.proofs.prepare.declare.Goals as goal

pub loop-i-preserved : goal.loop-i-preserved
loop-i-preserved c =
    let vs = c.args.declared.now in
    let xs = c.args.variables.now in
    let i = c.loop-i.i in
    let had = map declared_of c.loop-i.names.items in
    let rest = names_declared (drop (i + 1) vs) (drop (i + 1) xs) in
    let within : i < length vs = omega (arith, c.min-i-end.ensures) in
    let inside : i < length xs = omega (arith, c.min-i-end.ensures) in
    ap (λ l. l ++ rest) (ap (map declared_of) c.in_ok-push.ensures.items ∙ map-append declared_of c.loop-i.names.items (c.in_ok-name.name ∷ []))
    ∙ append_assoc had (declared_of c.in_ok-name.name ∷ []) rest
    ∙ ap (λ d. had ++ d ∷ rest) c.in_ok-name.ensures
    ∙ ap (λ l. had ++ l) (sym (declare-step vs xs i c.index-declared-i.result c.index-declared-i.result _ _ within inside c.index-declared-i.is refl))
    ∙ c.loop-i.invariant

pub returns : goal.returns
returns c =
    let vs = c.args.declared.now in
    let xs = c.args.variables.now in
    let end = past_min c.loop-i.i (length vs) (length xs) (omega arith) in
    sym (append-nil (map declared_of c.loop-i.names.items))
    ∙ ap (λ l. map declared_of c.loop-i.names.items ++ l) (sym (declare-end vs xs c.loop-i.i end))
    ∙ c.loop-i.invariant
