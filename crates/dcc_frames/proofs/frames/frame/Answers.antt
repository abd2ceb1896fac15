use Rattle.std.proofs.Common.{◌≡◌, ℕ, Option, None, All, nat_eq, refl, ap, ◌∙◌, subst, rules}
use Rattle.indexmap.specs.IndexMap.{get}
use Rattle.dcc_frames.specs.declared.bytes.Piece.{Piece}
use Rattle.dcc_frames.specs.CellLists.{cells_from, long_user, IsOverfull, IsToldOfExtents}
use Rattle.dcc_frames.specs.Starts.{starts_of, IsNear, IsLocalBy, IsArgumentBy}
use Rattle.dcc_prog.specs.declared.refusal.Refusal.TheVariants.{Memory}
use Rattle.dcc_prog.specs.Refused.{no_memory}
use Rattle.dcc_frames.specs.Ready.{IsFrameRefusal}
use Rattle.dcc_frames.proofs.Answered.{accesses-refused, calls-refused, are-sorted, extents-refused, cells-refused, frame-told}
use Rattle.dcc_frames.proofs.frames.frame.Goals as goal

pub returns-in_err-check_accesses-clause-refused : goal.returns-in_err-check_accesses-clause-refused
returns-in_err-check_accesses-clause-refused c =
    let counts : ℕ → Option ℕ = λ entry. get nat_eq c.args.counts.now entry in
    let refusal = c.in_err-check_accesses.field-0.0 in
    let named : IsFrameRefusal c.args.body.now counts c.args.delta refusal = λ image layout ready.
    accesses-refused image layout c.args.body.now counts c.args.delta ready c.lacks_addresses-lacks.result
    c.lacks_addresses-lacks.ensures refusal c.in_err-check_accesses.ensures.refused in
    search rules

pub returns-in_err-check_calls-clause-refused : goal.returns-in_err-check_calls-clause-refused
returns-in_err-check_calls-clause-refused c =
    let counts : ℕ → Option ℕ = λ entry. get nat_eq c.args.counts.now entry in
    let refusal = c.in_err-check_calls.field-0.0 in
    let named : IsFrameRefusal c.args.body.now counts c.args.delta refusal = λ image layout ready.
    calls-refused image layout c.args.body.now counts c.args.delta ready c.lacks_addresses-lacks.result
    c.lacks_addresses-lacks.ensures refusal c.in_err-check_calls.ensures.refused in
    search rules

pub returns-in_err-pieces-clause-refused : goal.returns-in_err-pieces-clause-refused
returns-in_err-pieces-clause-refused c =
    let counts : ℕ → Option ℕ = λ entry. get nat_eq c.args.counts.now entry in
    let named : IsFrameRefusal c.args.body.now counts c.args.delta Memory = λ image layout ready. no_memory in
    search rules

pub returns-in_err-sort-clause-refused : goal.returns-in_err-sort-clause-refused
returns-in_err-sort-clause-refused c =
    let counts : ℕ → Option ℕ = λ entry. get nat_eq c.args.counts.now entry in
    let named : IsFrameRefusal c.args.body.now counts c.args.delta Memory = λ image layout ready. no_memory in
    search rules

pub returns-in_err-extents-clause-refused : goal.returns-in_err-extents-clause-refused
returns-in_err-extents-clause-refused c =
    let counts : ℕ → Option ℕ = λ entry. get nat_eq c.args.counts.now entry in
    let named : IsFrameRefusal c.args.body.now counts c.args.delta Memory = λ image layout ready. no_memory in
    search rules

pub returns-in_err-starts-clause-refused : goal.returns-in_err-starts-clause-refused
returns-in_err-starts-clause-refused c =
    let counts : ℕ → Option ℕ = λ entry. get nat_eq c.args.counts.now entry in
    let named : IsFrameRefusal c.args.body.now counts c.args.delta Memory = λ image layout ready. no_memory in
    search rules

pub returns-in_err-check_extents-clause-refused : goal.returns-in_err-check_extents-clause-refused
returns-in_err-check_extents-clause-refused c =
    let s =
    are-sorted c.args.body.now (get nat_eq c.args.counts.now) c.lacks_addresses-lacks.result _
    c.sort.new.pieces.items c.in_ok-check_accesses.ensures.allowed c.in_ok-check_calls.ensures.enough
    c.in_ok-pieces.ensures c.in_ok-sort.ensures.permutation c.in_ok-sort.ensures.order in
    let refusal = c.in_err-check_extents.field-0.0 in
    let named : IsFrameRefusal c.args.body.now (get nat_eq c.args.counts.now) c.args.delta refusal = λ image layout ready.
    extents-refused image layout c.args.body.now (get nat_eq c.args.counts.now) c.args.delta ready
    c.lacks_addresses-lacks.result c.lacks_addresses-lacks.ensures c.sort.new.pieces.items s c.deref.result.now
    c.in_ok-extents.extents.items c.deref.ensures.value c.in_ok-extents.ensures
    refusal
    (subst (λ l. IsToldOfExtents c.lacks_addresses-lacks.result l refusal) c.deref-2.ensures.value
    c.in_err-check_extents.ensures.refused) in
    search rules

pub returns-in_err-cells_of-clause-refused : goal.returns-in_err-cells_of-clause-refused
returns-in_err-cells_of-clause-refused c =
    let s =
    are-sorted c.args.body.now (get nat_eq c.args.counts.now) c.lacks_addresses-lacks.result _
    c.sort.new.pieces.items c.in_ok-check_accesses.ensures.allowed c.in_ok-check_calls.ensures.enough
    c.in_ok-pieces.ensures c.in_ok-sort.ensures.permutation c.in_ok-sort.ensures.order in
    let refusal = c.in_err-cells_of.field-0.0 in
    let named : IsFrameRefusal c.args.body.now (get nat_eq c.args.counts.now) c.args.delta refusal = λ image layout ready.
    cells-refused image layout c.args.body.now (get nat_eq c.args.counts.now) c.args.delta ready
    c.lacks_addresses-lacks.result c.lacks_addresses-lacks.ensures c.sort.new.pieces.items s c.deref.result.now
    c.in_ok-extents.extents.items c.deref.ensures.value c.in_ok-extents.ensures
    refusal
    (subst (λ l. IsOverfull (cells_from l) refusal) c.deref-5.ensures.value c.in_err-cells_of.ensures.refused) in
    search rules

pub returns-clause-frame : goal.returns-clause-frame
returns-clause-frame c = λ image layout ready.
    let s =
    are-sorted c.args.body.now (get nat_eq c.args.counts.now) c.lacks_addresses-lacks.result _
    c.sort.new.pieces.items c.in_ok-check_accesses.ensures.allowed c.in_ok-check_calls.ensures.enough
    c.in_ok-pieces.ensures c.in_ok-sort.ensures.permutation c.in_ok-sort.ensures.order in
    let body = c.args.body.now in
    let extents = c.in_ok-extents.extents.items in
    let none =
    subst (All (λ (extent : Piece). long_user c.lacks_addresses-lacks.result extent ≡ None)) c.deref-2.ensures.value
    c.in_ok-check_extents.ensures.none in
    let starts : c.deref-6.result.now ≡ starts_of body.steps.items extents =
    c.deref-6.ensures.value ∙ c.in_ok-starts.ensures
    ∙ ap (λ l. starts_of l c.deref-4.result.now) c.deref-3.ensures.value
    ∙ ap (starts_of body.steps.items) c.deref-4.ensures.value in
    frame-told image layout c.args.body.now (get nat_eq c.args.counts.now) c.args.delta ready
    c.lacks_addresses-lacks.result c.lacks_addresses-lacks.ensures c.sort.new.pieces.items s c.deref.result.now
    c.in_ok-extents.extents.items c.deref.ensures.value c.in_ok-extents.ensures none
    (record {
      framed = body.framed;
      args = body.args;
      cells = c.in_ok-cells_of.field-0;
      exposed = c.exposed.result;
    }) refl refl
    (c.in_ok-cells_of.ensures.cells ∙ ap cells_from c.deref-5.ensures.value) c.in_ok-cells_of.ensures.few
    (subst (λ l. All IsNear l → IsLocalBy l c.exposed.result.local) starts c.exposed.ensures.local)
    (subst (λ l. All IsNear l → IsArgumentBy l c.exposed.result.arg) starts c.exposed.ensures.argument)
