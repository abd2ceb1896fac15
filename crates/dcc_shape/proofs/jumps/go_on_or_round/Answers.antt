use Rattle.std.proofs.Common.{◌≡◌, ℕ, ◌+◌, ◌-◌, ◌<◌, List, ◌∷◌, map, drop, length, get_or, refl, sym, ap, subst, ◌∙◌, arith}
use Rattle.std.proofs.lemmas.Bool.{and_from, and_left}
use Rattle.std.proofs.lemmas.List.{at_drop_more}
use Rattle.dcc_c.specs.Views.{stmt_of}
use Rattle.dcc_shape.specs.declared.seen.Seen.{Seen as SeenOf}
use Rattle.dcc_shape.specs.Seen.{Seen, seen_in, may_go, may_all_go, GoesToOffset, AreLabels}
use Rattle.dcc_shape.proofs.SeenLaws.{fails-later}
use Rattle.dcc_shape.proofs.jumps.go_on_or_round.Goals as goal

-- the statement at the place, and those after it
parts : (list : List SeenOf) (i : ℕ) (item : SeenOf) → i - 1 < length list → i - 1 + 1 ≡ i → item ≡ get_or list (i - 1) item →
    map seen_in (drop (i - 1) list) ≡ seen_in item ∷ map seen_in (drop i list)
parts list i item within next is =
    at_drop_more (map seen_in) list (i - 1) item within
    ∙ ap (λ x. seen_in x ∷ map seen_in (drop (i - 1 + 1) list)) (sym is)
    ∙ ap (λ k. seen_in item ∷ map seen_in (drop k list)) next

pub may_go-requires : goal.may_go-requires
may_go-requires c =
    let item = c.index-list-i.result in
    subst (λ (s : SeenOf). GoesToOffset (stmt_of s.stmt.now)) (sym c.index-list-i.is)
    (c.requires (c.loop-i.i - 1) item (omega (arith, c.loop-i-test.true, c.loop-i.invariant.within)))

pub loop-i-preserved : goal.loop-i-preserved
loop-i-preserved c =
    let list = c.args.list.now in
    let i = c.loop-i.i in
    let item = c.index-list-i.result in
    let rest : List Seen = map seen_in (drop i list) in
    let within : i - 1 < length list = omega (arith, c.loop-i-test.true, c.loop-i.invariant.within) in
    let all = parts list i item within (omega (arith, c.loop-i-test.true)) c.index-list-i.is in
    record {
      within = omega (arith, within);
      go = ap may_all_go all
          ∙ and_from (may_go rest (seen_in item)) (may_all_go rest) (sym (c.may_go.ensures rest c.loop-i.invariant.labels) ∙ c.if-not-may_go.false) c.loop-i.invariant.go;
      labels = subst (λ l. AreLabels c.note_label.new.later l) (sym all)
          (c.in_ok-note_label.ensures (seen_in item) rest refl c.loop-i.invariant.labels);
    }

pub returns-then-not-may_go : goal.returns-then-not-may_go
returns-then-not-may_go c =
    let list = c.args.list.now in
    let i = c.loop-i.i in
    let item = c.index-list-i.result in
    let rest : List Seen = map seen_in (drop i list) in
    let within : i - 1 < length list = omega (arith, c.loop-i-test.true, c.loop-i.invariant.within) in
    let all = parts list i item within (omega (arith, c.loop-i-test.true)) c.index-list-i.is in
    sym (fails-later (i - 1) list (ap may_all_go all
    ∙ and_left (may_go rest (seen_in item)) (may_all_go rest) (sym (c.may_go.ensures rest c.loop-i.invariant.labels) ∙ c.if-not-may_go.true)))
