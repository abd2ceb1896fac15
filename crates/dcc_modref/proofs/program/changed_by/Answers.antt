use Rattle.std.proofs.Common.{refl, sym, subst, arith}
use Rattle.std.proofs.lemmas.List.{length-map}
use Rattle.dcc_ir.specs.Views.{graph_of, program_of}
use Rattle.dcc_modref.specs.Programs.{IsSettled}
use Rattle.dcc_modref.proofs.ProgramLaws.{first_telling, all_told}
use Rattle.dcc_modref.proofs.program.changed_by.Goals as goal

pub spread-requires-clause-telling : goal.spread-requires-clause-telling
spread-requires-clause-telling c = first_telling (program_of c.args.p.now) c.args.location c.requires.program c.requires.passes c.in_ok-changed.changed.items 65536 (c.in_ok-changed.ensures.items_if_clones_equal (λ y e. e)) refl

pub returns : goal.returns
returns c =
    let p = program_of c.args.p.now in
    let l = c.args.location in
    let looked = c.in_ok-look_round.ensures.looked in
    let size = length-map c.args.p.now.graphs.items graph_of in
    all_told p l c.requires.program c.requires.passes c.look_round.new.changed.items c.in_ok-look_round.ensures.telling
    (λ k below. subst (λ s. IsSettled p l s k) (sym (looked.same c.if-branch.false)) (looked.settled c.if-branch.false k (omega (arith, below, size))))
