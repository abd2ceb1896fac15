use Rattle.std.proofs.Common.{◌+◌, length, take, refl, sym, ap, ◌∙◌, subst, arith}
use Rattle.std.proofs.lemmas.List.{length-set, take_all}
use Rattle.std.proofs.lemmas.Option.{slice_get_within}
use Rattle.dcc_live.specs.First.{TellsOf}
use Rattle.dcc_live.proofs.RowLaws.{told_at, told_away}
use Rattle.dcc_live.proofs.places.bits_at.Goals.{in-Some, in_default}
use Rattle.dcc_live.proofs.places.bits_at.Goals as goal

pub set-requires : goal.set-requires
set-requires g c =
    let there = slice_get_within c.args.places.now c.in-Some.place _ ((c.in-Some.ensures c.in-Some.place).1 refl) in
    omega (arith, there, c.loop-location.invariant.len)

pub loop-location-preserved : goal.loop-location-preserved
loop-location-preserved g c =
    let places = c.args.places.now in
    let xs = c.args.locations.now in
    let i = c.loop-location.location-index in
    let was = c.loop-location.bits in
    let inv = c.loop-location.invariant in
    elim c.match-place_of.branch [
      | in-Some w ↦
          let is = w.bits-is ∙ w.set.ensures.bits in
          record {
            len = ap length is ∙ length-set was w.in-Some.place _ ∙ inv.len;
            tells = subst (TellsOf places (take (i + 1) xs)) (sym is)
                (told_at places xs i _ was w.in-Some.place c.loop-location-test.true inv.len w.in-Some.ensures inv.tells);
          }
      | in_default w ↦
          record {
            len = ap length w.bits-is ∙ inv.len;
            tells = subst (TellsOf places (take (i + 1) xs)) (sym w.bits-is)
                (told_away places xs i _ was c.loop-location-test.true w.in_default.ensures inv.tells);
          }
    ]

pub returns-clause-tells : goal.returns-clause-tells
returns-clause-tells g c =
    let xs = c.args.locations.now in
    subst (λ l. TellsOf c.args.places.now l c.loop-location.bits)
    (take_all c.loop-location.location-index xs (omega (arith, c.loop-location-test.false))) c.loop-location.invariant.tells
