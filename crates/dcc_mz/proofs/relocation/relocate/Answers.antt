use Rattle.std.proofs.Common.{List, length, ◌≡◌, ℕ, Option, Some, ap, ◌∙◌, subst, arith, below_more}
use Rattle.std.specs.Prelude.{MatchOption}
use Rattle.dcc_machine.specs.MzImage.{RelocationFits, relocated_place}
use Rattle.dcc_machine.proofs.MzImageLaws.{length-relocated_image, relocated_image-more}
use Rattle.dcc_mz.proofs.relocation.relocate.Goals as goal

-- the entry whose word has this place fits
placed : (file : List ℕ) (entry place : ℕ) (found : Option ℕ)
    → MatchOption found (¬ RelocationFits file entry) (λ at. RelocationFits file entry × (at ≡ relocated_place file entry))
    → found ≡ Some place → RelocationFits file entry × (place ≡ relocated_place file entry)
placed file entry place found told is =
    subst (λ o. MatchOption o (¬ RelocationFits file entry) (λ at. RelocationFits file entry × (at ≡ relocated_place file entry))) is told

pub place-requires-clause-image : goal.place-requires-clause-image
place-requires-clause-image c =
    ap length c.loop-entry.invariant.moved ∙ length-relocated_image c.args.file.now c.loop-entry.entry c.requires.good

pub move_word-requires : goal.move_word-requires
move_word-requires c =
    let fits = placed c.args.file.now c.loop-entry.entry c.in_ok-place.place c.place.result c.place.ensures (grind arith) in
    let len = ap length c.loop-entry.invariant.moved ∙ length-relocated_image c.args.file.now c.loop-entry.entry c.requires.good in
    omega (arith, fits.0.1, fits.1)

pub loop-entry-preserved : goal.loop-entry-preserved
loop-entry-preserved c =
    let place = c.in_ok-place.place in
    let fits = placed c.args.file.now c.loop-entry.entry place c.place.result c.place.ensures (grind arith) in
    record {
      moved = c.move_word.ensures ∙ relocated_image-more c.args.file.now c.loop-entry.entry c.loop-entry.image place c.loop-entry.invariant.moved fits.1;
      fit = below_more (RelocationFits c.args.file.now) c.loop-entry.entry c.loop-entry.invariant.fit fits.0;
    }
