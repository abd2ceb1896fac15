-- All that is known of the program that `lift` gives, from the laws of translated programs.
use Rattle.dcc_machine.specs.declared.image.Image.{Image}
use Rattle.dcc_prog.specs.declared.frame.Program.{Program as Analysed}
use Rattle.dcc_ir.specs.Tree.{Program}
use Rattle.dcc_lift.specs.Lifted.{IsLifted, IsLiftOf}
use Rattle.dcc_lift.specs.Translated.{IsTranslated}
use Rattle.dcc_lift.proofs.Lifting.{lifting}
use Rattle.dcc_lift.proofs.RunLaws.{shadows}
use Rattle.dcc_lift.proofs.KeptPaces.{paced}
use Rattle.dcc_lift.proofs.FormProgram.{well-formed, shallow}
use Rattle.dcc_lift.proofs.FormDrawn.{have-frames}
use Rattle.dcc_lift.proofs.FormPassing.{passes-all}
use Rattle.dcc_lift.proofs.FormFlagReads.{flags-read}
use Rattle.dcc_lift.proofs.FormHasBlocks.{have-blocks}
use Rattle.dcc_lift.proofs.FlagGraphs.{translation-few}
use Rattle.dcc_lift.proofs.NeverEnds.{never-stuck}

module _ (image : Image) (program : Analysed) (p : Program) (of : IsTranslated image program p) where
  lifted : IsLifted image program p
  lifted = record {
    well_formed = well-formed image program p of;
    graphs = (lifting image program p of.of_file of.translation).graphs;
    frames = have-frames image program p of;
    passes = passes-all image program p of;
    image_is = of.translation.image_is;
    lo = of.translation.lo_is;
    hi = of.translation.hi_is;
    shallow = shallow image program p of;
    flag_reads = flags-read image program p of;
    flags = translation-few image program p of;
    runs = shadows image program p of;
    pace = paced image program p of;
    never_stuck = never-stuck image program p (well-formed image program p of) of;
    blocks = have-blocks image program p of;
  }

  pub lift-of : IsLiftOf image program p
  lift-of = record { translation = of.translation; lifted = lifted }
