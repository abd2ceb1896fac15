use Rattle.dcc_num.specs.declared.FlagName.TheVariants.{Cf, Zf, Sf, Of}
use Rattle.dcc_flags.proofs.kept.kept_flags.Goals as goal

pub returns : goal.returns
returns c Cf = c.in_ok-is_kept.ensures
returns c Zf = c.in_ok-is_kept-2.ensures
returns c Sf = c.in_ok-is_kept-3.ensures
returns c Of = c.in_ok-is_kept-4.ensures
