use Rattle.dcc_gen.proofs.OneFile.{one-file}
use Rattle.dcc_gen.proofs.laws.a_seed_and_a_size_have_one_file.Goals as goal

pub returns : goal.returns
returns c = one-file
