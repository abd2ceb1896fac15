use Rattle.dcc_c.proofs.NumberedLaws.{numbered_allowed}
use Rattle.dcc_named.proofs.Texts.{names-writable, names-respelled}
use Rattle.dcc_named.proofs.accesses_may_be_named.Goals as goal

pub returns : goal.returns
returns c = λ tree is. record {
  writable = names-writable tree is;
  respelled = names-respelled tree is (numbered_allowed tree is.allowed);
}
