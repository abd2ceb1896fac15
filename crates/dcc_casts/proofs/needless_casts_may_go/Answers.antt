use Rattle.dcc_c.proofs.NumberedLaws.{numbered_allowed}
use Rattle.dcc_casts.proofs.Texts.{casts-writable, casts-respelled}
use Rattle.dcc_casts.proofs.needless_casts_may_go.Goals as goal

pub returns : goal.returns
returns c = λ tree is. record {
  writable = casts-writable tree is;
  respelled = casts-respelled tree (numbered_allowed tree is.allowed);
}
