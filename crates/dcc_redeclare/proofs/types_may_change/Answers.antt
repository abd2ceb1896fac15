use Rattle.dcc_c.proofs.NumberedLaws.{numbered_allowed}
use Rattle.dcc_redeclare.proofs.Texts.{redeclared-writable, redeclared-respelled}
use Rattle.dcc_redeclare.proofs.types_may_change.Goals as goal

pub returns : goal.returns
returns c = λ type_for sizes tree is. record {
  writable = redeclared-writable type_for sizes tree is;
  respelled = redeclared-respelled type_for sizes tree (numbered_allowed tree is.allowed);
}
