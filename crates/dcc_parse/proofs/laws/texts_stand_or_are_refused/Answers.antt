use Rattle.dcc_parse.proofs.RefusalLaws.{text-judged, refused-no-tree, refused-once}
use Rattle.dcc_parse.proofs.laws.texts_stand_or_are_refused.Goals as goal

pub returns : goal.returns
returns c = record {
  one = text-judged;
  not_both = λ text short some refusal. refused-no-tree text refusal.line refusal.kind some.tree short refusal.refused some.stands;
  first = refused-once;
}
