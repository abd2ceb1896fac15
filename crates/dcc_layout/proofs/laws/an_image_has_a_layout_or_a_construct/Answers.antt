use Rattle.std.proofs.Common.{inl, inr}
use Rattle.dcc_prog.specs.Construct.{lacks_layout}
use Rattle.dcc_prog.proofs.LayoutLaws.{layout_or_none}
use Rattle.dcc_prog.proofs.ConstructLaws.{lacks-layout}
use Rattle.dcc_layout.proofs.laws.an_image_has_a_layout_or_a_construct.Goals as goal

pub returns : goal.returns
returns c = record {
  one = λ cpu image. elim (layout_or_none cpu image) [
    | inl found ↦ inl (record { layout = found.0; runs_on = found.1; holds = found.2 })
    | inr none ↦ inr (lacks_layout none)
  ];
  not_both = λ cpu image some construct. (lacks-layout cpu image image.ip construct).none some.layout some.runs_on some.holds;
}
