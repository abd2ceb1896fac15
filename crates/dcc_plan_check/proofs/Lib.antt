mod BlockLaws
mod LabelLaws
mod PointLaws
mod ReturnLaws
mod ValidLaws
