pub mod StateLaws
pub mod PassLaws
pub mod TrailLaws
pub mod MetLaws
pub mod FlowLaws
pub mod TurnLaws
pub mod CodeLaws
pub mod ProgramLaws
