-- The machine as code that executes a system with a console.
use Rattle.std.proofs.Common.{refl}
use Rattle.dcc_machine.proofs.StepLaws.{machine_lawful}
use Rattle.dcc_console.specs.Laws.{IsLawfulExecutor}
use Rattle.dcc_step.specs.Stepped.{machine}

pub machine_executes : IsLawfulExecutor machine
machine_executes = record {
  lawful = λ cpu. machine_lawful cpu;
  left_is = λ cpu input s. refl;
  stands_with = λ cpu input core s stands. stands;
}
