-- The watch as code that executes systems with a console.
use Rattle.std.proofs.Common.{refl}
use Rattle.dcc_prog.proofs.WatchLaws.{machine_watchable}
use Rattle.dcc_console.specs.Laws.{IsLawfulExecutor}
use Rattle.dcc_watch.specs.Executor.{watched}

pub watch_executes : IsLawfulExecutor watched
watch_executes = record {
  lawful = λ program. (machine_watchable program).lawful;
  left_is = λ program input w. refl;
  stands_with = λ program input code w stands.
      record { layout = stands.layout; shapes = stands.shapes; machine = stands.machine; stage = stands.stage };
}
