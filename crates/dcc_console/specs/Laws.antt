-- What is known of code that executes systems with a console.
use Rattle.std.specs.Prelude.{◌≡◌, ℕ, List}
use Rattle.dcc_run.specs.System.{IsLawful}
use Rattle.dcc_console.specs.Console.{Executor, left_in}

-- The systems are lawful, and the code stands for a state whatever the input that it has left.
pub record IsLawfulExecutor {W C S : Type 0} (executor : Executor W C S) : Type 0 where
  pub lawful : (w : W) → IsLawful (executor.console w).system
  pub left_is : (w : W) (input : List ℕ) (s : S) →
      left_in executor w ((executor.console w).with_left input s) ≡ input
  pub stands_with : (w : W) (input : List ℕ) (code : C) (s : S) → executor.stands w code s →
      executor.stands w code ((executor.console w).with_left input s)
