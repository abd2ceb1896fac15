-- What a text keeps of another one: it can be written, its run agrees with that of each image with which the other one's
-- does, and its functions are declared as the other one's are.
use Rattle.std.specs.Prelude.{◌≡◌, ℕ, List, map, filter}
use Rattle.std.specs.List.{AllZip}
use Rattle.dcc_machine.specs.declared.cpu.Cpu.{Cpu}
use Rattle.dcc_machine.specs.declared.image.Image.{Image}
use Rattle.dcc_c.specs.Numbered.{numbered}
use Rattle.dcc_c.specs.Placement.{is_auto, takes_address}
use Rattle.dcc_c.specs.Text.{StandsFor}
use Rattle.dcc_c.specs.Tree.{Word, Variable, Function, Tree}
use Rattle.dcc_c.specs.Written.{written_form}
use Rattle.dcc_c.proofs.Writable.{IsWritable}
use Rattle.dcc_plan.specs.Programs.{text_size}
use Rattle.dcc_pipe.specs.Agreement.{RunsAgree}

-- The second function has the first one's name, parameters of the same names and classes, and the same `auto` variables,
-- and takes the addresses that the first one takes.
pub record IsDeclaredAs (f h : Function) : Type 0 where
  pub name : h.name ≡ f.name
  pub names : map (λ (v : Variable). v.name) h.params ≡ map (λ (v : Variable). v.name) f.params
  pub classes : map (λ (v : Variable). v.class) h.params ≡ map (λ (v : Variable). v.class) f.params
  pub autos : filter (λ (v : Variable). is_auto v.class) h.locals ≡ filter (λ (v : Variable). is_auto v.class) f.locals
  pub addresses : (word : Word) → takes_address h.body word ≡ takes_address f.body word

-- The second text, with its lines counted, keeps what is told of the first one, with its lines counted. Its steps are as
-- many.
pub record IsKept (plain final : Tree) : Type 0 where
  pub writable : IsWritable final
  pub size : text_size (numbered final).functions ≡ text_size (numbered plain).functions
  pub runs :
      (cpu : Cpu) (image : Image) (is : StandsFor (written_form plain) (numbered plain))
      (also : StandsFor (written_form final) (numbered final)) (tokens : ℕ) (input : List ℕ) (fill : ℕ)
      → RunsAgree cpu image (numbered plain) is.allowed.start tokens input fill
      → RunsAgree cpu image (numbered final) also.allowed.start tokens input fill
  pub declared : AllZip IsDeclaredAs (numbered plain).functions (numbered final).functions
