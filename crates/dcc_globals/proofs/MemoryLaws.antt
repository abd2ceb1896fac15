-- The first memory of a text with the global variables of a program's data segment.
use Rattle.std.proofs.Common.{◌≡◌, ℕ, List, refl, ap, ◌∙◌}
use Rattle.std.specs.Prelude.{All}
use Rattle.dcc_num.specs.declared.Width.{Width}
use Rattle.dcc_machine.specs.declared.instr.Ea.{Ea}
use Rattle.dcc_ir.specs.Tree.{Program}
use Rattle.dcc_ir.specs.Run.{first_memory}
use Rattle.dcc_c.specs.Run as c
use Rattle.dcc_c.specs.Tree.{Tree}
use Rattle.dcc_globals.specs.Globals.{globals_of}
use Rattle.dcc_globals.specs.Laws.{data_in}
use Rattle.dcc_globals.proofs.FirstMemory.{memory-is}
use Rattle.dcc_globals.proofs.Placed.{are-allowed, all-hold, in-off, missing-zero}
use Rattle.dcc_globals.proofs.Written.{IsByte}

pub memories-equal : (p : Program) (operands : List (Width × Ea)) (tree : Tree) (fill : ℕ) → All IsByte p.image → tree.lo ≡ p.lo → tree.hi ≡ p.hi
    → tree.globals ≡ globals_of (data_in p operands) → c.first_memory tree fill ≡ first_memory p fill
memories-equal p operands tree fill are lo_is hi_is globals_are =
    let d = data_in p operands in
    ap (λ l. c.with_globals tree.globals (c.stack_memory l tree.hi fill)) lo_is
    ∙ ap (λ h. c.with_globals tree.globals (c.stack_memory p.lo h fill)) hi_is
    ∙ ap (λ gs. c.with_globals gs (c.stack_memory p.lo p.hi fill)) globals_are
    ∙ memory-is p.image p.lo p.hi fill (globals_of d) (are-allowed d).apart (all-hold d are) (in-off d) (missing-zero d) p refl refl refl
