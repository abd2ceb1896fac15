-- Arguments and values given back change values and memory alone.
use Rattle.std.proofs.Common.{◌≡◌, ℕ, ◌+◌, List, [], ◌∷◌, refl, ◌∙◌}
use Rattle.dcc_ir.specs.declared.syntax.Loc.{Loc}
use Rattle.dcc_ir.specs.declared.syntax.Put.{Put}
use Rattle.dcc_ir.specs.declared.syntax.Put.TheVariants.{Memory, One, Two}
use Rattle.dcc_ir.specs.declared.syntax.Param.{Param}
use Rattle.dcc_ir.specs.Location.{Values}
use Rattle.dcc_ir.specs.Run.{State, setting, putting, passing, giving}
use Rattle.dcc_ir.specs.Passes.{with_values}

-- the state with these values and this memory
abbrev pub holding : Values → List ℕ → State → State
holding values memory s = record s { running = record s.running { values = values }; memory = memory }

pub giving-is : (results : List Loc) (ns : List ℕ) (s : State) → giving results ns s ≡ holding (with_values s.running.values results ns) s.memory s
giving-is [] ns s = refl
giving-is (location ∷ results) [] s = refl
giving-is (location ∷ results) (n ∷ ns) s = giving-is results ns (setting location n s)

putting-is : (values : Values) (memory : List ℕ) (j : ℕ) (put : Put) (n : ℕ) (s : State) → holding values memory (putting j put n s) ≡ holding values memory s
putting-is values memory j Memory n s = refl
putting-is values memory j (One location) n s = refl
putting-is values memory j (Two low high) n s = refl

pub passing-is : (j : ℕ) (params : List Param) (ns : List ℕ) (s : State) → passing j params ns s ≡ holding (passing j params ns s).running.values (passing j params ns s).memory s
passing-is j [] ns s = refl
passing-is j (param ∷ params) [] s = refl
passing-is j (param ∷ params) (n ∷ ns) s = passing-is (j + 1) params ns (putting j param.put n s) ∙ putting-is _ _ j param.put n s
