-- What is tidied of a graph has the frame of its procedure, as the graph has.
use Rattle.std.proofs.Common.{◌≡◌, ℕ, zero, suc, ◌+◌, ◌≤◌, Bool, true, false, List, [], ◌∷◌, ◌++◌, length, map, replicate, inl, inr, refl, sym, ap, ap₂, ◌∙◌, subst, arith}
use Rattle.std.specs.Prelude.{All, ◌⊎◌, if◌then◌else◌}
use Rattle.std.specs.List.{AllZip, range_with_len}
use Rattle.std.proofs.lemmas.List.{map-append}
use Rattle.std.proofs.lemmas.List.Elements.{All-head, All-tail}
use Rattle.dcc_ir.specs.declared.syntax.Param.{Param}
use Rattle.dcc_ir.specs.Tree.{Graph}
use Rattle.dcc_ir.specs.WellFormed.{is_memory}
use Rattle.dcc_c.specs.declared.syntax.Class.TheVariants.{Plain, Auto, Register}
use Rattle.dcc_simulation.specs.Passed.{argument_param, argument_params}
use Rattle.dcc_simulation.specs.Procedures.{Procedure}
use Rattle.dcc_variables.specs.Functions.{parameter_class, memory_from}
use Rattle.dcc_variables.specs.Variables.{is_told_from, takes_address}
use Rattle.dcc_pipe.specs.Standing.{IsLocated, StandsForProcedure}
use Rattle.dcc_tidy.specs.Tidied.{IsTidiedGraph}
use Rattle.dcc_pipe.specs.TypedFrames.{argument_class, moves_sp, param_classes}
use Rattle.dcc_pipe.proofs.LeftAddresses.{AllTold, takes-none}
use Rattle.dcc_pipe.proofs.MovesLaws.{MovesWhere}
use Rattle.dcc_tidy.proofs.AddressLaws.{none-taken}
use Rattle.dcc_tidy.proofs.KindLaws.{kind-classes, kind-memory}

-- the graph takes no address that is told from no parameter, or its procedure moves SP by a sum
abbrev pub AddressesTold : Procedure → Graph → Type 0
AddressesTold p g = (takes_address (memory_from 0 g.params) g ≡ false) ⊎ (moves_sp p.proc ≡ true)

-- The graph's function has the parameters and the local bytes of the procedure's frame.
pub record HasFrameFor (p : Procedure) (g : Graph) : Type 0 where
  pub entry : g.entry ≡ p.proc.entry
  pub others : ℕ
  pub classes : map parameter_class g.params ≡ param_classes p.frame others
  pub local : g.local ≡ p.frame.exposed.local
  pub addresses : g.local ≡ 0 → AddressesTold p g

-- Params of prepared graphs.

others-register : (others : List Param) → All IsLocated others
    → map parameter_class others ≡ replicate (length others) Register
others-register [] located = refl
others-register (p ∷ others) located =
    let here = All-head IsLocated p others located in
    ap₂ (λ b cs. (if b then (if is_memory p.put then Auto else Plain) else Register) ∷ cs) here.0
    (others-register others (All-tail IsLocated p others located))

module _ (p : Procedure) (g : Graph) (stands : StandsForProcedure p g) where
  words-are : (a n : ℕ) → a + n ≤ p.frame.args
      → map parameter_class (map (argument_param p) (range_with_len a n))
      ≡ map (argument_class p.frame) (range_with_len a n)
  words-are a zero less = refl
  words-are a (suc n) less =
      ap₂ (λ b cs. (if b then Auto else Plain) ∷ cs) (stands.memory a (omega (arith, less)))
      (words-are (a + 1) n (omega (arith, less)))

  params-classes : map parameter_class g.params ≡ param_classes p.frame (length stands.others)
  params-classes =
      ap (map parameter_class) stands.params ∙ map-append parameter_class (argument_params p) stands.others
      ∙ ap₂ (λ xs ys. xs ++ ys) (words-are 0 p.frame.args (omega arith)) (others-register stands.others stands.located)

-- Graphs.

pub prepared-frame : (p : Procedure) (g : Graph) → StandsForProcedure p g → MovesWhere p g → HasFrameFor p g
prepared-frame p g stands moves = record {
  entry = stands.entry;
  others = length stands.others;
  classes = params-classes p g stands;
  local = stands.local;
  addresses = λ none. by (moves_sp p.proc) refl (moves none);
}
  where
    by : (b : Bool) → moves_sp p.proc ≡ b → AllTold (is_told_from (memory_from 0 g.params)) b g → AddressesTold p g
    by true moved all = inr moved
    by false still all = inl (takes-none (memory_from 0 g.params) g all)

pub tidied-frame : (ids : List ℕ) (p : Procedure) (g h : Graph) → HasFrameFor p g → IsTidiedGraph ids g h
    → HasFrameFor p h
tidied-frame ids p g h frame left =
    let kind = left.stands.tidied.kind in record {
      entry = kind.entry ∙ frame.entry;
      others = frame.others;
      classes = kind-classes g h kind ∙ frame.classes;
      local = kind.local ∙ frame.local;
      addresses = λ zero_local. elim (frame.addresses (sym kind.local ∙ zero_local)) [
        | inl none ↦
            inl (subst (λ told. takes_address told h ≡ false) (sym (kind-memory g h kind))
            (none-taken (memory_from 0 g.params) g h left.stands.tidied none))
        | inr moved ↦ inr moved
      ];
    }

pub all-frames : (ids : List ℕ) (ps : List Procedure) (gs hs : List Graph) → AllZip StandsForProcedure ps gs
    → AllZip MovesWhere ps gs → AllZip (IsTidiedGraph ids) gs hs → AllZip HasFrameFor ps hs
all-frames ids [] [] [] stand move left = tt
all-frames ids [] [] (h ∷ hs) stand move left = absurd left
all-frames ids [] (g ∷ gs) hs stand move left = absurd stand
all-frames ids (p ∷ ps) [] hs stand move left = absurd stand
all-frames ids (p ∷ ps) (g ∷ gs) [] stand move left = absurd left
all-frames ids (p ∷ ps) (g ∷ gs) (h ∷ hs) stand move left = (
  tidied-frame ids p g h (prepared-frame p g stand.0 move.0) left.0,
  all-frames ids ps gs hs stand.1 move.1 left.1,
)
