-- Laws of single statements, calls and block ends: what they leave of a state.
use Rattle.std.proofs.Common.{◌≡◌, ℕ, ◌+◌, Bool, true, false, List, [], ◌∷◌, Option, Some, None, refl, ◌∙◌}
use Rattle.std.specs.Prelude.{if◌then◌else◌, ◌==◌}
use Rattle.dcc_run.specs.Event.{writes}
use Rattle.dcc_run.specs.Prefix.{IsPrefix}
use Rattle.dcc_run.proofs.PrefixLaws.{prefix_refl, prefix_append}
use Rattle.dcc_ir.specs.declared.syntax.Loc.{Loc}
use Rattle.dcc_ir.specs.declared.syntax.Put.{Put}
use Rattle.dcc_ir.specs.declared.syntax.Put.TheVariants.{Memory, One, Two}
use Rattle.dcc_ir.specs.declared.syntax.Param.{Param}
use Rattle.dcc_ir.specs.Tree.{Stmt, Set, Fetch, Store, Div, Call, Dos}
use Rattle.dcc_ir.specs.Value.{division_of}
use Rattle.dcc_ir.specs.Dos.{dos_string}
use Rattle.dcc_ir.specs.Run.{State, scene_of, stuck, setting, dividing, writing, keyed, argument_in, dos_step, stmt_step, putting, passing, giving}

-- a later state of the same block: the same place and the same waiting activations, and no event taken back
pub record Within (s t : State) : Type 0 where
  pub graph : t.running.graph ≡ s.running.graph
  pub block : t.running.block ≡ s.running.block
  pub begins : t.running.begins ≡ s.running.begins
  pub rest : t.running.rest ≡ s.running.rest
  pub base : t.running.base ≡ s.running.base
  pub waiting : t.waiting ≡ s.waiting
  pub events : IsPrefix s.events t.events

within_if : (b : Bool) (s t u : State) → Within s t → Within s u → Within s (if b then t else u)
within_if true s t u h k = h
within_if false s t u h k = k

dividing-within : (location : Loc) (n : Option ℕ) (s : State) → Within s (dividing location n s)
dividing-within location (Some n) s = record { graph = refl; block = refl; begins = refl; rest = refl; base = refl; waiting = refl; events = prefix_refl s.events }
dividing-within location None s = record { graph = refl; block = refl; begins = refl; rest = refl; base = refl; waiting = refl; events = prefix_refl s.events }

written-within : (bytes : List ℕ) (s : State) → Within s (writing bytes s)
written-within bytes s = record { graph = refl; block = refl; begins = refl; rest = refl; base = refl; waiting = refl; events = prefix_append s.events (writes bytes) }

stuck-within : (s : State) → Within s (stuck s)
stuck-within s = record { graph = refl; block = refl; begins = refl; rest = refl; base = refl; waiting = refl; events = prefix_refl s.events }

keyed-within : (echo : Bool) (place : Option Loc) (input : List ℕ) (s : State) → Within s (keyed echo place input s)
keyed-within echo None [] s = record { graph = refl; block = refl; begins = refl; rest = refl; base = refl; waiting = refl; events = prefix_append s.events _ }
keyed-within echo (Some location) [] s = record { graph = refl; block = refl; begins = refl; rest = refl; base = refl; waiting = refl; events = prefix_append s.events _ }
keyed-within echo None (byte ∷ input) s = record { graph = refl; block = refl; begins = refl; rest = refl; base = refl; waiting = refl; events = prefix_append s.events _ }
keyed-within echo (Some location) (byte ∷ input) s = record { graph = refl; block = refl; begins = refl; rest = refl; base = refl; waiting = refl; events = prefix_append s.events _ }

dos-within : (number : ℕ) (place : Option Loc) (n : ℕ) (s : State) → Within s (dos_step number place n s)
dos-within number place n s =
    within_if (number == 0x02) s _ _ (written-within (n ∷ []) s)
    (within_if (number == 0x4C) s _ _ (record { graph = refl; block = refl; begins = refl; rest = refl; base = refl; waiting = refl; events = prefix_refl s.events })
    (within_if (number == 0x01) s _ _ (keyed-within true place s.input s)
    (within_if (number == 0x08) s _ _ (keyed-within false place s.input s)
    (within_if (number == 0x09) s _ _ (written-within (dos_string s.memory n) s) (stuck-within s)))))

-- a statement stays in its block
pub stmt-within : (stmt : Stmt) (s : State) → Within s (stmt_step stmt s)
stmt-within (Set location e) s = record { graph = refl; block = refl; begins = refl; rest = refl; base = refl; waiting = refl; events = prefix_refl s.events }
stmt-within (Fetch location width address) s = record { graph = refl; block = refl; begins = refl; rest = refl; base = refl; waiting = refl; events = prefix_refl s.events }
stmt-within (Store width address e) s = record { graph = refl; block = refl; begins = refl; rest = refl; base = refl; waiting = refl; events = prefix_refl s.events }
stmt-within (Div location e) s = dividing-within location (division_of (scene_of s) e) s
stmt-within (Call results entry arguments depth) s = stuck-within s
stmt-within (Dos number place argument) s = dos-within number place (argument_in s argument) s

-- a state with the same place, waiting activations and events
pub record Alike (s t : State) : Type 0 where
  pub graph : t.running.graph ≡ s.running.graph
  pub block : t.running.block ≡ s.running.block
  pub begins : t.running.begins ≡ s.running.begins
  pub waiting : t.waiting ≡ s.waiting
  pub events : t.events ≡ s.events

alike_trans : {s t u : State} → Alike s t → Alike t u → Alike s u
alike_trans h k = record {
  graph = k.graph ∙ h.graph;
  block = k.block ∙ h.block;
  begins = k.begins ∙ h.begins;
  waiting = k.waiting ∙ h.waiting;
  events = k.events ∙ h.events;
}

putting-alike : (j : ℕ) (put : Put) (n : ℕ) (s : State) → Alike s (putting j put n s)
putting-alike j Memory n s = record { graph = refl; block = refl; begins = refl; waiting = refl; events = refl }
putting-alike j (One location) n s = record { graph = refl; block = refl; begins = refl; waiting = refl; events = refl }
putting-alike j (Two low high) n s = record { graph = refl; block = refl; begins = refl; waiting = refl; events = refl }

-- arguments that are put into their places leave the rest
pub passing-alike : (j : ℕ) (params : List Param) (arguments : List ℕ) (s : State) → Alike s (passing j params arguments s)
passing-alike j [] arguments s = record { graph = refl; block = refl; begins = refl; waiting = refl; events = refl }
passing-alike j (param ∷ params) [] s = record { graph = refl; block = refl; begins = refl; waiting = refl; events = refl }
passing-alike j (param ∷ params) (n ∷ arguments) s =
    alike_trans (putting-alike j param.put n s) (passing-alike (j + 1) params arguments (putting j param.put n s))

-- values that are given back into their places leave the rest
pub giving-alike : (results : List Loc) (values : List ℕ) (s : State) → Alike s (giving results values s)
giving-alike [] values s = record { graph = refl; block = refl; begins = refl; waiting = refl; events = refl }
giving-alike (location ∷ results) [] s = record { graph = refl; block = refl; begins = refl; waiting = refl; events = refl }
giving-alike (location ∷ results) (n ∷ values) s =
    alike_trans (record { graph = refl; block = refl; begins = refl; waiting = refl; events = refl }) (giving-alike results values (setting location n s))
