-- What each procedure of a program takes, gives back and leaves as it was, and the two constructs that are told of it:
-- an argument that is wanted after a CALL that may change it, and several values given back.
use Rattle.std.specs.Prelude.{◌≡◌, ◌≢◌, ℕ, ℤ, true, false, ◌⊎◌, ◌↔◌, List, filter, Contains, Some}
use Rattle.std.specs.List.{list_any, AllZip}
use Rattle.dcc_num.specs.declared.Reg.{Reg}
use Rattle.dcc_num.specs.declared.Reg.TheVariants.{Ax, Dx}
use Rattle.dcc_num.specs.declared.Half.{Half}
use Rattle.dcc_num.specs.declared.FlagName.{FlagName}
use Rattle.dcc_machine.specs.declared.instr.Op.TheVariants.{Call}
use Rattle.dcc_prog.specs.declared.refusal.ConstructKind.{ConstructKind}
use Rattle.dcc_prog.specs.declared.refusal.ConstructKind.TheVariants.{ArgumentReused, SeveralResults}
use Rattle.dcc_prog.specs.declared.frame.Program.{Program}
use Rattle.dcc_machine.specs.Wanted.{Location, half_of, flag_of}
use Rattle.dcc_stack.specs.Slots.{is_within}
use Rattle.dcc_demand.specs.Changes.{IsPreserved}
use Rattle.dcc_demand.specs.Wanted.{Wanted, IsParam, IsResult}
use Rattle.dcc_machine_demand.specs.Bodies.{Body, entry_of, bodies_of, body_at, Point, op_of, point_at}
use Rattle.dcc_machine_demand.specs.Holders.{held, in_frame, passed, is_same_location, is_in_cell}
use Rattle.dcc_machine_demand.specs.Instance.{passed_word, touched_of, procedures_of}

-- the summary of a procedure: the halves and flags that it takes, gives back and leaves as they were
pub record Summary : Type 0 where
  pub params : List Location
  pub results : List Location
  pub preserved : List Location

-- the list has just the halves and flags of the kind, each once, in the order in which they pass
pub record AreJust (Kind : Location → Type 0) (locations : List Location) : Type 0 where
  pub order : locations ≡ filter (λ location. list_any (is_same_location location) locations) passed
  pub exact : (location : Location) → Contains locations location ↔ Kind location

-- The summary of a procedure: it takes what is wanted at its entry, but the entry procedure takes nothing. It gives
-- back what it changes and what is wanted after some CALL of it, and preserves what it doesn't change.
pub record IsSummary (start : ℕ) (bodies : List Body) (body : Body) (summary : Summary) : Type 0 where
  pub params :
      AreJust (λ location. (entry_of body ≢ start) × IsParam (procedures_of bodies) (entry_of body) (held location))
      summary.params
  pub results :
      AreJust (λ location. IsResult (procedures_of bodies) (entry_of body) (held location)) summary.results
  pub preserved :
      AreJust (λ location. IsPreserved (procedures_of bodies) (entry_of body) (held location)) summary.preserved

-- the summaries of all procedures, in their order
abbrev pub AreSummaries : ℕ → List Body → List Summary → Type 0
AreSummaries start bodies summaries = AllZip (IsSummary start bodies) bodies summaries

-- the summaries of the procedures of a program that the analyses have found
abbrev pub AreSummariesOf : Program → List Summary → Type 0
AreSummariesOf program summaries = AreSummaries program.layout.start_ip (bodies_of program) summaries

-- Constructs.

-- A CALL passes an argument that its procedure may change, and a byte of it stands in no cell of the caller, or is
-- wanted after the CALL.
pub record IsReused (bodies : List Body) (body : Body) (at : ℕ) : Type 0 where
  pub point : Point
  pub stands : point_at body at ≡ Some point
  pub target : ℕ
  pub calls : op_of point ≡ Call target
  pub number : ℕ
  pub touched : Contains (touched_of (body_at bodies target)) number
  pub k : ℤ
  pub byte : is_within k (passed_word point.height number) ≡ true
  pub wanted :
      (is_in_cell body k ≡ false)
      ⊎ ((after : ℕ) × Contains point.node.succ.items after
      × Wanted (procedures_of bodies) (entry_of body) after (in_frame k))

-- the half belongs to the register
abbrev pub IsHalfOf : Reg → Location → Type 0
IsHalfOf r location = (half : Half) × (location ≡ half_of r half)

-- what all results of a procedure may be: halves of one register, one flag, or halves of AX and DX
pub data IsOneValue (Results : Location → Type 0) : Type 0 where
  of_register :
      (r : Reg) → ((location : Location) → Results location → IsHalfOf r location) → IsOneValue Results
  of_flag :
      (flag : FlagName) → ((location : Location) → Results location → location ≡ flag_of flag) → IsOneValue Results
  of_pair :
      ((location : Location) → Results location → IsHalfOf Ax location ⊎ IsHalfOf Dx location) → IsOneValue Results

-- the results of the procedure with that entry aren't one value
abbrev pub GivesSeveral : List Body → ℕ → Type 0
GivesSeveral bodies entry = ¬ IsOneValue (λ location. IsResult (procedures_of bodies) entry (held location))

-- A construct of this kind, one that summaries tell, stands at the offset: an argument that is reused at the CALL,
-- several results at the procedure's entry.
pub data IsOfSummaries (bodies : List Body) : ConstructKind → ℕ → Type 0 where
  argument_reused :
      {body : Body} {at : ℕ} → Contains bodies body → IsReused bodies body at
      → IsOfSummaries bodies ArgumentReused at
  several_results :
      {body : Body} → Contains bodies body → GivesSeveral bodies (entry_of body)
      → IsOfSummaries bodies SeveralResults (entry_of body)
