-- Which procedures of a program signatures tell.
use Rattle.std.specs.Prelude.{ℕ, ◌==◌, Bool, true, false, ◌&&◌, if◌then◌else◌, List, [], ◌∷◌, map, drop, count_by}
use Rattle.std.specs.Prelude.{Option, Some, None, string_bytes}
use Rattle.std.specs.List.{flat_map}
use Rattle.dcc_machine.specs.declared.image.Image.{Image}
use Rattle.dcc_prog.specs.declared.frame.Program.{Program}
use Rattle.dcc_prog.specs.declared.procedure.Proc.{Proc}
use Rattle.dcc_prog.specs.Trail.{code_within}
use Rattle.dcc_c.specs.Tree.{Word}
use Rattle.dcc_sigs.specs.declared.signature.Sig.{Sig}
use Rattle.dcc_sigs.specs.declared.recognised.Recognised.{Recognised}

-- Matches ------------------------------------------------------------------------------------

-- the part is this byte, or any byte
abbrev pub is_met : Option ℕ → ℕ → Bool
is_met (Some part) byte = part == byte
is_met None byte = true

-- the code has as many bytes as there are parts, and each meets its part
abbrev pub matches : List (Option ℕ) → List ℕ → Bool
matches [] code = true
matches (part ∷ parts) [] = false
matches (part ∷ parts) (byte ∷ code) = is_met part byte && matches parts code

-- the signature matches the code from the entry on
abbrev pub matches_at : List ℕ → ℕ → Sig → Bool
matches_at code entry sig = matches sig.bytes.items (drop entry code)

-- Procedures ---------------------------------------------------------------------------------

-- a procedure, by its entry, and the name that a signature gives it
pub record Told : Type 0 where
  pub entry : ℕ
  pub name : Word

abbrev pub told : ℕ → Sig → Told
told entry sig = record { entry = entry; name = string_bytes sig.name }

-- The signature tells the procedure with the entry: it alone matches it, and it matches it alone, of the procedures
-- with these entries.
abbrev pub tells : List ℕ → List ℕ → List Sig → ℕ → Sig → Bool
tells code entries sigs entry sig =
    (count_by (matches_at code entry) sigs == 1)
    && (matches_at code entry sig && (count_by (λ other. matches_at code other sig) entries == 1))

-- the procedure with the entry, where the signature tells it
abbrev pub told_if : List ℕ → List ℕ → List Sig → ℕ → Sig → List Told
told_if code entries sigs entry sig = if tells code entries sigs entry sig then told entry sig ∷ [] else []

-- the procedure with the entry, where one of the signatures tells it
abbrev pub told_at : List ℕ → List ℕ → List Sig → ℕ → List Told
told_at code entries sigs entry = flat_map (told_if code entries sigs entry) sigs

-- the procedures that signatures tell, in the order of their entries
abbrev pub told_in : List ℕ → List ℕ → List Sig → List Told
told_in code entries sigs = flat_map (told_at code entries sigs) entries

-- the entries of the procedures but the entry procedure
abbrev pub entries_of : List Proc → List ℕ
entries_of procs = map (λ proc. proc.entry) (drop 1 procs)

-- the procedures of the program that signatures tell
abbrev pub recognised : Image → Program → List Sig → List Told
recognised image program sigs =
    told_in (code_within image program.layout) (entries_of program.procs.items) sigs

-- what an answer says
abbrev pub told_by : Recognised → Told
told_by r = record { entry = r.entry; name = string_bytes r.name }
