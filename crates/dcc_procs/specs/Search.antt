-- What the search keeps of a procedure, and how it grows. This stands between the trails and the code; no public
-- contract rests on it.
use Rattle.std.specs.Prelude.{◌≡◌, ◌≢◌, ◌≤◌, ◌<◌, ◌⊎◌, ◌↔◌, ℕ, ◌+◌, ◌*◌, true, false, not, ◌||◌, List, [], ◌∷◌, ◌++◌}
use Rattle.std.specs.Prelude.{length, sum_by, get_or, slice_set, AllPairs, Contains, Option, Some, None}
use Rattle.dcc_machine.specs.declared.image.Image.{Image}
use Rattle.dcc_prog.specs.declared.procedure.Layout.{Layout}
use Rattle.dcc_machine.specs.declared.instr.Instr.{Instr}
use Rattle.dcc_machine.specs.declared.instr.Op.{Op}
use Rattle.dcc_machine.specs.declared.instr.Op.TheVariants.{Table, Call, Ret, Int21}
use Rattle.dcc_num.specs.declared.Reg.{Reg}
use Rattle.dcc_prog.specs.declared.refusal.ConstructKind.TheVariants.{IndirectJump}
use Rattle.dcc_prog.specs.declared.refusal.LimitName.TheVariants.{Instructions, Entries}
use Rattle.dcc_prog.specs.declared.refusal.Refusal.{Refusal}
use Rattle.dcc_prog.specs.declared.refusal.Refusal.TheVariants.{Construct, Limit, Memory}
use Rattle.dcc_prog.specs.Trail.{code_within, instruction_in, IsTrail, IsEdge}
use Rattle.dcc_prog.specs.FrameForm.{is_frame_form}
use Rattle.dcc_prog.specs.Construct.{is_system, is_dos_number}
use Rattle.dcc_procs.specs.declared.known.Known.{Known}
use Rattle.dcc_procs.specs.declared.table.Form.{Form}
use Rattle.dcc_procs.specs.declared.table.Index.{Index}
use Rattle.dcc_procs.specs.declared.search.Search.{Search}
use Rattle.dcc_procs.specs.Known.{number_of, known_after, told, successors_by, common}

-- What is known at an offset.

-- what is known of an offset holds of all that a trail tells of it
pub record Covers (known told : Known) : Type 0 where
  pub ah : (number : ℕ) → known.ah ≡ Some number → told.ah ≡ Some number
  pub form : (form : Form) → known.form ≡ Some form → told.form ≡ Some form
  pub index : (index : Index) → known.index ≡ Some index → told.index ≡ Some index
  pub from : (at : ℕ) → known.from ≡ Some at → told.from ≡ Some at

-- a trail of the procedure comes to the offset, and what is known of the offset holds of it
pub record HasTrail (image : Image) (layout : Layout) (entry at : ℕ) (known : Known) : Type 0 where
  pub before : List ℕ
  pub trail : IsTrail image layout entry (at ∷ before)
  pub covers : Covers known (told image layout at before)

-- the two options have no value in common
abbrev pub AreApart : {A : Type 0} → Option A → Option A → Type 0
AreApart {A} a b = (x : A) → a ≡ Some x → b ≡ Some x → ⊥

-- two trails to the offset of which the known holds (or one, twice) have no value in common in a field
pub record Differ {A : Type 0} (image : Image) (layout : Layout) (entry at : ℕ) (known : Known)
    (field : Known → Option A) : Type 0 where
  pub one : HasTrail image layout entry at known
  pub other : HasTrail image layout entry at known
  pub apart : AreApart (field (told image layout at one.before)) (field (told image layout at other.before))

-- trails come to the offset of which the known holds, and where a field is unknown, trails have no value of it in
-- common
pub record IsWitnessed (image : Image) (layout : Layout) (entry at : ℕ) (known : Known) : Type 0 where
  pub trail : HasTrail image layout entry at known
  pub ah : known.ah ≡ None → Differ image layout entry at known (λ k. k.ah)
  pub form : known.form ≡ None → Differ image layout entry at known (λ k. k.form)
  pub index : known.index ≡ None → Differ image layout entry at known (λ k. k.index)
  pub from : known.from ≡ None → Differ image layout entry at known (λ k. k.from)

-- something is known, and it holds of what is told
abbrev pub Tells : Option Known → Known → Type 0
Tells None told = ⊥
Tells (Some known) told = Covers known told

-- Instructions.

-- the number of the DOS call is known
abbrev pub HasDosNumber : Known → Type 0
HasDosNumber known = (number : ℕ) × (known.ah ≡ Some number) × (is_dos_number number ≡ true)

-- the greatest number of the table's index is known, it is not too great, and the table lies in the code
pub record HasTable (image : Image) (layout : Layout) (known : Known) (r : Reg) (table : ℕ) : Type 0 where
  pub number : ℕ
  pub number_is : number_of r known.index ≡ Some number
  pub few : number ≤ 255
  pub inside : table + 2 * (number + 1) ≤ length (code_within image layout)

-- the operation may stand at an offset, as far as what is known before it tells
pub record IsAllowed (image : Image) (layout : Layout) (entry : ℕ) (known : Known) (op : Op) : Type 0 where
  pub number : op ≡ Int21 → HasDosNumber known
  pub table : (r : Reg) (table : ℕ) → op ≡ Table r table → HasTable image layout known r table
  pub returns : (count : ℕ) → op ≡ Ret count → entry ≢ layout.start_ip
  pub calls : op ≡ Call layout.start_ip → ⊥

-- the instruction stands at the offset and is no construct, unless a division that is not prepared
pub record IsAccepted (image : Image) (layout : Layout) (entry at : ℕ) (known : Known) (instr : Instr) : Type 0 where
  pub found : instruction_in image layout at ≡ Some instr
  pub user : (is_system instr.op || not (is_frame_form image layout entry at instr.op)) ≡ false
  pub allowed : IsAllowed image layout entry known instr.op

-- a table jump is refused, by what is known before it
pub data IsTableFault (image : Image) (layout : Layout) (at : ℕ) (known : Known) (r : Reg) (table : ℕ) : Refusal →
    Type 0 where
  no_number :
      number_of r known.index ≡ None → IsTableFault image layout at known r table (Construct IndirectJump at)
  many :
      {number : ℕ}
      → number_of r known.index ≡ Some number
      → 256 ≤ number
      → IsTableFault image layout at known r table (Limit Entries (number + 1))
  outside :
      {number : ℕ}
      → number_of r known.index ≡ Some number
      → number ≤ 255
      → length (code_within image layout) < table + 2 * (number + 1)
      → IsTableFault image layout at known r table (Construct IndirectJump at)

-- The search.

-- what is known at each offset, the offsets in the order in which they were reached, and those that are to be followed
pub record Work : Type 0 where
  pub seen : List (Option Known)
  pub order : List ℕ
  pub pending : List ℕ

abbrev pub work_of : Search → Work
work_of search = record { seen = search.seen.items; order = search.order.items; pending = search.pending.items }

-- what is known at an offset
abbrev pub seen_at : List (Option Known) → ℕ → Option Known
seen_at seen at = get_or seen at None

-- nothing is seen
pub record IsFresh (work : Work) : Type 0 where
  pub length_is : length work.seen ≡ 65536
  pub none : (at : ℕ) → seen_at work.seen at ≡ None
  pub order : work.order ≡ []
  pub pending : work.pending ≡ []

-- how many fields have a value
abbrev pub one_if_some : {A : Type 0} → Option A → ℕ
one_if_some None = 0
one_if_some (Some a) = 1

abbrev pub told_count : Known → ℕ
told_count known = one_if_some known.ah + one_if_some known.form + one_if_some known.index + one_if_some known.from

-- how often what is known may still change
abbrev pub rank : Option Known → ℕ
rank None = 5
rank (Some known) = told_count known

-- how much is still to be done
abbrev pub measure : Work → ℕ
measure work = 2 * sum_by rank work.seen + length work.pending

-- the work with new knowledge at an offset, which is to be followed
abbrev pub with_known : Work → List ℕ → ℕ → Known → Work
with_known work order to known = record {
  seen = slice_set work.seen to (Some known);
  order = order;
  pending = work.pending ++ to ∷ [];
}

-- a trail comes to an offset with what is known along it, and the work notes that
pub data IsArrived (old new : Work) (to : ℕ) (known : Known) : Type 0 where
  first_time :
      seen_at old.seen to ≡ None
      → length old.order < 4096
      → new ≡ with_known old (old.order ++ to ∷ []) to known
      → IsArrived old new to known
  told_less :
      {was : Known}
      → seen_at old.seen to ≡ Some was
      → told_count (common was known) < told_count was
      → new ≡ with_known old old.order to (common was known)
      → IsArrived old new to known
  told_same :
      {was : Known}
      → seen_at old.seen to ≡ Some was
      → told_count was ≤ told_count (common was known)
      → new ≡ old
      → IsArrived old new to known

-- one more offset is too many, or there is no memory for it
abbrev pub IsFull : Work → ℕ → Refusal → Type 0
IsFull work to (Limit Instructions count) = (count ≡ 4097) × (length work.order ≡ 4096) × (seen_at work.seen to ≡ None)
IsFull work to Memory = Unit {0}
IsFull work to refusal = ⊥

-- the list holds just the offsets that are seen
abbrev pub IsListing : List (Option Known) → List ℕ → Type 0
IsListing seen offsets = (at : ℕ) → Contains offsets at ↔ (seen_at seen at ≢ None)

-- the offsets that are seen, each once, in the order in which they were reached: the entry, and then each with an edge
-- from an earlier one
pub record IsOrder (image : Image) (layout : Layout) (entry : ℕ) (seen : List (Option Known)) (order : List ℕ) :
    Type 0 where
  pub every : IsListing seen order
  pub distinct : AllPairs (λ x y. x ≢ y) order
  pub first : (d : ℕ) → 0 < length order → get_or order 0 d ≡ entry
  pub earlier :
      (i d : ℕ)
      → 0 < i
      → i < length order
      → (j : ℕ) × (j < i) × IsEdge image layout entry (get_or order j d) (get_or order i d)
  pub few : length order ≤ 4096

-- what is seen of offsets holds of trails that come there
pub record IsSound (image : Image) (layout : Layout) (entry : ℕ) (work : Work) : Type 0 where
  pub length_is : length work.seen ≡ 65536
  pub witnessed :
      (at : ℕ) (known : Known) → seen_at work.seen at ≡ Some known → IsWitnessed image layout entry at known
  pub order : IsOrder image layout entry work.seen work.order
  pub waiting : (at : ℕ) → Contains work.pending at → seen_at work.seen at ≢ None

-- more is seen than before, and the offsets where more is seen are to be followed
pub record Extends (old new : Work) : Type 0 where
  pub tells : (at : ℕ) (told : Known) → Tells (seen_at old.seen at) told → Tells (seen_at new.seen at) told
  pub stays : (at : ℕ) → (seen_at new.seen at ≡ seen_at old.seen at) ⊎ Contains new.pending at
  pub waits : (at : ℕ) → Contains old.pending at → Contains new.pending at
  pub less : measure new ≤ measure old

-- what is seen at each of the offsets holds of the trails that come there from the instruction
abbrev pub AreTold : Work → ℕ → Instr → Known → List ℕ → Type 0
AreTold work at instr known offsets =
    (to : ℕ) → Contains offsets to → (told : Known) → Covers (known_after at instr to known) told → Tells
    (seen_at work.seen to) told

-- the instruction at an offset was followed
pub record IsFollowed (image : Image) (layout : Layout) (entry at : ℕ) (old new : Work) : Type 0 where
  pub sound : IsSound image layout entry new
  pub extends : Extends old new
  pub known : Known
  pub was : seen_at old.seen at ≡ Some known
  pub instr : Instr
  pub accepted : IsAccepted image layout entry at known instr
  pub onward : AreTold new at instr known (successors_by image at instr known)

-- trails of the procedure come to just the offsets that are seen, with what is known, and instructions that are
-- accepted stand there
pub record AreAllSeen (image : Image) (layout : Layout) (entry : ℕ) (seen : List (Option Known)) : Type 0 where
  pub length_is : length seen ≡ 65536
  pub told :
      (at : ℕ) (before : List ℕ)
      → IsTrail image layout entry (at ∷ before)
      → Tells (seen_at seen at) (told image layout at before)
  pub witnessed :
      (at : ℕ) (known : Known) → seen_at seen at ≡ Some known → IsWitnessed image layout entry at known
  pub accepted :
      (at : ℕ) (known : Known)
      → seen_at seen at ≡ Some known
      → (instr : Instr) × IsAccepted image layout entry at known instr
