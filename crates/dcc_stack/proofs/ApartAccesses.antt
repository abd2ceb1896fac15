-- The accesses of an operation that write; and what a step that isn't foul tells of its accesses.
use Rattle.std.proofs.Common.{◌≡◌, ℕ, ◌+◌, ◌%◌, ◌<◌, Bool, true, false, List, [], ◌∷◌, ◌++◌, filter, flat_map, Option, Some, None, refl, sym, ap, ◌∙◌, subst, arith}
use Rattle.std.proofs.lemmas.List.Concat.{flat_map-cons}
use Rattle.std.proofs.lemmas.List.Elements.{All-nil, All-cons, All-head, All-tail, All-append}
use Rattle.std.specs.Prelude.{All, not, is_some, is_none, if◌then◌else◌, ◌==◌}
use Rattle.std.specs.List.{find, filter_map, cons_option}
use Rattle.dcc_num.specs.declared.Width.{Width}
use Rattle.dcc_num.specs.declared.Reg.{Reg}
use Rattle.dcc_num.specs.declared.Reg.TheVariants.{Dx, Sp, Bp}
use Rattle.dcc_num.specs.declared.dos.TheConstants.{PUTS}
use Rattle.dcc_prog.specs.declared.procedure.Layout.{Layout}
use Rattle.dcc_prog.specs.declared.frame.Program.{Program}
use Rattle.dcc_machine.specs.declared.instr.Plain.{Plain as PlainKind}
use Rattle.dcc_machine.specs.declared.instr.Plain.TheVariants.{Xlat}
use Rattle.dcc_machine.specs.declared.instr.Ea.{Ea}
use Rattle.dcc_machine.specs.declared.instr.Operand.{Operand}
use Rattle.dcc_machine.specs.declared.instr.Operand.TheVariants.{Mem}
use Rattle.dcc_machine.specs.declared.instr.Op.{Op}
use Rattle.dcc_machine.specs.declared.instr.Op.TheVariants.{Alu, Unary, Shift, Mov, Xchg, Imul3, Push, Pop, Enter, Leave, Plain, Table, Call, Ret, Int21}
use Rattle.dcc_machine.specs.declared.instr.Instr.{Instr}
use Rattle.dcc_prog.specs.declared.watch.FoulKind.{FoulKind}
use Rattle.dcc_prog.specs.declared.watch.FoulKind.TheVariants.{Low, Hidden, Unwritten}
use Rattle.dcc_machine.specs.Machine.{State, word_in, part_of, is_bp, offset_of, segment_of, operand_value, with_operand, data_segment}
use Rattle.dcc_machine.specs.Operations.{with_sp_raised}
use Rattle.dcc_machine.specs.Writes.{writes_operand}
use Rattle.dcc_machine.specs.Access.{Direction, Reading, Writing, Access, bytes_in, is_direct, kind_of, operand_accesses, result_accesses, writes_back, push_access, other_read, string_size, dos_accesses, plain_accesses, accesses, found_accesses, addresses_of, written_in, written_by}
use Rattle.dcc_prog.specs.Frame.{memory_of, memory_of_two, memory_operand}
use Rattle.dcc_prog.specs.Clean.{Stack, Foul, stack_offset, stack_bytes, is_other, is_reading, is_exposed_byte, is_marked, top_in, sp_after, is_low, low_of, foul_as, or_else, hidden_of, unwritten_of, foul_of}
use Rattle.dcc_prog.proofs.SpLaws.{part-bp}
use Rattle.dcc_machine.proofs.LocationKept.{word-other}
use Rattle.dcc_machine.proofs.AlikeValues.{and-parts}
use Rattle.dcc_stack.specs.Apart.{is_pushing}

-- Lists.

not-false : (b : Bool) → not b ≡ false → b ≡ true
not-false true e = refl
not-false false e = cc

all-parts : {X : Type 0} (P : X → Type 0) (xs ys : List X) → All P (xs ++ ys) → All P xs × All P ys
all-parts P [] ys all = (All-nil P, all)
all-parts P (x ∷ xs) ys all =
    let rest = all-parts P xs ys (All-tail P x (xs ++ ys) all) in
    (All-cons P x xs (All-head P x (xs ++ ys) all) rest.0, rest.1)

-- a test that no element passes
none-found : {X : Type 0} (test : X → Bool) (xs : List X) → find test xs ≡ None → All (λ x. test x ≡ false) xs
none-found test [] none = All-nil (λ x. test x ≡ false)
none-found test (x ∷ xs) none =
    elim (test x) as (λ b. test x ≡ b → (if b then Some x else find test xs) ≡ None
    → All (λ y. test y ≡ false) (x ∷ xs)) [
      | true ↦ λ is some. cc
      | false ↦ λ is later. All-cons (λ y. test y ≡ false) x xs is (none-found test xs later)
    ] refl none

all-mapped : {X Y : Type 0} (P : Y → Type 0) (h : X → Option Y) (xs : List X) → All P (filter_map h xs)
    → All (λ x. (y : Y) → h x ≡ Some y → P y) xs
all-mapped {X} {Y} P h [] all = All-nil (λ x. (y : Y) → h x ≡ Some y → P y)
all-mapped {X} {Y} P h (x ∷ xs) all =
    elim (h x) as (λ o. h x ≡ o → All P (cons_option o (filter_map h xs))
    → All (λ z. (y : Y) → h z ≡ Some y → P y) (x ∷ xs)) [
      | None ↦ λ is rest. All-cons (λ z. (y : Y) → h z ≡ Some y → P y) x xs (λ y some. cc) (all-mapped P h xs rest)
      | Some first ↦ λ is both. All-cons (λ z. (y : Y) → h z ≡ Some y → P y) x xs
          (λ y some. let same : first ≡ y = cc in subst P same (All-head P first (filter_map h xs) both))
          (all-mapped P h xs (All-tail P first (filter_map h xs) both))
    ] refl all

all-flat : {X Y : Type 0} (P : Y → Type 0) (f : X → List Y) (xs : List X) → All P (flat_map f xs)
    → All (λ x. All P (f x)) xs
all-flat P f [] all = All-nil (λ x. All P (f x))
all-flat P f (x ∷ xs) all =
    let both = all-parts P (f x) (flat_map f xs) (subst (λ l. All P l) (flat_map-cons f x xs) all) in
    All-cons (λ y. All P (f y)) x xs both.0 (all-flat P f xs both.1)

all-filtered : {X : Type 0} (P : X → Type 0) (test : X → Bool) (xs : List X) → All P (filter test xs)
    → All (λ x. test x ≡ true → P x) xs
all-filtered P test [] all = All-nil (λ x. test x ≡ true → P x)
all-filtered P test (x ∷ xs) all =
    elim (test x) as (λ b. test x ≡ b → All P (if b then x ∷ filter test xs else filter test xs)
    → All (λ y. test y ≡ true → P y) (x ∷ xs)) [
      | true ↦ λ is both. All-cons (λ y. test y ≡ true → P y) x xs (λ so. All-head P x (filter test xs) both)
          (all-filtered P test xs (All-tail P x (filter test xs) both))
      | false ↦ λ is rest. All-cons (λ y. test y ≡ true → P y) x xs (λ so. cc) (all-filtered P test xs rest)
    ] refl all

-- what holds of the bytes of each access that writes holds of all that is written
pub all-written : (P : ℕ → Type 0) (list : List Access)
    → All (λ access. access.direction ≡ Writing → All P (addresses_of access)) list → All P (written_by list)
all-written P [] all = All-nil P
all-written P (access ∷ rest) all =
    let Q = λ (x : Access). x.direction ≡ Writing → All P (addresses_of x) in
    All-append P (written_in access.direction (addresses_of access)) (written_by rest)
    (by access.direction (All-head Q access rest all)) (all-written P rest (All-tail Q access rest all))
  where
    by : (direction : Direction) → (direction ≡ Writing → All P (addresses_of access))
        → All P (written_in direction (addresses_of access))
    by Reading each = All-nil P
    by Writing each = each refl

-- Clean steps.

-- the stack's bytes of an access of a kind pass a test
abbrev pub Pass : Layout → (Access → Bool) → (ℕ → Bool) → Access → Type 0
Pass layout kind test access =
    kind access ≡ true
    → All (λ address. (offset : ℕ) → stack_offset layout address ≡ Some offset → test offset ≡ true)
    (addresses_of access)

all-pass : (layout : Layout) (kind : Access → Bool) (test : ℕ → Bool) (list : List Access)
    → find (λ offset. not (test offset)) (stack_bytes layout (filter kind list)) ≡ None
    → All (Pass layout kind test) list
all-pass layout kind test list none =
    let P = λ (address : ℕ). (offset : ℕ) → stack_offset layout address ≡ Some offset
    → not (test offset) ≡ false in
    let some = filter kind list in
    let each = all-filtered (λ (x : Access). All P (addresses_of x)) kind list
    (all-flat P addresses_of some
    (all-mapped (λ offset. not (test offset) ≡ false) (stack_offset layout) (flat_map addresses_of some)
    (none-found (λ offset. not (test offset)) (filter_map (stack_offset layout) (flat_map addresses_of some)) none))) in
    λ k d less so j e within offset is. not-false (test _) (each k d less so j e within offset is)

module _ (program : Program) (stack : Stack) (s : State) where
  -- the stack's bytes of an access are exposed, but for those of the stack's own accesses and of direct ones
  abbrev pub IsShown : Access → Type 0
  IsShown = Pass program.layout is_other (is_exposed_byte program (top_in program.layout s) stack.frames)

  -- the stack's bytes of an access that reads are written
  abbrev pub IsTold : Access → Type 0
  IsTold = Pass program.layout is_reading (is_marked stack.written)

or_else-none : (a b : Option Foul) → or_else a b ≡ None → (a ≡ None) × (b ≡ None)
or_else-none None b e = (refl, e)
or_else-none (Some foul) b e = cc

foul_as-none : (at : ℕ) (kind : FoulKind) (byte : Option ℕ) → foul_as at kind byte ≡ None → byte ≡ None
foul_as-none at kind None e = refl
foul_as-none at kind (Some address) e = cc

if-none : (b : Bool) (address : ℕ) → (if b then Some address else None) ≡ None → b ≡ false
if-none true address e = cc
if-none false address e = refl

-- a step that isn't foul leaves SP in the stack, and its accesses are shown and told
pub record IsCleanStep (program : Program) (stack : Stack) (s : State) (instr : Instr) : Type 0 where
  pub low : is_low program.layout (sp_after instr.op s) ≡ false
  pub shown : All (IsShown program stack s) (found_accesses (Some instr) s)
  pub told : All (IsTold program stack s) (found_accesses (Some instr) s)

pub clean-step : (program : Program) (stack : Stack) (s : State) (instr : Instr)
    → foul_of program stack s (Some instr) ≡ None → IsCleanStep program stack s instr
clean-step program stack s instr clean =
    let low = low_of program.layout (sp_after instr.op s) in
    let hidden = hidden_of program stack s (found_accesses (Some instr) s) in
    let unwritten = unwritten_of program.layout stack (found_accesses (Some instr) s) in
    let parts = or_else-none (foul_as s.ip Low low)
    (or_else (foul_as s.ip Hidden hidden) (foul_as s.ip Unwritten unwritten)) clean in
    let others = or_else-none (foul_as s.ip Hidden hidden) (foul_as s.ip Unwritten unwritten) parts.1 in
    record {
      low = if-none (is_low program.layout (sp_after instr.op s)) _ (foul_as-none s.ip Low low parts.0);
      shown =
          all-pass program.layout is_other (is_exposed_byte program (top_in program.layout s) stack.frames)
          (found_accesses (Some instr) s) (foul_as-none s.ip Hidden hidden others.0);
      told =
          all-pass program.layout is_reading (is_marked stack.written) (found_accesses (Some instr) s)
          (foul_as-none s.ip Unwritten unwritten others.1);
    }

-- Forms of accesses.

-- the memory operand is written, at the address that it has before the step where that is direct
pub record IsOperandAccess (op : Op) (s : State) (access : Access) : Type 0 where
  pub width : Width
  pub ea : Ea
  pub operand : memory_operand op ≡ Some (width, ea)
  pub kind_is : access.kind ≡ kind_of ea
  pub segment_is : access.segment ≡ segment_of s ea
  pub offset_low : access.offset < 65536
  pub direct_is : is_direct ea ≡ true → access.offset ≡ (word_in s Bp + 0 + ea.disp) % 65536
  pub size_is : access.size ≡ bytes_in width

-- an access reads, or it stores a word that is pushed, or the memory operand
pub data IsAccessOf (op : Op) (s : State) (access : Access) : Type 0 where
  reads : access.direction ≡ Reading → IsAccessOf op s access
  pushes : is_pushing op ≡ true → access ≡ push_access s → IsAccessOf op s access
  stores : IsOperandAccess op s access → IsAccessOf op s access

-- XCHG's second operand isn't in memory
abbrev pub exchanges_second : Op → Bool
exchanges_second (Xchg a b) = is_some (memory_of b)
exchanges_second op = false

part-none : (s : State) (index : Option Reg) → is_none index ≡ true → part_of s index ≡ 0
part-none s None is = refl
part-none s (Some r) is = cc

pub direct-offset : (s : State) (ea : Ea) → is_direct ea ≡ true → offset_of s ea ≡ (word_in s Bp + 0 + ea.disp) % 65536
direct-offset s ea direct =
    let both = and-parts (is_bp ea.base) (is_none ea.index) direct in
    let b = part-bp s ea.base both.0 in
    let i = part-none s ea.index both.1 in
    ap (λ n. (n + part_of s ea.index + ea.disp) % 65536) b ∙ ap (λ n. (word_in s Bp + n + ea.disp) % 65536) i

two-first : (a b : Operand) (w : Width × Ea) → memory_of a ≡ Some w → memory_of_two a b ≡ Some w
two-first a b w e = ap (λ o. if is_some o then o else memory_of b) e

no-memory : (direction : Direction) (a : Operand) (s : State) → is_some (memory_of a) ≡ false
    → operand_accesses direction a s ≡ []
no-memory direction (Mem width ea) s e = cc
no-memory direction a s e = refl

module _ (op : Op) (s : State) where
  abbrev Form : Access → Type 0
  Form access = IsAccessOf op s access

  abbrev AreForms : List Access → Type 0
  AreForms list = All Form list

  one : (access : Access) → Form access → AreForms (access ∷ [])
  one access is = All-cons Form access [] is (All-nil Form)

  joined : (xs ys : List Access) → AreForms xs → AreForms ys → AreForms (xs ++ ys)
  joined xs ys p q = All-append Form xs ys p q

  reading : (a : Operand) (t : State) → AreForms (operand_accesses Reading a t)
  reading (Mem width ea) t = one _ (reads refl)
  reading a t = All-nil Form

  -- the operand that is written has a form, where BP and the segments are as they were
  writing : (a : Operand) (t : State) → t.segs ≡ s.segs → word_in t Bp ≡ word_in s Bp
      → ((w : Width × Ea) → memory_of a ≡ Some w → memory_operand op ≡ Some w)
      → AreForms (operand_accesses Writing a t)
  writing (Mem width ea) t segments bp operand =
      one _ (stores (record {
        width = width;
        ea = ea;
        operand = operand (width, ea) refl;
        kind_is = refl;
        segment_is = ap (λ segs. segment_of (record s { segs = segs }) ea) segments;
        offset_low = omega arith;
        direct_is = λ direct. direct-offset t ea direct ∙ ap (λ n. (n + 0 + ea.disp) % 65536) bp;
        size_is = refl;
      }))
  writing a t segments bp operand = All-nil Form

  result : (so : Bool) (a : Operand) → ((w : Width × Ea) → memory_of a ≡ Some w → memory_operand op ≡ Some w)
      → AreForms (result_accesses so a s)
  result true a operand = writing a s refl refl operand
  result false a operand = All-nil Form

  plain-reading : (operation : PlainKind) → AreForms (plain_accesses operation s)
  plain-reading Xlat = one _ (reads refl)
  plain-reading operation = All-nil Form

  dos-reading : (number : ℕ) → AreForms (dos_accesses number s)
  dos-reading number =
      let access = other_read (data_segment s) (word_in s Dx) (string_size s) in
      elim (number == PUTS) as (λ b. AreForms (if b then access ∷ [] else [])) [
        | true ↦ one access (reads refl)
        | false ↦ All-nil Form
      ]

pub access-forms : (op : Op) (s : State) → exchanges_second op ≡ false → All (IsAccessOf op s) (accesses op s)
access-forms (Alu operation a b) s clear =
    let op = Alu operation a b in
    joined op s (operand_accesses Reading a s) _ (reading op s a s)
    (joined op s (operand_accesses Reading b s) _ (reading op s b s)
    (result op s (writes_operand operation) a (two-first a b)))
access-forms (Unary operation a) s clear =
    let op = Unary operation a in
    joined op s (operand_accesses Reading a s) _ (reading op s a s) (result op s (writes_back operation) a (λ w e. e))
access-forms (Shift operation a count) s clear =
    let op = Shift operation a count in
    joined op s (operand_accesses Reading a s) _ (reading op s a s) (writing op s a s refl refl (λ w e. e))
access-forms (Mov to from) s clear =
    let op = Mov to from in
    joined op s (operand_accesses Reading from s) _ (reading op s from s)
    (writing op s to s refl refl (two-first to from))
access-forms (Xchg a b) s clear =
    let op = Xchg a b in
    let last = with_operand s a (operand_value s b) in
    joined op s (operand_accesses Reading a s) _ (reading op s a s)
    (joined op s (operand_accesses Reading b s) _ (reading op s b s)
    (joined op s (operand_accesses Writing a s) _ (writing op s a s refl refl (two-first a b))
    (subst (λ l. All (IsAccessOf op s) l) (sym (no-memory Writing b last clear)) (All-nil (IsAccessOf op s)))))
access-forms (Imul3 r a constant) s clear = reading (Imul3 r a constant) s a s
access-forms (Push a) s clear =
    let op = Push a in
    joined op s (operand_accesses Reading a s) _ (reading op s a s) (one op s (push_access s) (pushes refl refl))
access-forms (Pop a) s clear =
    let op = Pop a in
    All-cons (IsAccessOf op s) _ _ (reads refl)
    (writing op s a (with_sp_raised 2 s) refl (word-other s Sp Bp ((word_in s Sp + 2) % 65536) refl) (λ w e. e))
access-forms (Enter count) s clear = one (Enter count) s (push_access s) (pushes refl refl)
access-forms Leave s clear = one Leave s _ (reads refl)
access-forms (Plain operation) s clear = plain-reading (Plain operation) s operation
access-forms (Table r offset) s clear = one (Table r offset) s _ (reads refl)
access-forms (Call target) s clear = one (Call target) s (push_access s) (pushes refl refl)
access-forms (Ret count) s clear = one (Ret count) s _ (reads refl)
access-forms Int21 s clear = dos-reading Int21 s _
access-forms op s clear = All-nil (IsAccessOf op s)
