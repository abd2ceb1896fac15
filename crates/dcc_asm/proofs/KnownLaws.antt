-- Which operations some processor has: each jump, and what the later processor has at the first offset.
use Rattle.std.proofs.Common.{◌≡◌, ℕ, zero, suc, ◌+◌, ◌%◌, ◌<◌, Bool, true, false, List, [], ◌∷◌, ◌++◌, length, All, refl, ap, ◌∙◌, subst, inl, inr, arith}
use Rattle.std.specs.Prelude.{◌⊎◌, slice_get, Option, Some, None}
use Rattle.std.proofs.lemmas.Bool.{cases_lt}
use Rattle.dcc_num.specs.Numbers.{sign_extension_of, signed_of}
use Rattle.dcc_machine.specs.declared.cpu.Cpu.{Cpu}
use Rattle.dcc_machine.specs.declared.cpu.Cpu.TheVariants.{I8086, I186}
use Rattle.dcc_machine.specs.declared.instr.Cond.{Cond}
use Rattle.dcc_machine.specs.declared.instr.Cond.TheVariants.{O, No, B, Ae, Z, Nz, Be, A, S, Ns, L, Ge, Le, G}
use Rattle.dcc_machine.specs.declared.instr.Op.{Op}
use Rattle.dcc_machine.specs.declared.instr.Op.TheVariants.{Jump, Branch, Loop, LoopE, LoopNe, Jcxz, Call}
use Rattle.dcc_machine.specs.declared.instr.Instr.{Instr}
use Rattle.dcc_machine.specs.Bytes.{word_at}
use Rattle.dcc_machine.specs.Table.{Row, Parts, row_parts, row_length, table, instruction_at, arithmetic_rows, unary_rows, stack_rows, move_rows, control_rows, plain_rows, later_rows, rows_besides}
use Rattle.dcc_machine.proofs.TableLaws.{instruction-row, instruction-of_row, later_processor}
use Rattle.dcc_encode.specs.Encoding.{IsEncoding}
use Rattle.dcc_asm.specs.Fault.{IsKnown}
use Rattle.dcc_asm.specs.Steps.{target_of}

-- Jumps --------------------------------------------------------------------------------------

-- a jump to itself, and one from the first offset to the last one
record IsShort (opcode : ℕ) (make : ℕ → Op) : Type 0 where
  small : opcode < 256
  itself : (t : ℕ) → instruction_at I8086 t (opcode ∷ 254 ∷ []) ≡ Some (record { op = make ((t + 2 + sign_extension_of 254) % 65536); len = 2 })
  last : instruction_at I8086 0 (opcode ∷ 253 ∷ []) ≡ Some (record { op = make ((0 + 2 + sign_extension_of 253) % 65536); len = 2 })

extended : sign_extension_of 254 ≡ 65534
unfolding sign_extension_of signed_of
extended = refl

extended-before : sign_extension_of 253 ≡ 65533
unfolding sign_extension_of signed_of
extended-before = refl

two-bytes : (a b : ℕ) → a < 256 → b < 256 → All (λ byte. byte < 256) (a ∷ b ∷ [])
two-bytes a b h k zero d l = h
two-bytes a b h k (suc zero) d l = k
two-bytes a b h k (suc (suc i)) d l = absurd (omega arith)

short-known : (opcode : ℕ) (make : ℕ → Op) → IsShort opcode make → (t : ℕ) → t < 65536 → IsKnown (make t)
short-known opcode make h t l = elim (cases_lt t 65535) [
  | inl below ↦ record {
    cpu = I8086;
    at = t;
    bytes = opcode ∷ 254 ∷ [];
    encoding = record {
      decoded = h.itself t ∙ ap (λ n. Some (record { op = make n; len = 2 })) (back t l);
      within = omega arith;
      are_bytes = two-bytes opcode 254 h.small (omega arith);
    };
  }
  | inr above ↦
      let last : 65535 ≡ t = omega arith in
      let known : IsKnown (make 65535) = record {
        cpu = I8086;
        at = 0;
        bytes = opcode ∷ 253 ∷ [];
        encoding = record {
          decoded = h.last ∙ ap (λ n. Some (record { op = make ((0 + 2 + n) % 65536); len = 2 })) extended-before;
          within = omega arith;
          are_bytes = two-bytes opcode 253 h.small (omega arith);
        };
      } in
      subst (λ n. IsKnown (make n)) last known
]
  where
    back : (t : ℕ) → t < 65536 → (t + 2 + sign_extension_of 254) % 65536 ≡ t
    back t l = let e = extended in omega arith

branch-short : (condition : Cond) → (opcode : ℕ) × IsShort opcode (λ t. Branch condition t)
unfolding instruction_at table
branch-short O = (0x70, record { small = omega arith; itself = λ t. refl; last = refl })
branch-short No = (0x71, record { small = omega arith; itself = λ t. refl; last = refl })
branch-short B = (0x72, record { small = omega arith; itself = λ t. refl; last = refl })
branch-short Ae = (0x73, record { small = omega arith; itself = λ t. refl; last = refl })
branch-short Z = (0x74, record { small = omega arith; itself = λ t. refl; last = refl })
branch-short Nz = (0x75, record { small = omega arith; itself = λ t. refl; last = refl })
branch-short Be = (0x76, record { small = omega arith; itself = λ t. refl; last = refl })
branch-short A = (0x77, record { small = omega arith; itself = λ t. refl; last = refl })
branch-short S = (0x78, record { small = omega arith; itself = λ t. refl; last = refl })
branch-short Ns = (0x79, record { small = omega arith; itself = λ t. refl; last = refl })
branch-short L = (0x7c, record { small = omega arith; itself = λ t. refl; last = refl })
branch-short Ge = (0x7d, record { small = omega arith; itself = λ t. refl; last = refl })
branch-short Le = (0x7e, record { small = omega arith; itself = λ t. refl; last = refl })
branch-short G = (0x7f, record { small = omega arith; itself = λ t. refl; last = refl })

loop_ne-short : IsShort 0xe0 (λ t. LoopNe t)
unfolding instruction_at table
loop_ne-short = record { small = omega arith; itself = λ t. refl; last = refl }

loop_e-short : IsShort 0xe1 (λ t. LoopE t)
unfolding instruction_at table
loop_e-short = record { small = omega arith; itself = λ t. refl; last = refl }

loop-short : IsShort 0xe2 (λ t. Loop t)
unfolding instruction_at table
loop-short = record { small = omega arith; itself = λ t. refl; last = refl }

jcxz-short : IsShort 0xe3 (λ t. Jcxz t)
unfolding instruction_at table
jcxz-short = record { small = omega arith; itself = λ t. refl; last = refl }

jump-short : IsShort 0xeb (λ t. Jump t)
unfolding instruction_at table
jump-short = record { small = omega arith; itself = λ t. refl; last = refl }

-- a call of itself, and those of the last two offsets from the first one
call-itself : (t : ℕ) → instruction_at I8086 t (0xe8 ∷ 253 ∷ 255 ∷ []) ≡ Some (record { op = Call ((t + 3 + 65533) % 65536); len = 3 })
unfolding instruction_at table word_at
call-itself t = refl

call-before_last : instruction_at I8086 0 (0xe8 ∷ 251 ∷ 255 ∷ []) ≡ Some (record { op = Call 65534; len = 3 })
unfolding instruction_at table word_at
call-before_last = refl

call-last : instruction_at I8086 0 (0xe8 ∷ 252 ∷ 255 ∷ []) ≡ Some (record { op = Call 65535; len = 3 })
unfolding instruction_at table word_at
call-last = refl

three-bytes : (a b c : ℕ) → a < 256 → b < 256 → c < 256 → All (λ byte. byte < 256) (a ∷ b ∷ c ∷ [])
three-bytes a b c h k m zero d l = h
three-bytes a b c h k m (suc zero) d l = k
three-bytes a b c h k m (suc (suc zero)) d l = m
three-bytes a b c h k m (suc (suc (suc i))) d l = absurd (omega arith)

call-known : (t : ℕ) → t < 65536 → IsKnown (Call t)
call-known t l = elim (cases_lt t 65534) [
  | inl below ↦
      let back : (t + 3 + 65533) % 65536 ≡ t = omega arith in
      record {
        cpu = I8086;
        at = t;
        bytes = 0xe8 ∷ 253 ∷ 255 ∷ [];
        encoding = record {
          decoded = call-itself t ∙ ap (λ n. Some (record { op = Call n; len = 3 })) back;
          within = omega arith;
          are_bytes = three-bytes 0xe8 253 255 (omega arith) (omega arith) (omega arith);
        };
      }
  | inr above ↦ elim (cases_lt t 65535) [
    | inl below ↦
        let one : 65534 ≡ t = omega arith in
        let known : IsKnown (Call 65534) = record {
          cpu = I8086;
          at = 0;
          bytes = 0xe8 ∷ 251 ∷ 255 ∷ [];
          encoding = record {
            decoded = call-before_last;
            within = omega arith;
            are_bytes = three-bytes 0xe8 251 255 (omega arith) (omega arith) (omega arith);
          };
        } in
        subst (λ n. IsKnown (Call n)) one known
    | inr last ↦
        let one : 65535 ≡ t = omega arith in
        let known : IsKnown (Call 65535) = record {
          cpu = I8086;
          at = 0;
          bytes = 0xe8 ∷ 252 ∷ 255 ∷ [];
          encoding = record {
            decoded = call-last;
            within = omega arith;
            are_bytes = three-bytes 0xe8 252 255 (omega arith) (omega arith) (omega arith);
          };
        } in
        subst (λ n. IsKnown (Call n)) one known
  ]
]

-- Other operations ---------------------------------------------------------------------------

abbrev is_told : Option ℕ → Bool
is_told None = false
is_told (Some t) = true

-- the operation has a target that counts from the next instruction
abbrev is_jump : Op → Bool
is_jump op = is_told (target_of op)

jump-known : (t : ℕ) → t < 65536 → IsKnown (Jump t)
jump-known t l = short-known 0xeb (λ n. Jump n) jump-short t l

branch-known : (condition : Cond) (t : ℕ) → t < 65536 → IsKnown (Branch condition t)
branch-known condition t l = short-known (branch-short condition).0 (λ n. Branch condition n) (branch-short condition).1 t l

loop-known : (t : ℕ) → t < 65536 → IsKnown (Loop t)
loop-known t l = short-known 0xe2 (λ n. Loop n) loop-short t l

loop_e-known : (t : ℕ) → t < 65536 → IsKnown (LoopE t)
loop_e-known t l = short-known 0xe1 (λ n. LoopE n) loop_e-short t l

loop_ne-known : (t : ℕ) → t < 65536 → IsKnown (LoopNe t)
loop_ne-known t l = short-known 0xe0 (λ n. LoopNe n) loop_ne-short t l

jcxz-known : (t : ℕ) → t < 65536 → IsKnown (Jcxz t)
jcxz-known t l = short-known 0xe3 (λ n. Jcxz n) jcxz-short t l

-- each jump is known
pub known-target : (op : Op) (t : ℕ) → target_of op ≡ Some t → t < 65536 → IsKnown op
known-target (Jump n) t e l = let same : t ≡ n = cc in subst (λ m. IsKnown (Jump m)) same (jump-known t l)
known-target (Branch c n) t e l = let same : t ≡ n = cc in subst (λ m. IsKnown (Branch c m)) same (branch-known c t l)
known-target (Loop n) t e l = let same : t ≡ n = cc in subst (λ m. IsKnown (Loop m)) same (loop-known t l)
known-target (LoopE n) t e l = let same : t ≡ n = cc in subst (λ m. IsKnown (LoopE m)) same (loop_e-known t l)
known-target (LoopNe n) t e l = let same : t ≡ n = cc in subst (λ m. IsKnown (LoopNe m)) same (loop_ne-known t l)
known-target (Jcxz n) t e l = let same : t ≡ n = cc in subst (λ m. IsKnown (Jcxz m)) same (jcxz-known t l)
known-target (Call n) t e l = let same : t ≡ n = cc in subst (λ m. IsKnown (Call m)) same (call-known t l)
known-target op t e l = cc

-- the row's operation is a jump, or doesn't depend on the next instruction's offset
abbrev IsStill : Row → Type 0
IsStill row = (p : Parts) (n : ℕ)
    → (is_jump (row.operation p) ≡ true)
    ⊎ (row.operation (record { opcode = p.opcode; modrm = p.modrm; displacement = p.displacement; constant = p.constant; next = n }) ≡ row.operation p)

infixr 30 ◌&◌
data AllStill : List Row → Type 0 where
  none_left : AllStill []
  ◌&◌ : {row : Row} {rows : List Row} → IsStill row → AllStill rows → AllStill (row ∷ rows)

all_still-get : (rows : List Row) (k : ℕ) (row : Row) → AllStill rows → slice_get rows k ≡ Some row → IsStill row
all_still-get [] k row still at = cc
all_still-get (r ∷ rows) zero row (first & rest) at = let same : r ≡ row = cc in subst IsStill same first
all_still-get (r ∷ rows) (suc k) row (first & rest) at = all_still-get rows k row rest at

all_still-append : (rows others : List Row) → AllStill rows → AllStill others → AllStill (rows ++ others)
all_still-append [] others still more = more
all_still-append (r ∷ rows) others (first & rest) more = first & all_still-append rows others rest more

arithmetic-still : AllStill arithmetic_rows
arithmetic-still =
    (λ p n. inr refl)
    & (λ p n. inr refl)
    & (λ p n. inr refl)
    & (λ p n. inr refl)
    & (λ p n. inr refl)
    & (λ p n. inr refl)
    & (λ p n. inr refl)
    & (λ p n. inr refl)
    & (λ p n. inr refl)
    & (λ p n. inr refl)
    & (λ p n. inr refl)
    & none_left

unary-still : AllStill unary_rows
unary-still =
    (λ p n. inr refl)
    & (λ p n. inr refl)
    & (λ p n. inr refl)
    & (λ p n. inr refl)
    & (λ p n. inr refl)
    & (λ p n. inr refl)
    & (λ p n. inr refl)
    & (λ p n. inr refl)
    & (λ p n. inr refl)
    & none_left

stack-still : AllStill stack_rows
stack-still =
    (λ p n. inr refl)
    & (λ p n. inr refl)
    & (λ p n. inr refl)
    & (λ p n. inr refl)
    & (λ p n. inr refl)
    & (λ p n. inr refl)
    & (λ p n. inr refl)
    & (λ p n. inr refl)
    & (λ p n. inr refl)
    & (λ p n. inr refl)
    & none_left

move-still : AllStill move_rows
move-still =
    (λ p n. inr refl)
    & (λ p n. inr refl)
    & (λ p n. inr refl)
    & (λ p n. inr refl)
    & (λ p n. inr refl)
    & (λ p n. inr refl)
    & (λ p n. inr refl)
    & (λ p n. inr refl)
    & (λ p n. inr refl)
    & (λ p n. inr refl)
    & (λ p n. inr refl)
    & (λ p n. inr refl)
    & (λ p n. inr refl)
    & none_left

control-still : AllStill control_rows
control-still =
    (λ p n. inl refl)
    & (λ p n. inl refl)
    & (λ p n. inl refl)
    & (λ p n. inl refl)
    & (λ p n. inl refl)
    & (λ p n. inl refl)
    & (λ p n. inl refl)
    & (λ p n. inl refl)
    & (λ p n. inl refl)
    & (λ p n. inr refl)
    & (λ p n. inr refl)
    & (λ p n. inr refl)
    & (λ p n. inr refl)
    & (λ p n. inr refl)
    & (λ p n. inr refl)
    & none_left

plain-still : AllStill plain_rows
plain-still =
    (λ p n. inr refl)
    & (λ p n. inr refl)
    & (λ p n. inr refl)
    & (λ p n. inr refl)
    & (λ p n. inr refl)
    & (λ p n. inr refl)
    & (λ p n. inr refl)
    & (λ p n. inr refl)
    & (λ p n. inr refl)
    & (λ p n. inr refl)
    & none_left

later-still : AllStill later_rows
later-still =
    (λ p n. inr refl)
    & (λ p n. inr refl)
    & (λ p n. inr refl)
    & (λ p n. inr refl)
    & (λ p n. inr refl)
    & (λ p n. inr refl)
    & (λ p n. inr refl)
    & (λ p n. inr refl)
    & (λ p n. inr refl)
    & none_left

besides-still : (cpu : Cpu) → AllStill (rows_besides cpu)
besides-still I8086 = none_left
besides-still I186 = later-still

table-still : (cpu : Cpu) → AllStill (table cpu)
unfolding table
table-still cpu =
    all_still-append arithmetic_rows _ arithmetic-still
    (all_still-append unary_rows _ unary-still
    (all_still-append stack_rows _ stack-still
    (all_still-append move_rows _ move-still
    (all_still-append control_rows _ control-still
    (all_still-append plain_rows _ plain-still (besides-still cpu))))))

op_same : (op other : Op) (size : ℕ) → op ≡ other → ◌≡◌ {A = Option Instr} (Some (record { op = op; len = size })) (Some (record { op = other; len = size }))
op_same op other size e = ap (λ (o : Op). Some (record { op = o; len = size })) e

-- what is no jump stands at each offset
moved : (cpu : Cpu) (at other : ℕ) (op : Op) (size : ℕ) (bytes : List ℕ) → is_jump op ≡ false
    → instruction_at cpu at bytes ≡ Some (record { op = op; len = size }) → instruction_at cpu other bytes ≡ Some (record { op = op; len = size })
moved cpu at other op size bytes apart e =
    let found = instruction-row cpu at bytes (record { op = op; len = size }) e in
    let row = found.0 in
    let op_is : row.operation (row_parts row at bytes) ≡ op = ap (λ (i : Instr). i.op) found.3 in
    let size_is : row_length row bytes ≡ size = ap (λ (i : Instr). i.len) found.3 in
    let still : IsStill row = all_still-get (table cpu) found.1.0 row (table-still cpu) found.1.1 in
    let there = instruction-of_row cpu other bytes row found.1 found.2 in
    elim (still (row_parts row at bytes) (other + row_length row bytes)) [
      | inl jumps ↦
          let f : ⊥ = let jump : is_jump op ≡ true = subst (λ (o : Op). is_jump o ≡ true) op_is jumps in cc in
          absurd f
      | inr same ↦
          there ∙ op_same (row.operation (row_parts row other bytes)) op (row_length row bytes) (same ∙ op_is)
          ∙ ap (λ n. Some (record { op = op; len = n })) size_is
    ]

-- what is no jump is encoded at the first offset for the later processor
pub known-first : (op : Op) → target_of op ≡ None → IsKnown op → (bytes : List ℕ) × IsEncoding I186 0 op bytes
known-first op none k =
    let apart : is_jump op ≡ false = ap is_told none in
    let size : ℕ = length k.bytes in
    let later : (cpu : Cpu) → instruction_at cpu k.at k.bytes ≡ Some (record { op = op; len = size }) → instruction_at I186 k.at k.bytes ≡ Some (record { op = op; len = size }) =
    λ cpu. elim cpu as (λ cpu. instruction_at cpu k.at k.bytes ≡ Some (record { op = op; len = size }) → instruction_at I186 k.at k.bytes ≡ Some (record { op = op; len = size })) [
      | I8086 ↦ λ e. later_processor k.at k.bytes (record { op = op; len = size }) e
      | I186 ↦ λ e. e
    ] in
    let there = later k.cpu k.encoding.decoded in
    let within = k.encoding.within in (
      k.bytes,
      record {
        decoded = moved I186 k.at 0 op size k.bytes apart there;
        within = omega arith;
        are_bytes = k.encoding.are_bytes;
      },
    )
