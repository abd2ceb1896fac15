-- Small codes, tried against the definitions that no body meets yet: jumps through a table, frame forms, and the
-- constructs and counts that are told of them. Numbers stand here as they are printed.
use Rattle.std.proofs.Common.{◌≡◌, inl, inr, ◌<◌, ◌≤◌, ◌^◌, ◌+◌, ℕ, zero, suc, Bool, true, false, List, [], ◌∷◌, ◌++◌, length, map, Contains, Option, Some, None, refl, sym, arith}
use Rattle.std.specs.List.{slice_index_or}
use Rattle.dcc_num.specs.declared.Width.TheVariants.{Word as word_width}
use Rattle.dcc_num.specs.declared.Reg.TheVariants.{Ax, Bx, Sp, Bp}
use Rattle.dcc_num.specs.Numbers.{no_flags, sign_extension_of, signed_of}
use Rattle.dcc_machine.specs.declared.cpu.Cpu.TheVariants.{I8086, I186}
use Rattle.dcc_prog.specs.declared.refusal.ConstructKind.TheVariants.{NoLayout, OutsideProfile, IndirectJump, IndirectCall, DosNumber, StackHeight, FrameAccess, ArgumentsShort, ArgumentReused, SeveralResults, EntryReturn, Division}
use Rattle.dcc_prog.specs.declared.refusal.FrameFault.TheVariants.{AccessOutside}
use Rattle.dcc_prog.specs.declared.refusal.LimitName.TheVariants.{Entries}
use Rattle.dcc_machine.specs.declared.image.Image.{Image}
use Rattle.dcc_prog.specs.declared.procedure.Layout.{Layout}
use Rattle.dcc_machine.specs.declared.instr.Alu.TheVariants.{Add, Cmp}
use Rattle.dcc_machine.specs.declared.instr.Unary.TheVariants.{Dec}
use Rattle.dcc_machine.specs.declared.instr.Operand.TheVariants.{Word, Mem, Const}
use Rattle.dcc_machine.specs.declared.instr.Op.{Op}
use Rattle.dcc_machine.specs.declared.instr.Op.TheVariants.{Alu as AluOp, Unary as UnaryOp, Mov, Lea, Push, Pop, Enter, Leave, Table, Call, Ret, Int21}
use Rattle.dcc_machine.specs.Bytes.{word_at}
use Rattle.dcc_machine.specs.Code.{code_of}
use Rattle.dcc_machine.specs.Table.{table, instruction_at}
use Rattle.dcc_prog.specs.Trail.{StandsAt, table_number, successors, IsTrail, start}
use Rattle.dcc_prog.specs.FrameForm.{is_framed, is_frame_form}
use Rattle.dcc_prog.specs.Construct.{construct_number, IsOfTrails, unknown, foreign, indirect_jump, formless, no_number, no_table, indirect_call, dos_number, not_known, other_number, entry_return, returns, calls}
use Rattle.dcc_prog.specs.Limit.{IsAbove, entries}
use Rattle.dcc_machine.proofs.Examples.{image_of}
use Rattle.dcc_machine.proofs.MzImageLaws.{vec_of}

-- Numbers.

construct-numbers :
    map construct_number
    (NoLayout ∷ OutsideProfile ∷ IndirectJump ∷ IndirectCall ∷ DosNumber ∷ StackHeight ∷ FrameAccess AccessOutside
    ∷ ArgumentsShort ∷ ArgumentReused ∷ SeveralResults ∷ EntryReturn ∷ Division ∷ [])
    ≡ 1 ∷ 2 ∷ 3 ∷ 4 ∷ 5 ∷ 6 ∷ 7 ∷ 8 ∷ 9 ∷ 10 ∷ 11 ∷ 12 ∷ []
construct-numbers = refl

-- Layouts: the image of a code has a prelude of five bytes before it.

abbrev pub layout_of : List ℕ → Layout
layout_of code = record {
  cpu = I8086;
  ds = 0x0111;
  delta = 0;
  lo = 0;
  hi = 256;
  start_ip = 5;
  code_end = 5 + length code;
  regs = 0x0111 ∷ 0 ∷ 0 ∷ 0 ∷ 0x0100 ∷ 0 ∷ 0 ∷ 0 ∷ [];
  flags = no_flags;
}

-- Places in lists.

pub first : (x : ℕ) (xs : List ℕ) → Contains (x ∷ xs) x
first x xs = (0, omega arith, refl)

second : (x y : ℕ) (xs : List ℕ) → Contains (x ∷ y ∷ xs) y
second x y xs = (1, omega arith, refl)

only-at : (x y k : ℕ) → k < 1 → slice_index_or (x ∷ []) k y ≡ y → y ≡ x
only-at x y zero few is = sym is
only-at x y (suc k) few is = absurd (omega (arith, few))

pub only : (x y : ℕ) → Contains (x ∷ []) y → y ≡ x
only x y has = only-at x y has.0 has.1 has.2

same : (n : ℕ) → n ≤ n
same n = omega arith

-- Jumps through a table.

-- 0008 cmp bx,3; 000B ja 0026; 000D shl bx,1; 000F jmp cs:[bx+002A]; four arms, an end, and the table
abbrev cases : List ℕ
cases =
    0x83 ∷ 0xFB ∷ 0x03 ∷ 0x77 ∷ 0x19 ∷ 0xD1 ∷ 0xE3 ∷ 0x2E ∷ 0xFF ∷ 0xA7 ∷ 0x2A ∷ 0x00
    ∷ 0xB0 ∷ 0x01 ∷ 0xEB ∷ 0x0A ∷ 0xB0 ∷ 0x02 ∷ 0xEB ∷ 0x06 ∷ 0xB0 ∷ 0x03 ∷ 0xEB ∷ 0x02 ∷ 0xB0 ∷ 0x04
    ∷ 0xB4 ∷ 0x4C ∷ 0xCD ∷ 0x21 ∷ 0xB0 ∷ 0x09 ∷ 0xEB ∷ 0xF8
    ∷ 0x14 ∷ 0x00 ∷ 0x18 ∷ 0x00 ∷ 0x1C ∷ 0x00 ∷ 0x20 ∷ 0x00 ∷ []

-- 0005 mov bx,0
abbrev switch : List ℕ
switch = 0xBB ∷ 0x00 ∷ 0x00 ∷ cases

abbrev switch_image : Image
switch_image = image_of switch (omega arith)

switch-number : table_number switch_image (layout_of switch) Bx (0x0D ∷ 0x0B ∷ 0x08 ∷ 0x05 ∷ []) ≡ Some 3
unfolding instruction_at table code_of word_at sign_extension_of signed_of vec_of
switch-number = refl

switch-goes_on :
    successors switch_image (layout_of switch) (0x0F ∷ 0x0D ∷ 0x0B ∷ 0x08 ∷ 0x05 ∷ [])
    ≡ 0x14 ∷ 0x18 ∷ 0x1C ∷ 0x20 ∷ []
unfolding instruction_at table code_of word_at sign_extension_of signed_of vec_of
switch-goes_on = refl

other_register-none : table_number switch_image (layout_of switch) Ax (0x0D ∷ 0x0B ∷ 0x08 ∷ 0x05 ∷ []) ≡ None
unfolding instruction_at table code_of word_at sign_extension_of signed_of vec_of
other_register-none = refl

-- 0005 je 000D; 0007 nop: a second way to the doubling
abbrev two_ways : List ℕ
two_ways = 0x74 ∷ 0x06 ∷ 0x90 ∷ cases

abbrev two_ways_image : Image
two_ways_image = image_of two_ways (omega arith)

two_ways-construct : IsOfTrails IndirectJump two_ways_image (layout_of two_ways) 0x000F
unfolding instruction_at table code_of word_at sign_extension_of signed_of vec_of
two_ways-construct =
    let trail : IsTrail two_ways_image (layout_of two_ways) 5 (0x0F ∷ 0x0D ∷ 0x05 ∷ []) =
    (first 0x0F [], (first 0x0D (0x07 ∷ []), refl)) in
    record {
      entry = 5;
      is_entry = start;
      node = record { before = 0x0D ∷ 0x05 ∷ []; trail = trail };
      stands = formless (no_number (record {
        before = 0x0D ∷ 0x05 ∷ [];
        trail = trail;
        register = Bx;
        table = 0x2A;
        stands = (record { op = Table Bx 0x2A; len = 5 }, refl, refl);
        number_is = refl;
      }));
    }

-- 0005 cmp bx,3; 0008 ja 000F; 000A shl bx,1; 000C jmp cs:[bx+0011], where the code ends
abbrev cut : List ℕ
cut = 0x83 ∷ 0xFB ∷ 0x03 ∷ 0x77 ∷ 0x05 ∷ 0xD1 ∷ 0xE3 ∷ 0x2E ∷ 0xFF ∷ 0xA7 ∷ 0x11 ∷ 0x00 ∷ []

abbrev cut_image : Image
cut_image = image_of cut (omega arith)

cut-construct : IsOfTrails IndirectJump cut_image (layout_of cut) 0x000C
unfolding instruction_at table code_of word_at sign_extension_of signed_of vec_of
cut-construct =
    let trail : IsTrail cut_image (layout_of cut) 5 (0x0C ∷ 0x0A ∷ 0x08 ∷ 0x05 ∷ []) =
    (first 0x0C [], (second 0x0F 0x0A [], (first 0x08 [], refl))) in
    let stands : StandsAt cut_image (layout_of cut) 0x0C (Table Bx 0x11) =
    (record { op = Table Bx 0x11; len = 5 }, refl, refl) in
    record {
      entry = 5;
      is_entry = start;
      node = record { before = 0x0A ∷ 0x08 ∷ 0x05 ∷ []; trail = trail };
      stands = formless (no_table (record {
        before = 0x0A ∷ 0x08 ∷ 0x05 ∷ [];
        trail = trail;
        register = Bx;
        table = 0x11;
        stands = stands;
        number_is = refl;
      }) (omega arith) (record { register = Bx; table = 0x11; stands = stands; outside = omega arith }));
    }

-- 0005 cmp bx,0100h; 0009 ja 0012; 000B shl bx,1; 000D jmp cs:[bx+0000]
abbrev many : List ℕ
many = 0x81 ∷ 0xFB ∷ 0x00 ∷ 0x01 ∷ 0x77 ∷ 0x07 ∷ 0xD1 ∷ 0xE3 ∷ 0x2E ∷ 0xFF ∷ 0xA7 ∷ 0x00 ∷ 0x00 ∷ []

abbrev many_image : Image
many_image = image_of many (omega arith)

many-limit : IsAbove many_image (layout_of many) Entries 257
unfolding instruction_at table code_of word_at sign_extension_of signed_of vec_of
many-limit = entries {at = 0x0D} start (record {
  before = 0x0B ∷ 0x09 ∷ 0x05 ∷ [];
  trail = (first 0x0D [], (second 0x12 0x0B [], (first 0x09 [], refl)));
  register = Bx;
  table = 0;
  stands = (record { op = Table Bx 0; len = 5 }, refl, refl);
  number_is = refl;
}) (same 256)

-- 0005 mov al,2; 0007 cmp al,3; 0009 ja 0028; 000B xor ah,ah; 000D shl ax,1; 000F mov bx,ax; 0011 jmp cs:[bx+002C]
abbrev byte_switch : List ℕ
byte_switch =
    0xB0 ∷ 0x02 ∷ 0x3C ∷ 0x03 ∷ 0x77 ∷ 0x1D ∷ 0x32 ∷ 0xE4 ∷ 0xD1 ∷ 0xE0 ∷ 0x8B ∷ 0xD8
    ∷ 0x2E ∷ 0xFF ∷ 0xA7 ∷ 0x2C ∷ 0x00 ∷ []

byte_switch-number :
    table_number (image_of byte_switch (omega arith)) (layout_of byte_switch) Bx
    (0x0F ∷ 0x0D ∷ 0x0B ∷ 0x09 ∷ 0x07 ∷ 0x05 ∷ [])
    ≡ Some 3
unfolding instruction_at table code_of word_at sign_extension_of signed_of vec_of
byte_switch-number = refl

-- 0005 mov ax,2; 0008 cmp ax,3; 000B ja 0028; 000D shl ax,1; 000F mov bx,ax; 0011 jmp cs:[bx+002C]
abbrev moved_switch : ℕ → List ℕ
moved_switch modrm =
    0xB8 ∷ 0x02 ∷ 0x00 ∷ 0x3D ∷ 0x03 ∷ 0x00 ∷ 0x77 ∷ 0x1B ∷ 0xD1 ∷ 0xE0 ∷ 0x8B ∷ modrm
    ∷ 0x2E ∷ 0xFF ∷ 0xA7 ∷ 0x2C ∷ 0x00 ∷ []

-- N of it; where another register is moved to BX there is none
moved_number : ℕ → Option ℕ
moved_number modrm =
    table_number (image_of (moved_switch modrm) (omega arith)) (layout_of (moved_switch modrm)) Bx
    (0x0F ∷ 0x0D ∷ 0x0B ∷ 0x08 ∷ 0x05 ∷ [])

moved_switch-number : moved_number 0xD8 ≡ Some 3
unfolding moved_number instruction_at table code_of word_at sign_extension_of signed_of vec_of
moved_switch-number = refl

other_moved-none : moved_number 0xD9 ≡ None
unfolding moved_number instruction_at table code_of word_at sign_extension_of signed_of vec_of
other_moved-none = refl

-- Indirect jumps and calls.

-- 0005 call [bx]
abbrev pub call_through : List ℕ
call_through = 0xFF ∷ 0x17 ∷ []

pub call_through-construct : IsOfTrails IndirectCall (image_of call_through (omega arith)) (layout_of call_through) 0x0005
unfolding code_of vec_of
call_through-construct = record {
  entry = 5;
  is_entry = start;
  node = record { before = []; trail = refl };
  stands = indirect_call (inl (record { inside = same 7; opcode = refl; reg_is = refl }));
}

-- 0005 jmp [bx]
abbrev pub jump_through : List ℕ
jump_through = 0xFF ∷ 0x27 ∷ []

pub jump_through-construct : IsOfTrails IndirectJump (image_of jump_through (omega arith)) (layout_of jump_through) 0x0005
unfolding code_of vec_of
jump_through-construct = record {
  entry = 5;
  is_entry = start;
  node = record { before = []; trail = refl };
  stands = indirect_jump (inl (record { inside = same 7; opcode = refl; reg_is = refl }));
}

-- Numbers of DOS calls.

-- 0005 mov ah,[0000]; 0009 int 21h
abbrev pub unknown_number : List ℕ
unknown_number = 0x8A ∷ 0x26 ∷ 0x00 ∷ 0x00 ∷ 0xCD ∷ 0x21 ∷ []

abbrev unknown_image : Image
unknown_image = image_of unknown_number (omega arith)

pub unknown_number-construct : IsOfTrails DosNumber unknown_image (layout_of unknown_number) 0x0009
unfolding instruction_at table code_of word_at sign_extension_of signed_of vec_of
unknown_number-construct =
    let trail : IsTrail unknown_image (layout_of unknown_number) 5 (0x09 ∷ 0x05 ∷ []) = (first 0x09 [], refl) in
    record {
      entry = 5;
      is_entry = start;
      node = record { before = 0x05 ∷ []; trail = trail };
      stands = dos_number (not_known (record {
        before = 0x05 ∷ [];
        trail = trail;
        stands = (record { op = Int21; len = 2 }, refl, refl);
        ah_is = refl;
      }));
    }

-- 0005 mov ah,03h; 0007 int 21h
abbrev third_call : List ℕ
third_call = 0xB4 ∷ 0x03 ∷ 0xCD ∷ 0x21 ∷ []

abbrev third_image : Image
third_image = image_of third_call (omega arith)

third_call-construct : IsOfTrails DosNumber third_image (layout_of third_call) 0x0007
unfolding instruction_at table code_of word_at sign_extension_of signed_of vec_of
third_call-construct =
    let trail : IsTrail third_image (layout_of third_call) 5 (0x07 ∷ 0x05 ∷ []) = (first 0x07 [], refl) in
    record {
      entry = 5;
      is_entry = start;
      node = record { before = 0x05 ∷ []; trail = trail };
      stands = dos_number (other_number {number = 3} (record {
        before = 0x05 ∷ [];
        trail = trail;
        stands = (record { op = Int21; len = 2 }, refl, refl);
        ah_is = refl;
      }) refl);
    }

-- 0005 mov ax,4C00h; 0008 int 21h
abbrev exit : List ℕ
exit = 0xB8 ∷ 0x00 ∷ 0x4C ∷ 0xCD ∷ 0x21 ∷ []

exit-ends : successors (image_of exit (omega arith)) (layout_of exit) (0x08 ∷ 0x05 ∷ []) ≡ []
unfolding instruction_at table code_of word_at sign_extension_of signed_of vec_of
exit-ends = refl

-- Returns from the entry procedure, and calls of it.

-- 0005 ret
abbrev pub ret : List ℕ
ret = 0xC3 ∷ []

pub ret-construct : IsOfTrails EntryReturn (image_of ret (omega arith)) (layout_of ret) 0x0005
unfolding instruction_at table code_of word_at sign_extension_of signed_of vec_of
ret-construct = record {
  entry = 5;
  is_entry = start;
  node = record { before = []; trail = refl };
  stands = entry_return (returns {count = 0} refl (record { op = Ret 0; len = 1 }, refl, refl));
}

-- 0005 call 0005
abbrev again : List ℕ
again = 0xE8 ∷ 0xFD ∷ 0xFF ∷ []

again-construct : IsOfTrails EntryReturn (image_of again (omega arith)) (layout_of again) 0x0005
unfolding instruction_at table code_of word_at sign_extension_of signed_of vec_of
again-construct = record {
  entry = 5;
  is_entry = start;
  node = record { before = []; trail = refl };
  stands = entry_return (calls (record { op = Call 5; len = 3 }, refl, refl));
}

-- Frame forms.

-- 0005 push bp; 0006 mov bp,sp
abbrev framed : List ℕ
framed = 0x55 ∷ 0x8B ∷ 0xEC ∷ []

-- 0005 mov bp,5
abbrev pub bare : List ℕ
bare = 0xBD ∷ 0x05 ∷ 0x00 ∷ []

-- in a procedure that begins so, at an offset
abbrev allowed : (code : List ℕ) → length code < 2 ^ 62 → ℕ → Op → Bool
allowed code few at op = is_frame_form (image_of code few) (layout_of code) 5 at op

-- [bp+4]
abbrev argument : Op
argument = Mov (Word Ax) (Mem word_width (record { base = Some Bp; index = None; disp = 4 }))

framed-is : is_framed (image_of framed (omega arith)) (layout_of framed) 5 ≡ true
unfolding instruction_at table code_of word_at sign_extension_of signed_of vec_of
framed-is = refl

bare-not : is_framed (image_of bare (omega arith)) (layout_of bare) 5 ≡ false
unfolding instruction_at table code_of word_at sign_extension_of signed_of vec_of
bare-not = refl

-- LEA of SP from BP plus a word
abbrev lea_sp : ℕ → Op
lea_sp word = Lea Sp (record { base = Some Bp; index = None; disp = word })

-- some operations at offset 8 that a framed procedure may have
abbrev frame_operations : List Op
frame_operations =
    Push (Word Ax)
    ∷ AluOp Add (Word Sp) (Const word_width 2)
    ∷ UnaryOp Dec (Word Sp)
    ∷ argument
    ∷ Mov (Word Sp) (Word Bp)
    ∷ lea_sp 0xFFFE
    ∷ Pop (Word Bp)
    ∷ Leave
    ∷ Mov (Word Bx) (Word Bp)
    ∷ []

-- some operations at offset 8 that no procedure may have there
abbrev foreign_operations : List Op
foreign_operations =
    Push (Word Bp)
    ∷ Mov (Word Bp) (Word Sp)
    ∷ Mov (Word Bp) (Const word_width 5)
    ∷ Mov (Word Bp) (Word Bp)
    ∷ lea_sp 0x0002
    ∷ AluOp Cmp (Word Sp) (Const word_width 2)
    ∷ Enter 2
    ∷ []

framed-allows :
    map (λ op. allowed framed (omega arith) 8 op) (frame_operations ++ foreign_operations)
    ≡ true ∷ true ∷ true ∷ true ∷ true ∷ true ∷ true ∷ true ∷ true
    ∷ false ∷ false ∷ false ∷ false ∷ false ∷ false ∷ false ∷ []
unfolding instruction_at table code_of word_at sign_extension_of signed_of vec_of
framed-allows = refl

-- without a frame the first three alone are allowed
bare-allows :
    map (λ op. allowed bare (omega arith) 8 op) (frame_operations ++ foreign_operations)
    ≡ true ∷ true ∷ true ∷ false ∷ false ∷ false ∷ false ∷ false ∷ false
    ∷ false ∷ false ∷ false ∷ false ∷ false ∷ false ∷ false ∷ []
unfolding instruction_at table code_of word_at sign_extension_of signed_of vec_of
bare-allows = refl

frame-begins : allowed framed (omega arith) 5 (Push (Word Bp)) ≡ true
unfolding instruction_at table code_of word_at sign_extension_of signed_of vec_of
frame-begins = refl

-- The 80186.

-- 0005 enter 2,0; 0009 mov byte [bp-2],2Ah; 000D leave; 000E ret
abbrev entered : List ℕ
entered = 0xC8 ∷ 0x02 ∷ 0x00 ∷ 0x00 ∷ 0xC6 ∷ 0x46 ∷ 0xFE ∷ 0x2A ∷ 0xC9 ∷ 0xC3 ∷ []

abbrev later_layout : List ℕ → Layout
later_layout code = record (layout_of code) { cpu = I186 }

entered-is : is_framed (image_of entered (omega arith)) (later_layout entered) 5 ≡ true
unfolding instruction_at table code_of word_at sign_extension_of signed_of vec_of
entered-is = refl

entered-begins : is_frame_form (image_of entered (omega arith)) (later_layout entered) 5 5 (Enter 2) ≡ true
unfolding instruction_at table code_of word_at sign_extension_of signed_of vec_of
entered-begins = refl

-- the 8086 has no ENTER, so that the program has a construct on the one processor and none there on the other
entered-unknown : IsOfTrails OutsideProfile (image_of entered (omega arith)) (layout_of entered) 0x0005
unfolding instruction_at table code_of word_at sign_extension_of signed_of vec_of
entered-unknown = record {
  entry = 5;
  is_entry = start;
  node = record { before = []; trail = refl };
  stands = unknown (record {
    none = refl;
    no_jump = λ jump. elim jump [ inl is ↦ let clash = is.opcode in cc | inr is ↦ let clash = is.opcode in cc ];
    no_call = λ call. elim call [ inl is ↦ let clash = is.opcode in cc | inr is ↦ let clash = is.opcode in cc ];
  });
}

pub bare-construct : IsOfTrails OutsideProfile (image_of bare (omega arith)) (layout_of bare) 0x0005
unfolding instruction_at table code_of word_at sign_extension_of signed_of vec_of
bare-construct = record {
  entry = 5;
  is_entry = start;
  node = record { before = []; trail = refl };
  stands = foreign (record {
    op = Mov (Word Bp) (Const word_width 5);
    stands = (record { op = Mov (Word Bp) (Const word_width 5); len = 3 }, refl, refl);
    foreign = refl;
  });
}
