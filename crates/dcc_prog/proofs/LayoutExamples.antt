-- Layouts of small images, and the constructs that are told of whole programs: the image, its layout, and what stands
-- at one of its offsets. Numbers stand here as they are printed.
use Rattle.std.proofs.Common.{◌≡◌, ◌<◌, ◌≤◌, ◌^◌, ◌+◌, ◌*◌, ℕ, true, false, List, [], ◌∷◌, length, drop, Some, None, refl, sym, ap, ◌∙◌, subst, arith}
use Rattle.std.specs.List.{list_any}
use Rattle.std.proofs.lemmas.List.{take_all}
use Rattle.dcc_num.specs.declared.Width.TheVariants.{Word as word_width}
use Rattle.dcc_num.specs.declared.Reg.TheVariants.{Ax, Bx, Sp, Bp}
use Rattle.dcc_num.specs.Numbers.{sign_extension_of, signed_of}
use Rattle.dcc_machine.specs.declared.cpu.Cpu.TheVariants.{I8086}
use Rattle.dcc_prog.specs.declared.refusal.ConstructKind.TheVariants.{NoLayout, OutsideProfile, IndirectJump, IndirectCall, DosNumber, EntryReturn, Division}
use Rattle.dcc_machine.specs.declared.segment.TheConstants.{DS}
use Rattle.dcc_machine.specs.declared.image.Image.{Image}
use Rattle.dcc_machine.specs.declared.instr.Unary.TheVariants.{Idiv}
use Rattle.dcc_machine.specs.declared.instr.Operand.TheVariants.{Word, Seg, Const}
use Rattle.dcc_machine.specs.declared.instr.Op.TheVariants.{Unary as UnaryOp, Mov, Ret, Int21}
use Rattle.dcc_machine.specs.declared.instr.Instr.{Instr}
use Rattle.dcc_machine.specs.Bytes.{word_at}
use Rattle.dcc_machine.specs.Code.{code_of}
use Rattle.dcc_machine.specs.Table.{table, instruction_at}
use Rattle.dcc_machine.specs.Machine.{word_in, stack_segment, data_segment, start_state}
use Rattle.dcc_prog.specs.Layout.{is_prelude_form, writes_ds, IsRun, offset_after, state_after, IsPrelude, HasLayout}
use Rattle.dcc_prog.specs.Construct.{IsConstruct, lacks_layout, of_trails}
use Rattle.dcc_machine.proofs.MzImageLaws.{vec_of}
use Rattle.dcc_machine.proofs.FetchLaws.{IsPlaced}
use Rattle.dcc_prog.proofs.PreludeLaws.{NoFormAt, none_ends, prelude-is, prelude-once, run-append}
use Rattle.dcc_prog.proofs.PreludeSteps.{executed, at_offset, run-steps}
use Rattle.dcc_machine.proofs.Examples.{image_of}
use Rattle.dcc_prog.proofs.Examples.{layout_of, bare, bare-construct, jump_through, jump_through-construct, call_through, call_through-construct, unknown_number, unknown_number-construct, ret, ret-construct}
use Rattle.dcc_prog.proofs.DivisionExamples.{divides, divides-construct}

-- Where a prelude can't go on.

-- no instruction stands there
none-stops : (code : List ℕ) (at : ℕ) → instruction_at I8086 at (drop at code) ≡ None → NoFormAt I8086 code at
none-stops code at none instr form = let clash = sym none ∙ form.found in cc

-- one stands there that no prelude has
other-stops :
    (code : List ℕ) (at : ℕ) (other : Instr)
    → instruction_at I8086 at (drop at code) ≡ Some other → is_prelude_form other.op ≡ false → NoFormAt I8086 code at
other-stops code at other found foreign instr form =
    let both = sym found ∙ form.found in
    let same : other ≡ instr = cc in
    let clash = sym foreign ∙ ap (λ (i : Instr). is_prelude_form i.op) same ∙ form.form in cc

-- The prelude of five bytes.

-- 0000 mov ax,0111h; 0003 mov ds,ax
abbrev loads_ds : List Instr
loads_ds =
    record { op = Mov (Word Ax) (Const word_width 0x0111); len = 3 } ∷ record { op = Mov (Seg DS) (Word Ax); len = 2 }
    ∷ []

-- the code of an image with it
abbrev whole : List ℕ → List ℕ
whole code = 0xB8 ∷ 0x11 ∷ 0x01 ∷ 0x8E ∷ 0xD8 ∷ code

code-is : (code : List ℕ) (few : length code < 2 ^ 62) → code_of (image_of code few) ≡ whole code
unfolding code_of vec_of
code-is code few = take_all (5 + length code) (whole code) (omega arith)

run-is : (code : List ℕ) → IsRun I8086 (whole code) 0 loads_ds
unfolding instruction_at table word_at sign_extension_of signed_of
run-is code = (record { found = refl; form = refl }, (record { found = refl; form = refl }, tt))

placed : (code : List ℕ) (few : length code < 2 ^ 62) → length code ≤ 11 → IsPlaced (image_of code few)
unfolding vec_of
placed code few short = record { low = omega arith; high = omega arith; short = omega arith; within = omega arith }

-- the machine after it
left-is :
    (code : List ℕ) (few : length code < 2 ^ 62) → length code ≤ 11
    → state_after I8086 (image_of code few) loads_ds
    ≡ at_offset (image_of code few) [] (executed I8086 (start_state (image_of code few) []) loads_ds) 5
unfolding state_after
left-is code few short =
    let image = image_of code few in
    run-steps I8086 image [] (start_state image []) 0 loads_ds (placed code few short) refl
    (subst (λ bytes. IsRun I8086 bytes 0 loads_ds) (sym (code-is code few)) (run-is code))

-- where so few bytes follow that the data segment begins above the image, and where the prelude can't go on by other
-- instructions to one after which it may end, the layout holds
has-layout :
    (code : List ℕ) (few : length code < 2 ^ 62) (more : List Instr)
    → 0 < length code → length code ≤ 11
    → IsRun I8086 (whole code) 5 more → NoFormAt I8086 (whole code) (offset_after 5 more) → none_ends more ≡ true
    → HasLayout (image_of code few) (layout_of code)
unfolding vec_of
has-layout code few more some short run stop none =
    let image = image_of code few in
    let same = code-is code few in
    let left = left-is code few short in
    record {
      prelude = loads_ds;
      is_prelude = subst (λ bytes. IsPrelude I8086 bytes 0 loads_ds) (sym same)
          (prelude-is I8086 (whole code) 0 loads_ds more (run-append I8086 (whole code) 0 loads_ds more (run-is code) run) stop refl none);
      ds_written = refl;
      left = record {
        regs = ap (λ s. s.regs) (sym left);
        flags = ap (λ s. s.flags) (sym left);
        ds = ap (λ s. data_segment s) (sym left);
        delta = ap (λ s. stack_segment s * 16) (sym left);
        lo = omega arith;
        hi = ap (λ s. word_in s Sp + 0) (sym left);
        start_ip = refl;
        code_end = omega arith;
      };
      small = record { code_below = omega arith; ds_fits = omega arith; delta_fits = omega arith; hi_fits = omega arith; has_stack = omega arith; has_code = omega arith };
    }

-- Constructs of whole programs.

-- 0005 mov bp,5
bare-told : IsConstruct I8086 OutsideProfile (image_of bare (omega arith)) 0x0005
unfolding instruction_at table word_at sign_extension_of signed_of
bare-told = of_trails refl (has-layout bare (omega arith)
    (record { op = Mov (Word Bp) (Const word_width 5); len = 3 } ∷ []) (omega arith) (omega arith)
    (record { found = refl; form = refl }, tt) (none-stops (whole bare) 8 refl) refl) bare-construct

-- 0005 jmp [bx]
jump_through-told : IsConstruct I8086 IndirectJump (image_of jump_through (omega arith)) 0x0005
unfolding instruction_at table word_at sign_extension_of signed_of
jump_through-told = of_trails refl (has-layout jump_through (omega arith) [] (omega arith) (omega arith) tt
    (none-stops (whole jump_through) 5 refl) refl) jump_through-construct

-- 0005 call [bx]
call_through-told : IsConstruct I8086 IndirectCall (image_of call_through (omega arith)) 0x0005
unfolding instruction_at table word_at sign_extension_of signed_of
call_through-told = of_trails refl (has-layout call_through (omega arith) [] (omega arith) (omega arith) tt
    (none-stops (whole call_through) 5 refl) refl) call_through-construct

-- 0005 mov ah,[0000]; 0009 int 21h
unknown_number-told : IsConstruct I8086 DosNumber (image_of unknown_number (omega arith)) 0x0009
unfolding instruction_at table word_at sign_extension_of signed_of
unknown_number-told = of_trails refl (has-layout unknown_number (omega arith) [] (omega arith) (omega arith) tt
    (other-stops (whole unknown_number) 5 _ refl refl) refl) unknown_number-construct

-- 0005 ret
ret-told : IsConstruct I8086 EntryReturn (image_of ret (omega arith)) 0x0005
unfolding instruction_at table word_at sign_extension_of signed_of
ret-told = of_trails refl (has-layout ret (omega arith) [] (omega arith) (omega arith) tt
    (other-stops (whole ret) 5 (record { op = Ret 0; len = 1 }) refl refl) refl) ret-construct

-- 0005 mov ax,1; 0008 mov bx,0; 000B idiv bx
divides-told : IsConstruct I8086 Division (image_of divides (omega arith)) 0x000B
unfolding instruction_at table word_at sign_extension_of signed_of
divides-told = of_trails refl (has-layout divides (omega arith)
    (record { op = Mov (Word Ax) (Const word_width 1); len = 3 }
    ∷ record { op = Mov (Word Bx) (Const word_width 0); len = 3 } ∷ [])
    (omega arith) (omega arith) (record { found = refl; form = refl }, (record { found = refl; form = refl }, tt))
    (other-stops (whole divides) 0x0B (record { op = UnaryOp Idiv (Word Bx); len = 2 }) refl refl) refl) divides-construct

-- A program that loads no segment: 0000 mov ax,4C00h; 0003 int 21h

abbrev flat : List ℕ
flat = 0xB8 ∷ 0x00 ∷ 0x4C ∷ 0xCD ∷ 0x21 ∷ []

abbrev flat_image : Image
flat_image = record {
  bytes = vec_of flat (omega arith);
  code_len = 5;
  cs = 0x0110;
  ip = 0;
  ss = 0x0111;
  sp = 0x0100;
}

-- the prelude of a program that loads no segment is empty
flat-prelude : IsPrelude I8086 (code_of flat_image) 0 []
unfolding instruction_at table word_at sign_extension_of signed_of code_of vec_of
flat-prelude =
    prelude-is I8086 (code_of flat_image) 0 [] (record { op = Mov (Word Ax) (Const word_width 0x4C00); len = 3 } ∷ [])
    (record { found = refl; form = refl }, tt)
    (other-stops (code_of flat_image) 3 (record { op = Int21; len = 2 }) refl refl) refl refl

flat-told : IsConstruct I8086 NoLayout flat_image 0x0000
flat-told = lacks_layout (record {
  entry = refl;
  none = λ layout runs_on has.
      let mine : IsPrelude layout.cpu (code_of flat_image) 0 [] = subst (λ c. IsPrelude c (code_of flat_image) 0 []) (sym runs_on) flat-prelude in
      let same = prelude-once layout.cpu (code_of flat_image) 0 has.prelude [] has.is_prelude mine in
      let clash : false ≡ true = subst (λ p. list_any (λ (i : Instr). writes_ds i.op) p ≡ true) same has.ds_written in cc;
})
