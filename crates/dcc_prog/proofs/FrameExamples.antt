-- Stack heights and frames, tried on small codes. The images have the prelude of five bytes.
use Rattle.std.proofs.Common.{◌≡◌, inl, ℕ, List, [], ◌∷◌, Contains, Some, None, refl, sym, ap, ◌∙◌, subst, arith, true≢false}
use Rattle.std.specs.Prelude.{◌<◌, pos, neg_ℤ}
use Rattle.std.proofs.lemmas.Int.{ints}
use Rattle.dcc_num.specs.declared.Width.TheVariants.{Word as word_width}
use Rattle.dcc_num.specs.declared.Reg.TheVariants.{Ax, Sp, Bp}
use Rattle.dcc_num.specs.Numbers.{sign_extension_of, signed_of}
use Rattle.dcc_machine.specs.declared.image.Image.{Image}
use Rattle.dcc_machine.specs.declared.instr.Unary.TheVariants.{Inc}
use Rattle.dcc_machine.specs.declared.instr.Operand.TheVariants.{Word, Mem}
use Rattle.dcc_machine.specs.declared.instr.Op.{Op}
use Rattle.dcc_machine.specs.declared.instr.Op.TheVariants.{Unary as UnaryOp, Mov, Lea, Push, Pop, Ret}
use Rattle.dcc_machine.specs.declared.instr.Instr.{Instr}
use Rattle.dcc_machine.specs.Bytes.{word_at}
use Rattle.dcc_machine.specs.Code.{code_of}
use Rattle.dcc_machine.specs.Table.{table, instruction_at}
use Rattle.dcc_prog.specs.Trail.{StandsAt, successors, IsTrail, IsNode, start, called, IsEntry}
use Rattle.dcc_machine.specs.SpAndBp.{copies_bp}
use Rattle.dcc_prog.specs.Height.{entered, gone_on, HasHeight, push, pop, move, keep, IsMisplaced, HasBadHeight, two_heights, too_far, above_entry, into_saved_bp}
use Rattle.dcc_prog.specs.declared.refusal.FrameFault.TheVariants.{AccessOutside}
use Rattle.dcc_prog.specs.Frame.{span_of, memory_operand, IsDirectAccess, direct, StartsExposure, by_lea, by_index, by_copy, HasArguments, of_start, of_procedure, IsPassedWord, passed, accessed, used, IsCrossed, IsExposureStart, by_instruction, HasBadAccess, access_outside}
use Rattle.dcc_machine.proofs.MzImageLaws.{vec_of}
use Rattle.dcc_machine.proofs.Examples.{image_of}
use Rattle.dcc_prog.proofs.Examples.{layout_of, first}

second_place : (x y : ℕ) (xs : List ℕ) → Contains (x ∷ y ∷ xs) y
second_place x y xs = (1, omega arith, refl)

-- 0005 cmp ax,0; 0008 je 000B; 000A push ax; 000B jmp 000B: a push on one arm
abbrev uneven : List ℕ
uneven = 0x3D ∷ 0x00 ∷ 0x00 ∷ 0x74 ∷ 0x01 ∷ 0x50 ∷ 0xEB ∷ 0xFE ∷ []

abbrev uneven_image : Image
uneven_image = image_of uneven (omega arith)

uneven-short : HasHeight uneven_image (layout_of uneven) 5 0x0B (pos 0)
unfolding instruction_at table code_of word_at sign_extension_of signed_of vec_of
uneven-short = record {
  before = 0x08 ∷ 0x05 ∷ [];
  gives = gone_on (first 0x0B (0x0A ∷ []), (first 0x08 [], refl))
      (gone_on (first 0x08 [], refl) entered (_, refl, refl) (keep refl)) (_, refl, refl) (keep refl);
}

uneven-long : HasHeight uneven_image (layout_of uneven) 5 0x0B (pos 2)
unfolding instruction_at table code_of word_at sign_extension_of signed_of vec_of
uneven-long = record {
  before = 0x0A ∷ 0x08 ∷ 0x05 ∷ [];
  gives = gone_on (first 0x0B [], (second_place 0x0B 0x0A [], (first 0x08 [], refl)))
      (gone_on (second_place 0x0B 0x0A [], (first 0x08 [], refl))
      (gone_on (first 0x08 [], refl) entered (_, refl, refl) (keep refl)) (_, refl, refl) (keep refl))
      (_, refl, refl) push;
}

uneven-bad : HasBadHeight uneven_image (layout_of uneven) 5 0x0B
uneven-bad = two_heights uneven-short uneven-long (λ e. cc)

-- 0005 call 0008; 0008 pop ax: the program takes its own address
abbrev own_address : List ℕ
own_address = 0xE8 ∷ 0x00 ∷ 0x00 ∷ 0x58 ∷ []

abbrev own_image : Image
own_image = image_of own_address (omega arith)

own_address-entry : IsEntry own_image (layout_of own_address) 0x08
unfolding instruction_at table code_of word_at sign_extension_of signed_of vec_of
own_address-entry = called {at = 0x05} start (record { before = []; trail = refl }) (_, refl, refl)

own_address-bad : HasBadHeight own_image (layout_of own_address) 0x08 0x08
unfolding instruction_at table code_of word_at sign_extension_of signed_of vec_of
own_address-bad =
    too_far {op = Pop (Word Ax)} (_, refl, refl) (record { before = []; gives = entered }) pop (omega arith) (above_entry (omega arith))

-- 0005 push bp; 0006 mov bp,sp; 0008 inc sp: SP rises into the saved BP
abbrev rising : List ℕ
rising = 0x55 ∷ 0x8B ∷ 0xEC ∷ 0x44 ∷ []

abbrev rising_image : Image
rising_image = image_of rising (omega arith)

rising-height : HasHeight rising_image (layout_of rising) 5 0x08 (pos 2)
unfolding instruction_at table code_of word_at sign_extension_of signed_of vec_of
rising-height = record {
  before = 0x06 ∷ 0x05 ∷ [];
  gives = gone_on (first 0x08 [], (first 0x06 [], refl))
      (gone_on (first 0x06 [], refl) entered (_, refl, refl) push) (_, refl, refl) (keep refl);
}

rising-bad : HasBadHeight rising_image (layout_of rising) 5 0x08
unfolding instruction_at table code_of word_at sign_extension_of signed_of vec_of
rising-bad =
    too_far {op = UnaryOp Inc (Word Sp)} (_, refl, refl) rising-height (move refl) (omega arith)
    (into_saved_bp refl (λ e. cc) (λ e. cc) (omega arith) (omega arith))

-- 0005 push bp; 0006 mov bp,sp; 0008 pop bp; 0009 push ax: a push where the frame is gone
abbrev gone : List ℕ
gone = 0x55 ∷ 0x8B ∷ 0xEC ∷ 0x5D ∷ 0x50 ∷ []

gone-misplaced : IsMisplaced (image_of gone (omega arith)) (layout_of gone) 5 0x09
unfolding instruction_at table code_of word_at sign_extension_of signed_of vec_of
gone-misplaced = record {
  framed = refl;
  inner = λ e. omega (arith, e);
  op = Push (Word Ax);
  stands = (_, refl, refl);
  height = pos 0;
  has = record {
    before = 0x08 ∷ 0x06 ∷ 0x05 ∷ [];
    gives = gone_on (first 0x09 [], (first 0x08 [], (first 0x06 [], refl)))
        (gone_on (first 0x08 [], (first 0x06 [], refl))
        (gone_on (first 0x06 [], refl) entered (_, refl, refl) push) (_, refl, refl) (keep refl))
        (_, refl, refl) pop;
  };
  misplaced = inl (refl, refl);
}

-- 0005 push bp; 0006 mov bp,sp; 0008 mov ax,[bp+2]: an access to the return address
abbrev reaching : List ℕ
reaching = 0x55 ∷ 0x8B ∷ 0xEC ∷ 0x8B ∷ 0x46 ∷ 0x02 ∷ []

abbrev reaching_image : Image
reaching_image = image_of reaching (omega arith)

reaching-bad : HasBadAccess reaching_image (layout_of reaching) 5 0x08 AccessOutside
unfolding instruction_at table code_of word_at sign_extension_of signed_of vec_of
reaching-bad =
    access_outside
    (direct {op = Mov (Word Ax) (Mem word_width (record { base = Some Bp; index = None; disp = 2 }))} refl (_, refl, refl) refl refl)
    (record {
      before = 0x06 ∷ 0x05 ∷ [];
      gives = gone_on (first 0x08 [], (first 0x06 [], refl))
          (gone_on (first 0x06 [], refl) entered (_, refl, refl) push) (_, refl, refl) (keep refl);
    })
    (record {
      count = 0;
      arguments = of_start refl;
      no_argument = λ in_arguments. omega (arith, in_arguments.0);
      no_local = λ in_locals. omega (arith, in_locals.1);
    })

-- 0005 push bp; 0006 mov bp,sp; 0008 mov [bp-4],ax; 000B mov [bp-3],ax: two words that overlap are one run of cells
abbrev joining : List ℕ
joining = 0x55 ∷ 0x8B ∷ 0xEC ∷ 0x89 ∷ 0x46 ∷ 0xFC ∷ 0x89 ∷ 0x46 ∷ 0xFD ∷ []

abbrev joining_image : Image
joining_image = image_of joining (omega arith)

joining-first : IsNode joining_image (layout_of joining) 5 0x08
unfolding instruction_at table code_of word_at sign_extension_of signed_of vec_of
joining-first = record { before = 0x06 ∷ 0x05 ∷ []; trail = (first 0x08 [], (first 0x06 [], refl)) }

joining-second : IsNode joining_image (layout_of joining) 5 0x0B
unfolding instruction_at table code_of word_at sign_extension_of signed_of vec_of
joining-second =
    record { before = 0x08 ∷ 0x06 ∷ 0x05 ∷ []; trail = (first 0x0B [], (first 0x08 [], (first 0x06 [], refl))) }

joined-in_the_first : IsCrossed joining_image (layout_of joining) 5 (neg_ℤ (pos 3))
unfolding instruction_at table code_of word_at sign_extension_of signed_of vec_of
joined-in_the_first = record {
  span = span_of (neg_ℤ (pos 4)) 2;
  piece = used joining-first (accessed
      (direct {op = Mov (Mem word_width (record { base = Some Bp; index = None; disp = 0xFFFC })) (Word Ax)} refl (_, refl, refl) refl refl));
  before = omega (arith, ints);
  after = omega (arith, ints);
}

joined-in_the_second : IsCrossed joining_image (layout_of joining) 5 (neg_ℤ (pos 2))
unfolding instruction_at table code_of word_at sign_extension_of signed_of vec_of
joined-in_the_second = record {
  span = span_of (neg_ℤ (pos 3)) 2;
  piece = used joining-second (accessed
      (direct {op = Mov (Mem word_width (record { base = Some Bp; index = None; disp = 0xFFFD })) (Word Ax)} refl (_, refl, refl) refl refl));
  before = omega (arith, ints);
  after = omega (arith, ints);
}

-- 0005 push bp; 0006 mov bp,sp; 0008 lea ax,[bp-2]: the address of bytes below BP may be computed
abbrev exposing : List ℕ
exposing = 0x55 ∷ 0x8B ∷ 0xEC ∷ 0x8D ∷ 0x46 ∷ 0xFE ∷ []

exposing-starts : IsExposureStart (image_of exposing (omega arith)) (layout_of exposing) 5 (neg_ℤ (pos 2))
unfolding instruction_at table code_of word_at sign_extension_of signed_of vec_of
exposing-starts =
    by_instruction {at = 0x08}
    (record { before = 0x06 ∷ 0x05 ∷ []; trail = (first 0x08 [], (first 0x06 [], refl)) })
    (by_lea {r = Ax} {ea = record { base = Some Bp; index = None; disp = 0xFFFE }} (_, refl, refl) (λ e. cc) refl)

-- 0005 push ax; 0006 call 000B; 0009 jmp 0009; 000B ret 2: an argument, which the procedure removes
abbrev removing : List ℕ
removing = 0x50 ∷ 0xE8 ∷ 0x02 ∷ 0x00 ∷ 0xEB ∷ 0xFE ∷ 0xC2 ∷ 0x02 ∷ 0x00 ∷ []

abbrev removing_image : Image
removing_image = image_of removing (omega arith)

removing-stands : StandsAt removing_image (layout_of removing) 0x0B (Ret 2)
unfolding instruction_at table code_of word_at sign_extension_of signed_of vec_of
removing-stands = (_, refl, refl)

-- RET is the one node of the procedure
removing-node :
    (before : List ℕ) (at : ℕ) → IsTrail removing_image (layout_of removing) 0x0B (at ∷ before) → at ≡ 0x0B
unfolding instruction_at table code_of word_at sign_extension_of signed_of vec_of
removing-node [] at trail = trail
removing-node (from ∷ rest) at trail =
    let here = removing-node rest from trail.1 in
    let none : Contains [] at =
    subst (λ n. Contains (successors removing_image (layout_of removing) (n ∷ rest)) at) here trail.0 in
    let less : none.0 < 0 = none.1 in
    absurd (omega (arith, less))

removing-op :
    (at : ℕ) (op : Op) → IsNode removing_image (layout_of removing) 0x0B at
    → StandsAt removing_image (layout_of removing) at op → op ≡ Ret 2
unfolding instruction_at table code_of word_at sign_extension_of signed_of vec_of
removing-op at op node stands =
    let there : StandsAt removing_image (layout_of removing) 0x0B op =
    subst (λ n. StandsAt removing_image (layout_of removing) n op) (removing-node node.before at node.trail) stands in
    let found : Some (record { op = Ret 2; len = 3 }) ≡ Some there.0 = there.1 in
    let is : record { op = Ret 2; len = 3 } ≡ there.0 = cc in
    sym there.2 ∙ sym (ap (λ (i : Instr). i.op) is)

removing-unframed :
    (at : ℕ) (span : _) → IsDirectAccess removing_image (layout_of removing) 0x0B at span → ⊥
unfolding instruction_at table code_of word_at sign_extension_of signed_of vec_of
removing-unframed at span (direct framed stands operand is) = true≢false (sym framed)

removing-unexposed :
    (at : ℕ) (least : _) → IsNode removing_image (layout_of removing) 0x0B at
    → StartsExposure removing_image (layout_of removing) 0x0B at least → ⊥
removing-unexposed at least node (by_lea {r} {ea} stands apart uses) =
    let is : Lea r ea ≡ Ret 2 = removing-op at (Lea r ea) node stands in cc
removing-unexposed at least node (by_index {op} {width} {ea} stands operand uses indirect) =
    let none : memory_operand (Ret 2) ≡ Some (width, ea) =
    sym (ap memory_operand (removing-op at op node stands)) ∙ operand in
    cc
removing-unexposed at least node (by_copy {op} stands copies has) =
    true≢false (sym copies ∙ ap copies_bp (removing-op at op node stands))

removing-takes : HasArguments removing_image (layout_of removing) 0x0B 1
removing-takes =
    of_procedure (λ e. omega (arith, e))
    (record {
      removed = λ bytes reaches.
          let is : Ret bytes ≡ Ret 2 = removing-op reaches.at (Ret bytes) reaches.node reaches.stands in
          let two : bytes ≡ 2 = cc in
          omega (arith, two);
      accessed = λ at span node access. absurd (removing-unframed at span access);
      exposed = λ at least node starts. absurd (removing-unexposed at least node starts);
    })
    (λ other room.
    let two =
    room.removed 2 (record { at = 0x0B; node = record { before = []; trail = refl }; stands = removing-stands }) in
    omega (arith, two))

-- the word that the caller has pushed is passed
removing-passed : IsPassedWord removing_image (layout_of removing) 5 0x06 (span_of (pos 0) 2)
unfolding instruction_at table code_of word_at sign_extension_of signed_of vec_of
removing-passed =
    passed {target = 0x0B} {count = 1} {number = 0} {height = pos 2} (_, refl, refl)
    (record { before = 0x05 ∷ []; gives = gone_on (first 0x06 [], refl) entered (_, refl, refl) push })
    removing-takes (omega arith) (omega (arith, ints))
