-- Divisions, tried against the definition of a prepared one: after CBW or CWD, after what clears AH, and after what just
-- doesn't. The images have the prelude of five bytes.
use Rattle.std.proofs.Common.{◌≡◌, ◌⊎◌, inl, inr, ◌<◌, ◌^◌, ℕ, true, false, List, [], ◌∷◌, length, Contains, refl, sym, ◌∙◌, subst, arith}
use Rattle.dcc_num.specs.declared.Width.{Width}
use Rattle.dcc_num.specs.declared.Width.TheVariants.{Byte as byte_width, Word as word_width}
use Rattle.dcc_num.specs.declared.Reg.TheVariants.{Ax, Bx}
use Rattle.dcc_num.specs.declared.Half.TheVariants.{Low, High}
use Rattle.dcc_num.specs.Numbers.{sign_extension_of, signed_of}
use Rattle.dcc_machine.specs.declared.image.Image.{Image}
use Rattle.dcc_prog.specs.declared.procedure.Layout.{Layout}
use Rattle.dcc_machine.specs.declared.instr.Alu.TheVariants.{Xor}
use Rattle.dcc_machine.specs.declared.instr.Unary.{Unary}
use Rattle.dcc_machine.specs.declared.instr.Unary.TheVariants.{Div, Idiv}
use Rattle.dcc_machine.specs.declared.instr.Plain.TheVariants.{Cbw, Cwd}
use Rattle.dcc_machine.specs.declared.instr.Operand.TheVariants.{Word, Byte, Const}
use Rattle.dcc_machine.specs.declared.instr.Op.{Op}
use Rattle.dcc_machine.specs.declared.instr.Op.TheVariants.{Alu as AluOp, Unary as UnaryOp, Mov, Plain as PlainOp}
use Rattle.dcc_machine.specs.Bytes.{word_at}
use Rattle.dcc_machine.specs.Code.{code_of}
use Rattle.dcc_machine.specs.Table.{table, instruction_at}
use Rattle.dcc_prog.specs.Trail.{StandsAt, successors, IsTrail, IsEdge, start}
use Rattle.dcc_prog.specs.Prepared.{prepares, IsPrepared, nearest, further}
use Rattle.dcc_prog.specs.declared.refusal.ConstructKind.TheVariants.{Division}
use Rattle.dcc_prog.specs.Construct.{IsOfTrails, division}
use Rattle.dcc_machine.proofs.MzImageLaws.{vec_of}
use Rattle.dcc_machine.proofs.Examples.{image_of}
use Rattle.dcc_prog.proofs.Examples.{layout_of, first, only}

-- What isn't prepared.

-- one operation stands at an offset
same_op : (image : Image) (layout : Layout) (at : ℕ) (a b : Op) → StandsAt image layout at a → StandsAt image layout at b → a ≡ b
same_op image layout at a b h k = let both = sym h.1 ∙ k.1 in let p = h.2 in let q = k.2 in cc

-- the entry has no sole predecessor
entry-unprepared :
    {image : Image} {layout : Layout} {entry at : ℕ} {operation : Unary} {width : Width}
    → IsPrepared image layout entry operation width at → at ≡ entry → ⊥
entry-unprepared (nearest edge stands prepared) e = edge.inner e
entry-unprepared (further edge stands keeps prepared) e = edge.inner e

-- an operation before the division prepares nothing, and nothing is prepared before it
step-unprepared :
    (image : Image) (layout : Layout) (entry from at : ℕ) (op : Op) (operation : Unary) (width : Width)
    → IsEdge image layout entry from at → StandsAt image layout from op → prepares operation width op ≡ false
    → ¬ IsPrepared image layout entry operation width from → ¬ IsPrepared image layout entry operation width at
step-unprepared image layout entry from at op operation width edge stands idle none (nearest {from = other} {op = done} sole is prepared) =
    let from_is : from ≡ other = sole.sole from edge in
    let op_is : done ≡ op = same_op image layout from done op (subst (λ n. StandsAt image layout n done) (sym from_is) is) stands in
    let clash : false ≡ true = sym idle ∙ subst (λ o. prepares operation width o ≡ true) op_is prepared in cc
step-unprepared image layout entry from at op operation width edge stands idle none (further {from = other} sole is keeps prepared) =
    let from_is : from ≡ other = sole.sole from edge in
    none (subst (λ n. IsPrepared image layout entry operation width n) (sym from_is) prepared)

-- the operation at the entry is the only one before the division
entry_step-unprepared :
    (image : Image) (layout : Layout) (entry at : ℕ) (op : Op) (operation : Unary) (width : Width)
    → IsEdge image layout entry entry at → StandsAt image layout entry op → prepares operation width op ≡ false
    → ¬ IsPrepared image layout entry operation width at
entry_step-unprepared image layout entry at op operation width edge stands idle =
    step-unprepared image layout entry entry at op operation width edge stands idle (λ p. entry-unprepared p refl)

-- 0005 mov ax,1; 0008 mov bx,0; 000B idiv bx
abbrev pub divides : List ℕ
divides = 0xB8 ∷ 0x01 ∷ 0x00 ∷ 0xBB ∷ 0x00 ∷ 0x00 ∷ 0xF7 ∷ 0xFB ∷ []

abbrev pub divides_image : Image
divides_image = image_of divides (omega arith)

first_edge : IsEdge divides_image (layout_of divides) 5 0x05 0x08
unfolding instruction_at table code_of word_at sign_extension_of signed_of vec_of
first_edge = record { before = []; trail = (first 0x08 [], refl) }

second_edge : IsEdge divides_image (layout_of divides) 5 0x08 0x0B
unfolding instruction_at table code_of word_at sign_extension_of signed_of vec_of
second_edge = record { before = 0x05 ∷ []; trail = (first 0x0B [], (first 0x08 [], refl)) }

first_move : StandsAt divides_image (layout_of divides) 0x05 (Mov (Word Ax) (Const word_width 1))
unfolding instruction_at table code_of word_at sign_extension_of signed_of vec_of
first_move = (record { op = Mov (Word Ax) (Const word_width 1); len = 3 }, refl, refl)

second_move : StandsAt divides_image (layout_of divides) 0x08 (Mov (Word Bx) (Const word_width 0))
unfolding instruction_at table code_of word_at sign_extension_of signed_of vec_of
second_move = (record { op = Mov (Word Bx) (Const word_width 0); len = 3 }, refl, refl)

divides-unprepared : ¬ IsPrepared divides_image (layout_of divides) 5 Idiv word_width 0x0B
divides-unprepared =
    step-unprepared divides_image (layout_of divides) 5 8 0x0B (Mov (Word Bx) (Const word_width 0)) Idiv word_width
    second_edge second_move refl
    (entry_step-unprepared divides_image (layout_of divides) 5 8 (Mov (Word Ax) (Const word_width 1)) Idiv word_width
    first_edge first_move refl)

pub divides-construct : IsOfTrails Division divides_image (layout_of divides) 0x000B
unfolding instruction_at table code_of word_at sign_extension_of signed_of vec_of second_edge
divides-construct = record {
  entry = 5;
  is_entry = start;
  node = record { before = 0x08 ∷ 0x05 ∷ []; trail = second_edge.trail };
  stands = division (record {
    division = Idiv;
    operand = Word Bx;
    stands = (record { op = UnaryOp Idiv (Word Bx); len = 2 }, refl, refl);
    divides = refl;
    unprepared = divides-unprepared;
  });
}

-- What is prepared: an operation at the entry, a division, and a jump to itself.

-- the three go on so, whatever comes before them
record IsLine (image : Image) (layout : Layout) (a b c : ℕ) : Type 0 where
  after_first : (rest : List ℕ) → successors image layout (a ∷ rest) ≡ b ∷ []
  after_second : (rest : List ℕ) → successors image layout (b ∷ rest) ≡ c ∷ []
  after_third : (rest : List ℕ) → successors image layout (c ∷ rest) ≡ c ∷ []
  apart : ¬ (c ≡ b)
  inner : ¬ (b ≡ a)

-- one of the three
abbrev IsPlace : ℕ → ℕ → ℕ → ℕ → Type 0
IsPlace a b c at = (at ≡ a) ⊎ ((at ≡ b) ⊎ (at ≡ c))

-- where an offset goes on, by its place
goes-by :
    (image : Image) (layout : Layout) (from place at to : ℕ) (rest : List ℕ)
    → successors image layout (place ∷ rest) ≡ to ∷ [] → from ≡ place
    → Contains (successors image layout (from ∷ rest)) at → at ≡ to
goes-by image layout from place at to rest after is has =
    only to at (subst (λ xs. Contains xs at) after (subst (λ n. Contains (successors image layout (n ∷ rest)) at) is has))

place-next :
    (image : Image) (layout : Layout) (a b c from at : ℕ) (rest : List ℕ) → IsLine image layout a b c
    → IsPlace a b c from → Contains (successors image layout (from ∷ rest)) at → IsPlace a b c at
place-next image layout a b c from at rest line place has =
    elim place [
      | inl e ↦ inr (inl (goes-by image layout from a at b rest (line.after_first rest) e has))
      | inr p ↦ elim p [
        | inl e ↦ inr (inr (goes-by image layout from b at c rest (line.after_second rest) e has))
        | inr e ↦ inr (inr (goes-by image layout from c at c rest (line.after_third rest) e has))
      ]
    ]

place-of :
    (image : Image) (layout : Layout) (a b c : ℕ) → IsLine image layout a b c
    → (before : List ℕ) (at : ℕ) → IsTrail image layout a (at ∷ before) → IsPlace a b c at
place-of image layout a b c line [] at trail = inl trail
place-of image layout a b c line (from ∷ rest) at trail =
    place-next image layout a b c from at rest line (place-of image layout a b c line rest from trail.1) trail.0

sole-from :
    (image : Image) (layout : Layout) (a b c : ℕ) → IsLine image layout a b c
    → (other : ℕ) → IsEdge image layout a other b → other ≡ a
sole-from image layout a b c line other edge =
    elim (place-of image layout a b c line edge.before other edge.trail.1) [
      | inl e ↦ e
      | inr p ↦ elim p [
        | inl e ↦ absurd (line.apart (sym (goes-by image layout other b b c edge.before (line.after_second edge.before) e edge.trail.0)))
        | inr e ↦ absurd (line.apart (sym (goes-by image layout other c b c edge.before (line.after_third edge.before) e edge.trail.0)))
      ]
    ]

-- what the first one prepares is prepared at the second
line-prepared :
    (image : Image) (layout : Layout) (a b c : ℕ) (op : Op) (operation : Unary) (width : Width)
    → IsLine image layout a b c → StandsAt image layout a op → prepares operation width op ≡ true
    → IsPrepared image layout a operation width b
line-prepared image layout a b c op operation width line stands prepared =
    let edge : IsEdge image layout a a b =
    record { before = []; trail = (subst (λ xs. Contains xs b) (sym (line.after_first [])) (first b []), refl) } in
    nearest (record { edge = edge; sole = sole-from image layout a b c line; inner = line.inner }) stands prepared

-- an operation of one byte, a division of two, and a jump to itself
abbrev after_one : ℕ → ℕ → ℕ → List ℕ
after_one op opcode modrm = op ∷ opcode ∷ modrm ∷ 0xEB ∷ 0xFE ∷ []

-- an operation of two bytes, a division of two, and a jump to itself
abbrev after_two : ℕ → ℕ → ℕ → ℕ → List ℕ
after_two op more opcode modrm = op ∷ more ∷ opcode ∷ modrm ∷ 0xEB ∷ 0xFE ∷ []

-- the division at an offset of such a program is prepared
abbrev IsPreparedBy : (code : List ℕ) → length code < 2 ^ 62 → Unary → Width → ℕ → Type 0
IsPreparedBy code few operation width at = IsPrepared (image_of code few) (layout_of code) 5 operation width at

-- 0005 cwd; 0006 idiv bx
cwd-idiv_word : IsPreparedBy (after_one 0x99 0xF7 0xFB) (omega arith) Idiv word_width 6
unfolding instruction_at table code_of word_at sign_extension_of signed_of vec_of
cwd-idiv_word =
    line-prepared _ _ 5 6 8 (PlainOp Cwd) Idiv word_width
    (record { after_first = λ rest. refl; after_second = λ rest. refl; after_third = λ rest. refl; apart = λ e. omega (arith, e); inner = λ e. omega (arith, e) })
    (record { op = PlainOp Cwd; len = 1 }, refl, refl) refl

-- 0005 cbw; 0006 idiv bl
cbw-idiv_byte : IsPreparedBy (after_one 0x98 0xF6 0xFB) (omega arith) Idiv byte_width 6
unfolding instruction_at table code_of word_at sign_extension_of signed_of vec_of
cbw-idiv_byte =
    line-prepared _ _ 5 6 8 (PlainOp Cbw) Idiv byte_width
    (record { after_first = λ rest. refl; after_second = λ rest. refl; after_third = λ rest. refl; apart = λ e. omega (arith, e); inner = λ e. omega (arith, e) })
    (record { op = PlainOp Cbw; len = 1 }, refl, refl) refl

-- 0005 xor ah,ah; 0007 div bl
xor-div_byte : IsPreparedBy (after_two 0x32 0xE4 0xF6 0xF3) (omega arith) Div byte_width 7
unfolding instruction_at table code_of word_at sign_extension_of signed_of vec_of
xor-div_byte =
    line-prepared _ _ 5 7 9 (AluOp Xor (Byte Ax High) (Byte Ax High)) Div byte_width
    (record { after_first = λ rest. refl; after_second = λ rest. refl; after_third = λ rest. refl; apart = λ e. omega (arith, e); inner = λ e. omega (arith, e) })
    (record { op = AluOp Xor (Byte Ax High) (Byte Ax High); len = 2 }, refl, refl) refl

-- 0005 mov ah,0; 0007 div bl
mov-div_byte : IsPreparedBy (after_two 0xB4 0x00 0xF6 0xF3) (omega arith) Div byte_width 7
unfolding instruction_at table code_of word_at sign_extension_of signed_of vec_of
mov-div_byte =
    line-prepared _ _ 5 7 9 (Mov (Byte Ax High) (Const byte_width 0)) Div byte_width
    (record { after_first = λ rest. refl; after_second = λ rest. refl; after_third = λ rest. refl; apart = λ e. omega (arith, e); inner = λ e. omega (arith, e) })
    (record { op = Mov (Byte Ax High) (Const byte_width 0); len = 2 }, refl, refl) refl

-- What just isn't prepared.

-- 0005 mov ah,1; 0007 div bl
one-div_byte : ¬ IsPreparedBy (after_two 0xB4 0x01 0xF6 0xF3) (omega arith) Div byte_width 7
unfolding instruction_at table code_of word_at sign_extension_of signed_of vec_of
one-div_byte =
    entry_step-unprepared _ _ 5 7 (Mov (Byte Ax High) (Const byte_width 1)) Div byte_width
    (record { before = []; trail = (first 7 [], refl) })
    (record { op = Mov (Byte Ax High) (Const byte_width 1); len = 2 }, refl, refl) refl

-- 0005 xor al,al; 0007 div bl
low-div_byte : ¬ IsPreparedBy (after_two 0x32 0xC0 0xF6 0xF3) (omega arith) Div byte_width 7
unfolding instruction_at table code_of word_at sign_extension_of signed_of vec_of
low-div_byte =
    entry_step-unprepared _ _ 5 7 (AluOp Xor (Byte Ax Low) (Byte Ax Low)) Div byte_width
    (record { before = []; trail = (first 7 [], refl) })
    (record { op = AluOp Xor (Byte Ax Low) (Byte Ax Low); len = 2 }, refl, refl) refl

-- 0005 xor ah,ah; 0007 idiv bl
xor-idiv_byte : ¬ IsPreparedBy (after_two 0x32 0xE4 0xF6 0xFB) (omega arith) Idiv byte_width 7
unfolding instruction_at table code_of word_at sign_extension_of signed_of vec_of
xor-idiv_byte =
    entry_step-unprepared _ _ 5 7 (AluOp Xor (Byte Ax High) (Byte Ax High)) Idiv byte_width
    (record { before = []; trail = (first 7 [], refl) })
    (record { op = AluOp Xor (Byte Ax High) (Byte Ax High); len = 2 }, refl, refl) refl

-- 0005 cbw; 0006 div bl
cbw-div_byte : ¬ IsPreparedBy (after_one 0x98 0xF6 0xF3) (omega arith) Div byte_width 6
unfolding instruction_at table code_of word_at sign_extension_of signed_of vec_of
cbw-div_byte =
    entry_step-unprepared _ _ 5 6 (PlainOp Cbw) Div byte_width
    (record { before = []; trail = (first 6 [], refl) })
    (record { op = PlainOp Cbw; len = 1 }, refl, refl) refl

-- 0005 cwd; 0006 idiv bl
cwd-idiv_byte : ¬ IsPreparedBy (after_one 0x99 0xF6 0xFB) (omega arith) Idiv byte_width 6
unfolding instruction_at table code_of word_at sign_extension_of signed_of vec_of
cwd-idiv_byte =
    entry_step-unprepared _ _ 5 6 (PlainOp Cwd) Idiv byte_width
    (record { before = []; trail = (first 6 [], refl) })
    (record { op = PlainOp Cwd; len = 1 }, refl, refl) refl

-- 0005 cbw; 0006 idiv bx
cbw-idiv_word : ¬ IsPreparedBy (after_one 0x98 0xF7 0xFB) (omega arith) Idiv word_width 6
unfolding instruction_at table code_of word_at sign_extension_of signed_of vec_of
cbw-idiv_word =
    entry_step-unprepared _ _ 5 6 (PlainOp Cbw) Idiv word_width
    (record { before = []; trail = (first 6 [], refl) })
    (record { op = PlainOp Cbw; len = 1 }, refl, refl) refl
