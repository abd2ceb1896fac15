-- Runs along a trail keep what the trail tells of AH and of prepared divisions.
use Rattle.std.proofs.Common.{◌≡◌, ℕ, ◌+◌, ◌*◌, ◌/◌, ◌%◌, ◌<◌, Bool, true, false, List, [], ◌∷◌, drop, take, Option, Some, None, refl, sym, ap, ◌∙◌, subst, arith}
use Rattle.std.proofs.lemmas.Bool.{eqb-true}
use Rattle.std.proofs.lemmas.Bool.Decides.{nat_tests}
use Rattle.std.proofs.lemmas.Int.{ints}
use Rattle.std.specs.Prelude.{not, ◌||◌, if◌then◌else◌, ◌==◌}
use Rattle.dcc_run.specs.End.{is_over}
use Rattle.dcc_num.specs.declared.Width.{Width}
use Rattle.dcc_num.specs.declared.Width.TheVariants.{Byte as byte_width, Word as word_width}
use Rattle.dcc_num.specs.declared.Reg.{Reg}
use Rattle.dcc_num.specs.declared.Reg.TheVariants.{Ax, Dx}
use Rattle.dcc_num.specs.declared.Half.{Half}
use Rattle.dcc_num.specs.declared.Half.TheVariants.{Low, High}
use Rattle.dcc_num.specs.declared.Flags.{Flags}
use Rattle.dcc_num.specs.Numbers.{signed_of, sign_extension_of}
use Rattle.dcc_num.specs.Sum.{difference_of}
use Rattle.dcc_num.specs.Logic.{exclusive_of}
use Rattle.dcc_num.specs.Product.{extension_of}
use Rattle.dcc_machine.specs.declared.cpu.Cpu.{Cpu}
use Rattle.dcc_machine.specs.declared.image.Image.{Image}
use Rattle.dcc_prog.specs.declared.procedure.Layout.{Layout}
use Rattle.dcc_machine.specs.declared.instr.Alu.TheVariants.{Sub, Xor}
use Rattle.dcc_machine.specs.declared.instr.Unary.{Unary as UnaryName}
use Rattle.dcc_machine.specs.declared.instr.Unary.TheVariants.{Div, Idiv}
use Rattle.dcc_machine.specs.declared.instr.Plain.TheVariants.{Cbw, Cwd}
use Rattle.dcc_machine.specs.declared.instr.Operand.{Operand}
use Rattle.dcc_machine.specs.declared.instr.Operand.TheVariants.{Word, Byte, Const}
use Rattle.dcc_machine.specs.declared.instr.Op.{Op}
use Rattle.dcc_machine.specs.declared.instr.Op.TheVariants.{Alu, Mov, Plain, Call}
use Rattle.dcc_machine.specs.declared.instr.Instr.{Instr}
use Rattle.dcc_machine.specs.MzImage.{IsImageOf}
use Rattle.dcc_machine.specs.Table.{instruction_at}
use Rattle.dcc_machine.specs.Machine.{State, word_in, half_of_word, word_with_half, operand_value, operand_width, with_operand}
use Rattle.dcc_machine.specs.Operations.{with_flags, with_result, accumulator_in, upper_in}
use Rattle.dcc_machine.specs.Step.{code_bytes, op_step, instruction_step, step}
use Rattle.dcc_machine.specs.Code.{code_of, HoldsCode}
use Rattle.dcc_machine.specs.WellFormed.{IsOperation}
use Rattle.dcc_machine.specs.Writes.{writes_half}
use Rattle.dcc_prog.specs.Trail.{instruction_in, StandsAt, constant_to_ah, ah_after, known_ah, IsTrail, IsSolePredecessor}
use Rattle.dcc_prog.specs.Prepared.{is_upper, zeroes_upper, extends_sign, prepares, writes_ax, writes_upper, keeps_dividend, IsPrepared, nearest, further}
use Rattle.dcc_machine.specs.StateForm.{IsState}
use Rattle.dcc_machine.specs.LocationLaws.{half_in}
use Rattle.dcc_prog.specs.RunLaws.{HasPassed, begun, stepped, returned, KnownAhIsHeld, HasUpper, PreparedUpperIsHeld}
use Rattle.dcc_machine.proofs.FetchLaws.{image-placed, fetched-instruction}
use Rattle.dcc_machine.proofs.WellFormedLaws.{instruction-operation}
use Rattle.dcc_machine.proofs.ResultBounds.{sign_extension-low}
use Rattle.dcc_machine.proofs.StateKept.{same-state, states-kept, code-bytes}
use Rattle.dcc_machine.proofs.ZeroingLaws.{difference-self, exclusive-self}
use Rattle.dcc_machine.proofs.LocationKept.{op-half, word-taken, word-other, or-none}
use Rattle.dcc_machine.proofs.AlikeValues.{and-parts, word-joined}

-- Steps along a trail.

-- the state with the instruction pointer after the instruction
abbrev fetched : Instr → State → State
fetched instr s = record s { ip = (s.ip + instr.len) % 65536 }

-- what a step at an offset of the code comes to
record IsStep (layout : Layout) (instr : Instr) (s : State) : Type 0 where
  good : IsOperation instr.op
  form : IsState s
  next : IsState (fetched instr s)
  is : step layout.cpu s ≡ op_step layout.cpu instr.op s.ip (fetched instr s)

step-along :
    (file : List ℕ) (image : Image) (layout : Layout) (at : ℕ) (s : State) (instr : Instr) → IsImageOf file image
    → IsState s → s.ip ≡ at → is_over s.end ≡ false → HoldsCode image layout.code_end s
    → instruction_in image layout at ≡ Some instr → IsStep layout instr s
step-along file image layout at s instr of_file form here goes holds found =
    let stands : instruction_at layout.cpu s.ip (drop s.ip (take layout.code_end (code_of image))) ≡ Some instr =
    subst (λ n. instruction_at layout.cpu n (drop n (take layout.code_end (code_of image))) ≡ Some instr)
    (sym here) found in
    let fetch : instruction_at layout.cpu s.ip (code_bytes s) ≡ Some instr =
    fetched-instruction layout.cpu image layout.code_end s instr (image-placed file image of_file) holds stands in
    record {
      good = instruction-operation layout.cpu s.ip (code_bytes s) instr (code-bytes s form) fetch;
      form = form;
      next = same-state s (fetched instr s) refl refl refl refl form;
      is =
          ap (λ b. if b then s else instruction_step layout.cpu (instruction_at layout.cpu s.ip (code_bytes s)) s) goes
          ∙ ap (λ f. instruction_step layout.cpu f s) fetch;
    }

-- a half that the instruction doesn't write stays
kept-along :
    (layout : Layout) (instr : Instr) (s : State) (r : Reg) (half : Half) → IsStep layout instr s
    → writes_half instr.op r half ≡ false → half_in (step layout.cpu s) r half ≡ half_in s r half
kept-along layout instr s r half steps clear =
    ap (λ t. half_in t r half) steps.is
    ∙ op-half layout.cpu instr.op s.ip (fetched instr s) r half steps.good steps.next clear

-- the state after a run along a trail is one of the machine's
pub passed-state :
    (image : Image) (layout : Layout) (before : List ℕ) (s : State) → HasPassed image layout before s → IsState s
passed-state image layout before s (begun u form) = form
passed-state image layout before s (stepped {s = u} passed here goes holds found) =
    states-kept.step layout.cpu u (passed-state image layout _ u passed)
passed-state image layout before s (returned passed stands t form) = form

-- AH.

upper-byte : (word byte : ℕ) → (byte * 256 + word % 256) / 256 ≡ byte
upper-byte word byte = omega arith

ah-constant :
    (cpu : Cpu) (op : Op) (at : ℕ) (s : State) (number : ℕ) → IsState s → constant_to_ah op ≡ Some number
    → half_in (op_step cpu op at s) Ax High ≡ number
ah-constant cpu (Mov (Byte Ax High) (Const width constant)) at s number form e =
    let is : constant ≡ number = cc in
    ap (half_of_word High) (word-taken s Ax Ax (word_with_half High (word_in s Ax) constant) form.registers.count refl)
    ∙ upper-byte (word_in s Ax) constant
    ∙ is
ah-constant cpu (Mov (Word Ax) (Const width constant)) at s number form e =
    let is : constant / 256 ≡ number = cc in
    ap (half_of_word High) (word-taken s Ax Ax constant form.registers.count refl) ∙ is
ah-constant cpu op at s number form e = cc

ah-either :
    (writes :
    Bool) (layout : Layout) (instr : Instr) (s : State) (known : Option ℕ) (number : ℕ) → IsStep layout instr s
    → writes_half instr.op Ax High ≡ writes → (known ≡ Some number → half_in s Ax High ≡ number)
    → (if writes then constant_to_ah instr.op else known) ≡ Some number → half_in (step layout.cpu s) Ax High ≡ number
ah-either true layout instr s known number steps is held e =
    ap (λ t. half_in t Ax High) steps.is ∙ ah-constant layout.cpu instr.op s.ip (fetched instr s) number steps.next e
ah-either false layout instr s known number steps is held e = kept-along layout instr s Ax High steps is ∙ held e

-- a CALL tells nothing of AH
call-unknown :
    (found : Option Instr) (instr : Instr) (target : ℕ) (known : Option ℕ) (number : ℕ) → found ≡ Some instr
    → instr.op ≡ Call target → ah_after found known ≡ Some number → ⊥
call-unknown found instr target known number is op e =
    let told : ah_after (Some instr) known ≡ Some number = subst (λ f. ah_after f known ≡ Some number) is e in
    let none : None ≡ Some number =
    subst (λ o. (if writes_half o Ax High then constant_to_ah o else known) ≡ Some number) op told in
    cc

pub ah-held : KnownAhIsHeld
ah-held file image layout before s number of_file (begun u form) e = cc
ah-held file image layout before s number of_file (stepped {at =
    at} {before = earlier} {s = u} {instr = instr} passed here goes holds found) e =
    let steps =
    step-along file image layout at u instr of_file
    (passed-state image layout earlier u passed) here goes holds found in
    ah-either (writes_half instr.op Ax High) layout instr u (known_ah image layout earlier) number steps refl
    (λ told. ah-held file image layout earlier u number of_file passed told)
    (subst (λ f. ah_after f (known_ah image layout earlier) ≡ Some number) found e)
ah-held file image layout before s number of_file (returned {at = at} {before = earlier} passed stands t form) e =
    absurd
    (call-unknown (instruction_in image layout at) stands.0 _
    (known_ah image layout earlier) number stands.1 stands.2 e)

-- Prepared divisions.

abbrev upper_operand : Width → Operand
upper_operand byte_width = Byte Ax High
upper_operand word_width = Word Dx

upper-is : (w : Width) (x : Operand) → is_upper w x ≡ true → x ≡ upper_operand w
upper-is byte_width (Byte Ax High) e = refl
upper-is word_width (Word Dx) e = refl
upper-is w x e = cc

upper-taken : (w : Width) (v : ℕ) (s : State) → IsState s → upper_in w (with_operand s (upper_operand w) v) ≡ v
upper-taken byte_width v s form =
    ap (half_of_word High) (word-taken s Ax Ax (word_with_half High (word_in s Ax) v) form.registers.count refl)
    ∙ upper-byte (word_in s Ax) v
upper-taken word_width v s form = word-taken s Dx Dx v form.registers.count refl

upper-result :
    (w :
    Width) (result : ℕ × Flags) (s : State) → IsState s → upper_in w
    (with_result (upper_operand w) result s) ≡ result.0
upper-result w result s form =
    upper-taken w result.0 (with_flags result.1 s) (same-state s (with_flags result.1 s) refl refl refl refl form)

zeroed :
    (cpu : Cpu) (w : Width) (op : Op) (at : ℕ) (s : State) → IsState s → zeroes_upper w op ≡ true
    → upper_in w (op_step cpu op at s) ≡ 0
zeroed cpu w (Mov to (Const other constant)) at s form e =
    let both = and-parts (is_upper w to) (constant == 0) e in
    ap (λ x. upper_in w (with_operand s x constant)) (upper-is w to both.0)
    ∙ upper-taken w constant s form
    ∙ eqb-true constant 0 both.1
zeroed cpu w (Alu Sub a b) at s form e =
    let both = and-parts (is_upper w a) (is_upper w b) e in
    let x = upper_operand w in
    ap (λ y. upper_in w (op_step cpu (Alu Sub y b) at s)) (upper-is w a both.0)
    ∙ ap (λ y. upper_in w (op_step cpu (Alu Sub x y) at s)) (upper-is w b both.1)
    ∙ upper-result w (difference_of (operand_width x) (operand_value s x) (operand_value s x) false) s form
    ∙ ap (λ (result : ℕ × Flags). result.0) (difference-self (operand_width x) (operand_value s x))
zeroed cpu w (Alu Xor a b) at s form e =
    let both = and-parts (is_upper w a) (is_upper w b) e in
    let x = upper_operand w in
    ap (λ y. upper_in w (op_step cpu (Alu Xor y b) at s)) (upper-is w a both.0)
    ∙ ap (λ y. upper_in w (op_step cpu (Alu Xor x y) at s)) (upper-is w b both.1)
    ∙ upper-result w (exclusive_of (operand_width x) (operand_value s x) (operand_value s x)) s form
    ∙ ap (λ (result : ℕ × Flags). result.0) (exclusive-self (operand_width x) (operand_value s x))
zeroed cpu w op at s form e = cc

-- the upper half of an extended byte repeats its sign
sign_extension-high : (a : ℕ) → a < 256 → sign_extension_of a / 256 ≡ extension_of byte_width a
unfolding sign_extension_of signed_of
sign_extension-high a p = grind (arith, ints, nat_tests)

extended :
    (cpu : Cpu) (w : Width) (op : Op) (at : ℕ) (s : State) → IsState s → extends_sign w op ≡ true
    → upper_in w (op_step cpu op at s) ≡ extension_of w (accumulator_in w (op_step cpu op at s))
extended cpu byte_width (Plain Cbw) at s form e =
    let al = word_in s Ax % 256 in
    let low : al < 256 = omega arith in
    let word = word-taken s Ax Ax (sign_extension_of al) form.registers.count refl in
    ap (half_of_word High) word
    ∙ sign_extension-high al low
    ∙ ap (extension_of byte_width) (sym (ap (half_of_word Low) word ∙ sign_extension-low al low))
extended cpu word_width (Plain Cwd) at s form e =
    word-taken s Dx Dx (extension_of word_width (word_in s Ax)) form.registers.count refl
    ∙ ap (extension_of word_width) (sym (word-other s Dx Ax (extension_of word_width (word_in s Ax)) refl))
extended cpu w op at s form e = cc

-- the instruction prepares the upper half
prepared-by :
    (division : UnaryName) (w : Width) (layout : Layout) (instr : Instr) (s : State) → IsStep layout instr s
    → prepares division w instr.op ≡ true → HasUpper division w (step layout.cpu s)
prepared-by Div w layout instr s steps e =
    ap (upper_in w) steps.is ∙ zeroed layout.cpu w instr.op s.ip (fetched instr s) steps.next e
prepared-by Idiv w layout instr s steps e =
    subst (λ t. upper_in w t ≡ extension_of w (accumulator_in w t)) (sym steps.is)
    (extended layout.cpu w instr.op s.ip (fetched instr s) steps.next e)
prepared-by operation w layout instr s steps e = tt

not-true : (b : Bool) → not b ≡ true → b ≡ false
not-true true e = cc
not-true false e = refl

word-kept :
    (layout : Layout) (instr : Instr) (s : State) (r : Reg) → IsStep layout instr s
    → (writes_half instr.op r Low || writes_half instr.op r High) ≡ false → word_in (step layout.cpu s) r ≡ word_in s r
word-kept layout instr s r steps clear =
    let none = or-none (writes_half instr.op r Low) (writes_half instr.op r High) clear in
    word-joined (word_in (step layout.cpu s) r) (word_in s r)
    (kept-along layout instr s r Low steps none.0) (kept-along layout instr s r High steps none.1)

upper-kept :
    (w : Width) (layout : Layout) (instr : Instr) (s : State) → IsStep layout instr s → writes_upper w instr.op ≡ false
    → upper_in w (step layout.cpu s) ≡ upper_in w s
upper-kept byte_width layout instr s steps clear = kept-along layout instr s Ax High steps clear
upper-kept word_width layout instr s steps clear = word-kept layout instr s Dx steps clear

accumulator-kept :
    (w : Width) (layout : Layout) (instr : Instr) (s : State) → IsStep layout instr s → writes_ax instr.op ≡ false
    → accumulator_in w (step layout.cpu s) ≡ accumulator_in w s
accumulator-kept byte_width layout instr s steps clear =
    kept-along layout instr s Ax Low steps
    (or-none (writes_half instr.op Ax Low) (writes_half instr.op Ax High) clear).0
accumulator-kept word_width layout instr s steps clear = word-kept layout instr s Ax steps clear

-- an instruction that keeps what is divided leaves the upper half as it was
kept-by :
    (division : UnaryName) (w : Width) (layout : Layout) (instr : Instr) (s : State) → IsStep layout instr s
    → keeps_dividend division w instr.op ≡ true → HasUpper division w s → HasUpper division w (step layout.cpu s)
kept-by Div w layout instr s steps e held =
    upper-kept w layout instr s steps (not-true (writes_upper w instr.op) e) ∙ held
kept-by Idiv w layout instr s steps e held =
    let both = and-parts (not (writes_ax instr.op)) (not (writes_upper w instr.op)) e in
    upper-kept w layout instr s steps (not-true (writes_upper w instr.op) both.1)
    ∙ held
    ∙ ap (extension_of w) (sym (accumulator-kept w layout instr s steps (not-true (writes_ax instr.op) both.0)))
kept-by operation w layout instr s steps e held = tt

-- a CALL neither prepares nor keeps
call-spoils :
    (division : UnaryName) (w : Width) (target : ℕ)
    → (prepares division w (Call target) ≡ true → ⊥) × (keeps_dividend division w (Call target) ≡ true → ⊥)
call-spoils Div byte_width target = (λ e. cc, λ e. cc)
call-spoils Div word_width target = (λ e. cc, λ e. cc)
call-spoils Idiv byte_width target = (λ e. cc, λ e. cc)
call-spoils Idiv word_width target = (λ e. cc, λ e. cc)
call-spoils operation byte_width target = (λ e. cc, λ e. cc)
call-spoils operation word_width target = (λ e. cc, λ e. cc)

-- two operations at one offset are one
same-operation :
    (found : Option Instr) (instr other : Instr) (op : Op) → found ≡ Some instr → found ≡ Some other → other.op ≡ op
    → instr.op ≡ op
same-operation found instr other op p q e = let same : instr ≡ other = cc in ap (λ (i : Instr). i.op) same ∙ e

passed-prepares :
    (file : List ℕ) (image : Image) (layout : Layout) (division : UnaryName) (w : Width) (op : Op) (last : ℕ)
    (rest : List ℕ) (s : State) → IsImageOf file image → HasPassed image layout (last ∷ rest) s
    → StandsAt image layout last op → prepares division w op ≡ true → HasUpper division w s
passed-prepares file image layout division w op last rest s of_file (stepped {s =
    u} {instr = instr} passed here goes holds found) stands e =
    let steps =
    step-along file image layout last u instr of_file (passed-state image layout rest u passed) here goes holds found in
    let is = same-operation (instruction_in image layout last) instr stands.0 op found stands.1 stands.2 in
    prepared-by division w layout instr u steps (ap (prepares division w) is ∙ e)
passed-prepares file image layout division w op last rest s of_file (returned {target =
    target} passed calls t form) stands e =
    let is : Call target ≡ op =
    sym calls.2 ∙ same-operation (instruction_in image layout last) calls.0 stands.0 op calls.1 stands.1 stands.2 in
    absurd ((call-spoils division w target).0 (ap (prepares division w) is ∙ e))

passed-keeps :
    (file : List ℕ) (image : Image) (layout : Layout) (division : UnaryName) (w : Width) (op : Op) (last : ℕ)
    (rest : List ℕ) (s : State) → IsImageOf file image → HasPassed image layout (last ∷ rest) s
    → StandsAt image layout last op → keeps_dividend division w op ≡ true
    → ((u : State) → HasPassed image layout rest u → HasUpper division w u) → HasUpper division w s
passed-keeps file image layout division w op last rest s of_file (stepped {s =
    u} {instr = instr} passed here goes holds found) stands e held =
    let steps =
    step-along file image layout last u instr of_file (passed-state image layout rest u passed) here goes holds found in
    let is = same-operation (instruction_in image layout last) instr stands.0 op found stands.1 stands.2 in
    kept-by division w layout instr u steps (ap (keeps_dividend division w) is ∙ e) (held u passed)
passed-keeps file image layout division w op last rest s of_file (returned {target =
    target} passed calls t form) stands e held =
    let is : Call target ≡ op =
    sym calls.2 ∙ same-operation (instruction_in image layout last) calls.0 stands.0 op calls.1 stands.1 stands.2 in
    absurd ((call-spoils division w target).1 (ap (keeps_dividend division w) is ∙ e))

-- the offset before the last one of a trail is the sole predecessor
sole-before :
    (image : Image) (layout : Layout) (entry from at last : ℕ) (rest : List ℕ)
    → IsSolePredecessor image layout entry from at → IsTrail image layout entry (at ∷ last ∷ rest) → from ≡ last
sole-before image layout entry from at last rest sole trail =
    sym (sole.sole last (record { before = rest; trail = trail }))

upper-held :
    (file : List ℕ) (image : Image) (layout : Layout) (entry : ℕ) (division : UnaryName) (w : Width) (at : ℕ)
    (before : List ℕ) (s : State) → IsImageOf file image → IsTrail image layout entry (at ∷ before)
    → HasPassed image layout before s → IsPrepared image layout entry division w at → HasUpper division w s
upper-held file image layout entry division w at [] s of_file trail passed (nearest sole stands e) =
    absurd (sole.inner trail)
upper-held file image layout entry division w at [] s of_file trail passed (further sole stands e earlier) =
    absurd (sole.inner trail)
upper-held file image layout entry division w at (last ∷ rest) s of_file trail passed (nearest {from =
    from} {op = op} sole stands e) =
    let is = sole-before image layout entry from at last rest sole trail in
    passed-prepares file image layout division w op last rest s of_file passed
    (subst (λ n. StandsAt image layout n op) is stands) e
upper-held file image layout entry division w at (last ∷ rest) s of_file trail passed (further {from =
    from} {op = op} sole stands e earlier) =
    let is = sole-before image layout entry from at last rest sole trail in
    let before_it : IsTrail image layout entry (from ∷ rest) =
    subst (λ n. IsTrail image layout entry (n ∷ rest)) (sym is) trail.1 in
    passed-keeps file image layout division w op last rest s of_file passed
    (subst (λ n. StandsAt image layout n op) is stands) e
    (λ u came. upper-held file image layout entry division w from rest u of_file before_it came earlier)

pub prepared-held : PreparedUpperIsHeld
prepared-held file image layout entry at before s division w of_file trail passed prepared =
    upper-held file image layout entry division w at before s of_file trail passed prepared
