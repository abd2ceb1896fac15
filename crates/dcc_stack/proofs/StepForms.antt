-- What the operation of a form does to SP and to BP.
use Rattle.std.proofs.Common.{◌≡◌, ◌≢◌, ℕ, ◌+◌, true, false, Some, refl, sym, ap, ◌∙◌, arith}
use Rattle.std.specs.Prelude.{ℤ, pos, ◌+ℤ◌, ◌-ℤ◌}
use Rattle.std.proofs.lemmas.Bool.{lt-ltb}
use Rattle.std.proofs.lemmas.Int.{ints}
use Rattle.dcc_num.specs.declared.Width.TheVariants.{Word as word_width}
use Rattle.dcc_num.specs.declared.Reg.TheVariants.{Ax, Cx, Dx, Bx, Sp, Bp, Si, Di}
use Rattle.dcc_num.specs.declared.Half.{Half}
use Rattle.dcc_num.specs.declared.Half.TheVariants.{Low}
use Rattle.dcc_num.specs.Numbers.{signed_of}
use Rattle.dcc_machine.specs.declared.image.Image.{Image}
use Rattle.dcc_prog.specs.declared.procedure.Layout.{Layout}
use Rattle.dcc_machine.specs.declared.instr.Alu.TheVariants.{Add, Sub}
use Rattle.dcc_machine.specs.declared.instr.Unary.TheVariants.{Inc, Dec}
use Rattle.dcc_machine.specs.declared.instr.Operand.{Operand}
use Rattle.dcc_machine.specs.declared.instr.Operand.TheVariants.{Word, Byte, Const}
use Rattle.dcc_machine.specs.declared.instr.Op.{Op}
use Rattle.dcc_machine.specs.declared.instr.Op.TheVariants.{Alu as AluOp, Unary as UnaryOp, Mov, Lea, Push, Pop, Enter, Leave, Call, Ret}
use Rattle.dcc_machine.specs.Machine.{State, word_in}
use Rattle.dcc_machine.specs.Writes.{is_half_of, writes_half}
use Rattle.dcc_machine.specs.SpAndBp.{is_sp_or_bp}
use Rattle.dcc_prog.specs.Height.{lowering_of, height_set_by, MovesHeight, push, pop, call, move, set, keep}
use Rattle.dcc_prog.specs.Clean.{sp_after, lowered_by}
use Rattle.dcc_prog.specs.CleanLaws.{moves_frames, tells_sp}
use Rattle.dcc_stack.specs.Accepted.{changes_frame, IsSetUp, IsForm, saves, points, enters, falls_back, falls_to, restores, leaves, pushes, pops, calls, returns, moves, keeps}

-- Moves of SP.

lowered-sp :
    (op : Op) (bytes : ℤ) (s : State) → lowering_of op ≡ Some bytes → sp_after op s ≡ (pos (word_in s Sp) -ℤ bytes)
lowered-sp (Push a) bytes s e = cc
lowered-sp (Pop a) bytes s e = cc
lowered-sp (Call target) bytes s e = cc
lowered-sp (Ret count) bytes s e = cc
lowered-sp (Enter count) bytes s e = cc
lowered-sp Leave bytes s e = cc
lowered-sp (Mov (Word Sp) (Word Bp)) bytes s e = cc
lowered-sp (Lea Sp ea) bytes s e = cc
lowered-sp op bytes s e = ap (λ o. pos (word_in s Sp) -ℤ lowered_by o) e

lowering-writes : (op : Op) (bytes : ℤ) → lowering_of op ≡ Some bytes → writes_half op Sp Low ≡ true
lowering-writes (AluOp Add (Word Sp) (Const width constant)) bytes e = refl
lowering-writes (AluOp Sub (Word Sp) (Const width constant)) bytes e = refl
lowering-writes (UnaryOp Inc (Word Sp)) bytes e = refl
lowering-writes (UnaryOp Dec (Word Sp)) bytes e = refl
lowering-writes op bytes e = cc

lowering-told : (op : Op) (bytes : ℤ) → lowering_of op ≡ Some bytes → tells_sp op ≡ true
lowering-told (AluOp Add (Word Sp) (Const width constant)) bytes e = refl
lowering-told (AluOp Sub (Word Sp) (Const width constant)) bytes e = refl
lowering-told (UnaryOp Inc (Word Sp)) bytes e = refl
lowering-told (UnaryOp Dec (Word Sp)) bytes e = refl
lowering-told op bytes e = cc

set-writes : (op : Op) (after : ℤ) → height_set_by op ≡ Some after → writes_half op Sp Low ≡ true
set-writes (Mov (Word Sp) (Word Bp)) after e = refl
set-writes (Lea Sp ea) after e = refl
set-writes (Enter count) after e = refl
set-writes Leave after e = refl
set-writes op after e = cc

-- the instruction pointer is nothing to it
pub sp_after-ip : (op : Op) (s : State) (ip : ℕ) → sp_after op (record s { ip = ip }) ≡ sp_after op s
sp_after-ip (Push a) s ip = refl
sp_after-ip (Pop a) s ip = refl
sp_after-ip (Call target) s ip = refl
sp_after-ip (Ret count) s ip = refl
sp_after-ip (Enter count) s ip = refl
sp_after-ip Leave s ip = refl
sp_after-ip (Mov (Word Sp) (Word Bp)) s ip = refl
sp_after-ip (Lea Sp ea) s ip = refl
sp_after-ip op s ip = refl

-- Heights.

-- where an operation that writes SP leaves it, by the heights before and after
goes-to :
    {image : Image} {layout : Layout} {entry at : ℕ} {op : Op} {height after : ℤ} (s : State)
    → MovesHeight image layout entry at op height after → moves_frames op ≡ false → writes_half op Sp Low ≡ true
    → (height_set_by op ≡ Some after → sp_after op s ≡ ((pos (word_in s Sp) +ℤ height) -ℤ after))
    → sp_after op s ≡ ((pos (word_in s Sp) +ℤ height) -ℤ after)
goes-to s push apart writes sets = omega (arith, ints)
goes-to s pop apart writes sets = omega (arith, ints)
goes-to s (call removed) apart writes sets = cc
goes-to s (move {op} {height} {bytes} lowers) apart writes sets = lowered-sp op bytes s lowers ∙ omega (arith, ints)
goes-to s (set form given) apart writes sets = sets given
goes-to s (keep clear) apart writes sets = cc

-- one that doesn't leaves the height
pub stays-at :
    {image : Image} {layout : Layout} {entry at : ℕ} {op : Op} {height after : ℤ}
    → MovesHeight image layout entry at op height after → writes_half op Sp Low ≡ false → after ≡ height
stays-at push clear = cc
stays-at pop clear = cc
stays-at (call removed) clear = cc
stays-at (move {op} {height} {bytes} lowers) clear = let writes = lowering-writes op bytes lowers in cc
stays-at (set {op} {height} {after} form given) clear = let writes = set-writes op after given in cc
stays-at (keep still) clear = refl

-- what an operation does to SP: it moves it as the height, or leaves both
pub data SpGoes (s : State) (op : Op) (height after : ℕ) : Type 0 where
  moved :
      tells_sp op ≡ true
      → sp_after op s ≡ (pos (word_in s Sp + height) -ℤ pos after)
      → SpGoes s op height after
  stayed : ((half : Half) → writes_half op Sp half ≡ false) → after ≡ height → SpGoes s op height after

spared-sp : (a : Operand) → is_sp_or_bp a ≡ false → tells_sp (Pop a) ≡ true
spared-sp (Word Sp) other = cc
spared-sp (Word Bp) other = cc
spared-sp (Byte Sp half) other = cc
spared-sp (Byte Bp half) other = cc
spared-sp (Word Ax) other = refl
spared-sp (Word Cx) other = refl
spared-sp (Word Dx) other = refl
spared-sp (Word Bx) other = refl
spared-sp (Word Si) other = refl
spared-sp (Word Di) other = refl
spared-sp (Byte Ax half) other = refl
spared-sp (Byte Cx half) other = refl
spared-sp (Byte Dx half) other = refl
spared-sp (Byte Bx half) other = refl
spared-sp (Byte Si half) other = refl
spared-sp (Byte Di half) other = refl
spared-sp a other = refl

module _ (image : Image) (layout : Layout) (entry at height after : ℕ) (s : State) where
  abbrev Moves : Op → Type 0
  Moves op = MovesHeight image layout entry at op (pos height) (pos after)

  -- an operation moves SP as it moves the height, where a height that it sets is right
  moving :
      (op : Op) → Moves op → moves_frames op ≡ false → writes_half op Sp Low ≡ true → tells_sp op ≡ true
      → (height_set_by op ≡ Some (pos after) → sp_after op s ≡ ((pos (word_in s Sp) +ℤ pos height) -ℤ pos after))
      → SpGoes s op height after
  moving op m apart writes told sets = moved told (goes-to s m apart writes sets ∙ omega (arith, ints))

  staying :
      (op : Op) → Moves op → ((half : Half) → writes_half op Sp half ≡ false) → SpGoes s op height after
  staying op m clear =
      let same : pos after ≡ pos height = stays-at m (clear Low) in stayed clear (omega (arith, ints, same))

  -- where the frame is set up, BP points to its saved BP
  pub sp-goes :
      {op : Op} → IsForm image layout entry at height op → moves_frames op ≡ false → Moves op
      → (op ≢ Mov (Word Bp) (Word Sp) → IsSetUp image layout entry height
      → word_in s Bp + 2 ≡ word_in s Sp + height)
      → SpGoes s op height after
  sp-goes (saves framed first none) apart m points_to = moving _ m refl refl refl (λ e. cc)
  sp-goes (points framed two) apart m points_to = staying _ m (λ half. refl)
  sp-goes (enters {count} framed first none fits) apart m points_to =
      moving _ m refl refl (lt-ltb count 65536 fits) (λ e.
      let set_to : (pos 2 +ℤ pos count) ≡ pos after = cc in omega (arith, ints, set_to, none))
  sp-goes (falls_back up) apart m points_to =
      let bp = points_to (λ e. cc) up in
      moving _ m refl refl refl (λ e. let set_to : pos 2 ≡ pos after = cc in omega (arith, ints, set_to, bp))
  sp-goes (falls_to {ea} up direct) apart m points_to =
      let bp = points_to (λ e. cc) up in
      moving _ m refl refl direct (λ e.
      let set_to : (pos 2 -ℤ signed_of word_width ea.disp) ≡ pos after = cc in omega (arith, ints, set_to, bp))
  sp-goes (restores framed two) apart m points_to = moving _ m refl refl refl (λ e. cc)
  sp-goes (leaves up) apart m points_to =
      let bp = points_to (λ e. cc) up in
      moving _ m refl refl refl (λ e. let set_to : pos 0 ≡ pos after = cc in omega (arith, ints, set_to, bp))
  sp-goes (pushes plain) apart m points_to = moving _ m refl refl refl (λ e. cc)
  sp-goes (pops {a} plain) apart m points_to = moving _ m refl refl (spared-sp a plain.other) (λ e. cc)
  sp-goes calls apart m points_to = cc
  sp-goes (returns none inner) apart m points_to = cc
  sp-goes (moves {op} {bytes} lowers) apart m points_to =
      moving op m apart (lowering-writes op bytes lowers) (lowering-told op bytes lowers)
      (lowering-not_set op bytes lowers)
    where
      lowering-not_set :
          (op : Op) (bytes : ℤ) → lowering_of op ≡ Some bytes → height_set_by op ≡ Some (pos after)
          → sp_after op s ≡ ((pos (word_in s Sp) +ℤ pos height) -ℤ pos after)
      lowering-not_set (Mov (Word Sp) (Word Bp)) bytes l e = cc
      lowering-not_set (Lea Sp ea) bytes l e = cc
      lowering-not_set (Enter count) bytes l e = cc
      lowering-not_set Leave bytes l e = cc
      lowering-not_set op bytes l e = cc
  sp-goes (keeps {op} apart' sp bp) apart m points_to = staying op m sp

-- BP.

-- the operation writes no half of BP, and neither sets the frame up nor gives it up
pub record LeavesBp (op : Op) : Type 0 where
  pub spared : (half : Half) → writes_half op Bp half ≡ false
  pub frame : changes_frame op ≡ false
  pub other : op ≢ Mov (Word Bp) (Word Sp)

spared-bp : (a : Operand) (half : Half) → is_sp_or_bp a ≡ false → is_half_of Bp half a ≡ false
spared-bp (Word Sp) half other = cc
spared-bp (Word Bp) half other = cc
spared-bp (Byte Sp part) half other = cc
spared-bp (Byte Bp part) half other = cc
spared-bp (Word Ax) half other = refl
spared-bp (Word Cx) half other = refl
spared-bp (Word Dx) half other = refl
spared-bp (Word Bx) half other = refl
spared-bp (Word Si) half other = refl
spared-bp (Word Di) half other = refl
spared-bp (Byte Ax part) half other = refl
spared-bp (Byte Cx part) half other = refl
spared-bp (Byte Dx part) half other = refl
spared-bp (Byte Bx part) half other = refl
spared-bp (Byte Si part) half other = refl
spared-bp (Byte Di part) half other = refl
spared-bp a half other = refl

plain-push : (a : Operand) → is_sp_or_bp a ≡ false → changes_frame (Push a) ≡ false
plain-push (Word Bp) other = cc
plain-push a other = refl

plain-pop : (a : Operand) → is_sp_or_bp a ≡ false → changes_frame (Pop a) ≡ false
plain-pop (Word Bp) other = cc
plain-pop a other = refl

pub push-leaves : (a : Operand) → is_sp_or_bp a ≡ false → LeavesBp (Push a)
push-leaves a other = record { spared = λ half. refl; frame = plain-push a other; other = λ e. cc }

pub pop-leaves : (a : Operand) → is_sp_or_bp a ≡ false → LeavesBp (Pop a)
pop-leaves a other = record { spared = λ half. spared-bp a half other; frame = plain-pop a other; other = λ e. cc }

pub move-leaves : (op : Op) (bytes : ℤ) → lowering_of op ≡ Some bytes → LeavesBp op
move-leaves (AluOp Add (Word Sp) (Const width constant)) bytes e =
    record { spared = λ half. refl; frame = refl; other = λ e. cc }
move-leaves (AluOp Sub (Word Sp) (Const width constant)) bytes e =
    record { spared = λ half. refl; frame = refl; other = λ e. cc }
move-leaves (UnaryOp Inc (Word Sp)) bytes e = record { spared = λ half. refl; frame = refl; other = λ e. cc }
move-leaves (UnaryOp Dec (Word Sp)) bytes e = record { spared = λ half. refl; frame = refl; other = λ e. cc }
move-leaves op bytes e = cc

keep-frame : (op : Op) → writes_half op Sp Low ≡ false → changes_frame op ≡ false
keep-frame (Push (Word Bp)) clear = cc
keep-frame (Enter count) clear = cc
keep-frame (Pop (Word Bp)) clear = cc
keep-frame Leave clear = cc
keep-frame op clear = refl

pub keep-leaves :
    (op : Op) → ((half : Half) → writes_half op Sp half ≡ false) → ((half : Half) → writes_half op Bp half ≡ false)
    → LeavesBp op
keep-leaves op sp bp = record {
  spared = bp;
  frame = keep-frame op (sp Low);
  other = λ e. let writes = sym (ap (λ o. writes_half o Bp Low) e) ∙ bp Low in cc;
}
