-- Where the instructions of a prelude stand: in ascending order from its first one, below the procedure's entry.
use Rattle.std.proofs.Common.{◌≡◌, ◌≢◌, ℕ, zero, suc, ◌+◌, ◌<◌, ◌≤◌, true, List, [], ◌∷◌, length, take, Some, slice_get, refl, sym, subst, true≢false, arith}
use Rattle.std.specs.List.{list_any}
use Rattle.dcc_machine.specs.declared.cpu.Cpu.{Cpu}
use Rattle.dcc_machine.specs.declared.image.Image.{Image}
use Rattle.dcc_prog.specs.declared.procedure.Layout.{Layout}
use Rattle.dcc_machine.specs.declared.instr.Instr.{Instr}
use Rattle.dcc_machine.specs.MzImage.{IsLoaded}
use Rattle.dcc_machine.specs.Code.{code_of}
use Rattle.dcc_prog.specs.Layout.{writes_ds, IsFormAt, IsRun, offset_after, HasLayout}
use Rattle.dcc_machine.proofs.FetchLaws.{image-placed}
use Rattle.dcc_prog.proofs.PreludeLaws.{form-inside}

-- the offset of an instruction of a run, by its place, where the run begins at an offset; after the last one, the run's end
abbrev pub offset_in : ℕ → List Instr → ℕ → ℕ
offset_in zero run at = at
offset_in (suc k) [] at = at
offset_in (suc k) (instr ∷ rest) at = offset_in k rest (at + instr.len)

-- the offset of an instruction of a run is the end of the run's front before it
pub offset-taken : (k : ℕ) (run : List Instr) (at : ℕ) → offset_in k run at ≡ offset_after at (take k run)
offset-taken zero run at = refl
offset-taken (suc k) [] at = refl
offset-taken (suc k) (instr ∷ rest) at = offset-taken k rest (at + instr.len)

pub offset-end : (run : List Instr) (at : ℕ) → offset_in (length run) run at ≡ offset_after at run
offset-end [] at = refl
offset-end (instr ∷ rest) at = offset-end rest (at + instr.len)

-- the front of a run is one
pub run-taken : (cpu : Cpu) (code : List ℕ) (k : ℕ) (run : List Instr) (at : ℕ) → IsRun cpu code at run → IsRun cpu code at (take k run)
run-taken cpu code zero run at r = tt
run-taken cpu code (suc k) [] at r = tt
run-taken cpu code (suc k) (instr ∷ rest) at r = (r.0, run-taken cpu code k rest (at + instr.len) r.1)

-- each instruction of a run stands at its offset
pub form-at :
    (cpu : Cpu) (code : List ℕ) (k : ℕ) (run : List Instr) (at : ℕ) (instr : Instr) → IsRun cpu code at run
    → slice_get run k ≡ Some instr → IsFormAt cpu code (offset_in k run at) instr
form-at cpu code k [] at instr r e = absurd (cc)
form-at cpu code zero (first ∷ rest) at instr r e = let same : first ≡ instr = cc in subst (IsFormAt cpu code at) same r.0
form-at cpu code (suc k) (first ∷ rest) at instr r e = form-at cpu code k rest (at + first.len) instr r.1 e

-- Order.

pub offset-above : (cpu : Cpu) (code : List ℕ) (k : ℕ) (run : List Instr) (at : ℕ) → IsRun cpu code at run → at ≤ offset_in k run at
offset-above cpu code zero run at r = omega arith
offset-above cpu code (suc k) [] at r = omega arith
offset-above cpu code (suc k) (instr ∷ rest) at r =
    let further = offset-above cpu code k rest (at + instr.len) r.1 in
    omega (arith, further)

-- the offsets ascend
pub offset-ascends : (cpu : Cpu) (code : List ℕ) (j k : ℕ) (run : List Instr) (at : ℕ) → IsRun cpu code at run → j < k → k ≤ length run → offset_in j run at < offset_in k run at
offset-ascends cpu code j zero run at r less inside = absurd (omega arith)
offset-ascends cpu code j (suc k) [] at r less inside = absurd (omega arith)
offset-ascends cpu code zero (suc k) (instr ∷ rest) at r less inside =
    let some = (form-inside cpu code at instr r.0).0 in
    let further = offset-above cpu code k rest (at + instr.len) r.1 in
    omega (arith, some, further)
offset-ascends cpu code (suc j) (suc k) (instr ∷ rest) at r less inside =
    offset-ascends cpu code j k rest (at + instr.len) r.1 (omega arith) (omega arith)

-- each instruction takes a byte at least
pub offset-far : (cpu : Cpu) (code : List ℕ) (k : ℕ) (run : List Instr) (at : ℕ) → IsRun cpu code at run → k ≤ length run → at + k ≤ offset_in k run at
offset-far cpu code zero run at r inside = omega arith
offset-far cpu code (suc k) [] at r inside = absurd (omega (arith, inside))
offset-far cpu code (suc k) (instr ∷ rest) at r inside =
    let some = (form-inside cpu code at instr r.0).0 in
    let more = offset-far cpu code k rest (at + instr.len) r.1 (omega (arith, inside)) in
    omega (arith, some, more)

pub run-above : (cpu : Cpu) (code : List ℕ) (run : List Instr) (at : ℕ) → IsRun cpu code at run → at ≤ offset_after at run
run-above cpu code run at r =
    let above = offset-above cpu code (length run) run at r in
    omega (arith, above, offset-end run at)

-- the offsets of a run's instructions lie before the run's end
pub offset-before_end : (cpu : Cpu) (code : List ℕ) (k : ℕ) (run : List Instr) (at : ℕ) → IsRun cpu code at run → k < length run → offset_in k run at < offset_after at run
offset-before_end cpu code k run at r inside =
    let up = offset-ascends cpu code k (length run) run at r inside (omega arith) in
    omega (arith, up, offset-end run at)

-- the first one alone is where the run begins
pub offset-first : (cpu : Cpu) (code : List ℕ) (k : ℕ) (run : List Instr) (at : ℕ) → IsRun cpu code at run → k < length run → offset_in k run at ≡ at → k ≡ 0
offset-first cpu code zero run at r inside same = refl
offset-first cpu code (suc k) run at r inside same =
    let up = offset-ascends cpu code 0 (suc k) run at r (omega arith) (omega arith) in
    absurd (omega (arith, up, same))

-- Bounds of a layout.

module _ (image : Image) (layout : Layout) (loaded : IsLoaded image) (has : HasLayout image layout) where
  -- the prelude's end, and with it the procedure's entry, lies below the code's end, which is below offset 65536
  pub prelude-within : offset_after image.ip has.prelude ≤ layout.code_end
  prelude-within = omega (arith, has.left.start_ip, has.small.has_code)

  pub prelude-short : offset_after image.ip has.prelude < 65536
  prelude-short =
      let placed = image-placed loaded.file image loaded.is_image in
      omega (arith, has.left.start_ip, has.small.has_code, has.left.code_end, placed.short)

  pub start-below : layout.start_ip < 65536
  start-below = omega (arith, has.left.start_ip, prelude-short)

  -- there is an instruction in the prelude, that which writes DS
  pub prelude-some : 0 < length has.prelude
  prelude-some = go has.prelude has.ds_written
    where
      go : (prelude : List Instr) → list_any (λ (i : Instr). writes_ds i.op) prelude ≡ true → 0 < length prelude
      go [] e = absurd (true≢false (sym e))
      go (i ∷ rest) e = omega arith

  pub prelude-before_start : (k : ℕ) → k < length has.prelude → offset_in k has.prelude image.ip < layout.start_ip
  prelude-before_start k inside =
      let before = offset-before_end layout.cpu (code_of image) k has.prelude image.ip has.is_prelude.run inside in
      omega (arith, before, has.left.start_ip)

  pub prelude-below : (k : ℕ) → k < length has.prelude → offset_in k has.prelude image.ip < 65536
  prelude-below k inside = omega (arith, prelude-before_start k inside, start-below)

  -- the first instruction of the prelude alone stands where the program begins
  pub prelude-first : (k : ℕ) → k < length has.prelude → offset_in k has.prelude image.ip ≡ image.ip → k ≡ 0
  prelude-first k inside same = offset-first layout.cpu (code_of image) k has.prelude image.ip has.is_prelude.run inside same

  pub start-apart : image.ip ≢ layout.start_ip
  start-apart same = let before : image.ip < layout.start_ip = prelude-before_start 0 prelude-some in absurd (omega (arith, before, same))
