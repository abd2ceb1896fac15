-- A machine that holds the code of an image reads its instructions from there.
use Rattle.std.proofs.Common.{◌≡◌, ℕ, zero, suc, ◌+◌, ◌-◌, ◌*◌, ◌<◌, ◌≤◌, List, [], ◌∷◌, ◌++◌, length, take, drop, get_or, replicate, Some, refl, sym, ap, ◌∙◌, arith, length-drop, length-take}
use Rattle.std.proofs.Math.Nat.{mod-eq_of_lt}
use Rattle.std.proofs.lemmas.List.{get_or-append-add, get_or_append_left, get_or-take, get_or-drop, take_all, length-replicate}
use Rattle.dcc_machine.specs.declared.cpu.Cpu.{Cpu}
use Rattle.dcc_machine.specs.declared.image.Image.{Image}
use Rattle.dcc_machine.specs.declared.instr.Instr.{Instr}
use Rattle.dcc_machine.specs.Load.{load_segment, image_address}
use Rattle.dcc_machine.specs.MzImage.{IsImageOf, header_cs, header_ip, image_length, image_end, relocation_count}
use Rattle.dcc_machine.specs.Table.{instruction_at}
use Rattle.dcc_machine.specs.Machine.{State, loaded_memory, code_segment, physical, byte_in, start_state}
use Rattle.dcc_machine.specs.Code.{code_of, HoldsCode}
use Rattle.dcc_machine.specs.Step.{code_byte, code_bytes}
use Rattle.dcc_machine.proofs.MzImageLaws.{length-relocated_image}
use Rattle.dcc_machine.proofs.TableLaws.{instruction-length, instruction-prefix}

-- what is after so many equal elements
after-replicate : (n : ℕ) (ys : List ℕ) (j : ℕ) → get_or (replicate n 0 ++ ys) (n + j) 0 ≡ get_or ys j 0
after-replicate n ys j =
    let e : n + j ≡ length (replicate n 0) + j = ap (λ k. k + j) (sym (length-replicate n 0)) in
    ap (λ k. get_or (replicate n 0 ++ ys) k 0) e ∙ get_or-append-add (replicate n 0) ys j 0

-- the byte of the image at an offset stands that far above the image's physical address
pub loaded-at : (bytes : List ℕ) (j : ℕ) → j < length bytes → get_or (loaded_memory bytes) (image_address + j) 0 ≡ get_or bytes j 0
unfolding loaded_memory
loaded-at bytes j within =
    after-replicate image_address (bytes ++ replicate (1048576 - (image_address + length bytes)) 0) j
    ∙ get_or_append_left bytes (replicate (1048576 - (image_address + length bytes)) 0) 0 j within

-- what the places of an image's code are bounded by
pub record IsPlaced (image : Image) : Type 0 where
  pub low : load_segment ≤ image.cs
  pub high : image.cs < 16656
  pub short : image.code_len ≤ 65536
  pub within : (image.cs - load_segment) * 16 + image.code_len ≤ length image.bytes.items

pub image-placed : (file : List ℕ) (image : Image) → IsImageOf file image → IsPlaced image
image-placed file image h =
    let good = h.good_header in
    let bytes = ap length h.bytes ∙ length-relocated_image file (relocation_count file) good in
    let ends : image_end file ≤ length file = good.pages.2 in
    let small : length file ≤ 262144 = good.small_enough in
    let entry : header_cs file * 16 + header_ip file < image_length file = h.has_entry in
    let few : header_cs file < 16384 = omega arith in
    let cs : image.cs ≡ header_cs file + load_segment =
    let fits : header_cs file + load_segment < 65536 = omega arith in
    h.cs ∙ mod-eq_of_lt fits in
    let code = h.code_len in
    record {
      low = omega arith;
      high = omega arith;
      short = omega (arith, code);
      within = omega (arith, code, bytes);
    }

-- the code's length is that of its bytes
pub length-code_of : (image : Image) → IsPlaced image → length (code_of image) ≡ image.code_len
unfolding code_of
length-code_of image placed =
    let skipped = (image.cs - load_segment) * 16 in
    length-take image.code_len (drop skipped image.bytes.items)
    ∙ (let d = length-drop skipped image.bytes.items in omega (arith, d, placed.within))

-- the byte of the code at an offset
code-at : (image : Image) (off : ℕ) → off < image.code_len → get_or (code_of image) off 0 ≡ get_or image.bytes.items ((image.cs - load_segment) * 16 + off) 0
unfolding code_of
code-at image off within =
    get_or-take image.code_len (drop ((image.cs - load_segment) * 16) image.bytes.items) off 0 within
    ∙ get_or-drop ((image.cs - load_segment) * 16) image.bytes.items off 0

-- a machine as it is started holds the whole code
pub start-holds : (image : Image) (input : List ℕ) → IsPlaced image → HoldsCode image image.code_len (start_state image input)
start-holds image input placed = record {
  segment = refl;
  bytes = λ off within.
      let j = (image.cs - load_segment) * 16 + off in
      let at : physical image.cs off ≡ image_address + j =
      let le : image.cs * 16 + off < 1048576 = omega (arith, placed.short, within, placed.high) in
      mod-eq_of_lt le ∙ omega (arith, placed.low) in
      let inside : j < length image.bytes.items = omega (arith, within, placed.within) in
      ap (λ a. get_or (loaded_memory image.bytes.items) a 0) at
      ∙ loaded-at image.bytes.items j inside
      ∙ sym (code-at image off within);
}

-- where memory and the code segment stay, so does the code
pub code-kept : (image : Image) (end : ℕ) (s t : State) → HoldsCode image end s → t.memory ≡ s.memory → code_segment t ≡ code_segment s → HoldsCode image end t
code-kept image end s t holds memory code = record {
  segment = code ∙ holds.segment;
  bytes = λ off within. ap (λ (m : List ℕ). get_or m (physical image.cs off) 0) memory ∙ holds.bytes off within;
}

-- what holds code holds a part of it
pub code-part : (image : Image) (end less : ℕ) (s : State) → HoldsCode image end s → less ≤ end → HoldsCode image less s
code-part image end less s holds le =
    record { segment = holds.segment; bytes = λ off within. holds.bytes off (omega arith) }

-- the byte after the instruction pointer is that of the code
code_byte-is : (image : Image) (end : ℕ) (s : State) (k : ℕ) → HoldsCode image end s → s.ip + k < end → s.ip + k < 65536 → code_byte s k ≡ get_or (code_of image) (s.ip + k) 0
code_byte-is image end s k holds within low =
    let off = s.ip + k in
    ap (λ o. byte_in s (code_segment s) o) (mod-eq_of_lt low)
    ∙ ap (λ seg. byte_in s seg off) holds.segment
    ∙ holds.bytes off within

-- a function's values at 0, 1 and so on
tabulated : (ℕ → ℕ) → ℕ → List ℕ
tabulated f zero = []
tabulated f (suc n) = f 0 ∷ tabulated (λ k. f (suc k)) n

take-tabulated : (len n : ℕ) (f : ℕ → ℕ) (xs : List ℕ) → len ≤ n → len ≤ length xs → ((k : ℕ) → k < len → f k ≡ get_or xs k 0) → take len (tabulated f n) ≡ take len xs
unfolding tabulated
take-tabulated zero n f xs a b same = refl
take-tabulated (suc len) zero f xs a b same = absurd (omega arith)
take-tabulated (suc len) (suc n) f [] a b same = absurd (omega arith)
take-tabulated (suc len) (suc n) f (x ∷ xs) a b same =
    let first : f 0 ≡ x = same 0 (omega arith) in
    let others : take len (tabulated (λ k. f (suc k)) n) ≡ take len xs =
    take-tabulated len n (λ k. f (suc k)) xs (omega arith) (omega arith) (λ k h. same (suc k) (omega arith)) in
    cc

-- the instruction at the instruction pointer is the one that stands in the code below the end
pub fetched-instruction :
    (cpu : Cpu) (image : Image) (end : ℕ) (s : State) (instr : Instr) → IsPlaced image → HoldsCode image end s
    → instruction_at cpu s.ip (drop s.ip (take end (code_of image))) ≡ Some instr
    → instruction_at cpu s.ip (code_bytes s) ≡ Some instr
unfolding tabulated
fetched-instruction cpu image end s instr placed holds found =
    let code = take end (code_of image) in
    let bounds = instruction-length cpu s.ip (drop s.ip code) instr found in
    let len = length-drop s.ip code in
    let some = length-take end (code_of image) in
    let all = length-code_of image placed in
    let short = placed.short in
    let same : take instr.len (tabulated (code_byte s) 6) ≡ take instr.len (drop s.ip code) =
    take-tabulated instr.len 6 (code_byte s) (drop s.ip code) bounds.2 bounds.1 (λ k h.
    let within : s.ip + k < end = omega (arith, bounds.1, len, some, h) in
    let low : s.ip + k < 65536 = omega (arith, bounds.1, len, some, all, short, h) in
    code_byte-is image end s k holds within low
    ∙ sym (get_or-take end (code_of image) (s.ip + k) 0 within)
    ∙ sym (get_or-drop s.ip code k 0)) in
    instruction-prefix cpu s.ip (drop s.ip code) (code_bytes s) instr found same

-- the instruction at the instruction pointer is the one that stands in the whole code
pub fetched-whole :
    (cpu : Cpu) (image : Image) (s : State) (instr : Instr) → IsPlaced image → HoldsCode image image.code_len s
    → instruction_at cpu s.ip (drop s.ip (code_of image)) ≡ Some instr
    → instruction_at cpu s.ip (code_bytes s) ≡ Some instr
fetched-whole cpu image s instr placed holds found =
    let all : take image.code_len (code_of image) ≡ code_of image =
    take_all image.code_len (code_of image) (let e = length-code_of image placed in omega (arith, e)) in
    fetched-instruction cpu image image.code_len s instr placed holds (ap (λ l. instruction_at cpu s.ip (drop s.ip l)) all ∙ found)
