-- The start of an image is a state.
use Rattle.std.proofs.Common.{◌≡◌, ℕ, zero, suc, ◌+◌, ◌-◌, ◌/◌, ◌%◌, ◌<◌, ◌≤◌, List, [], ◌∷◌, ◌++◌, length, take, drop, get_or, set, replicate, refl, sym, subst, arith, length-append}
use Rattle.std.proofs.lemmas.List.{get_or-drop, length-replicate}
use Rattle.std.specs.Prelude.{slice_index}
use Rattle.dcc_num.specs.declared.Reg.{Reg}
use Rattle.dcc_num.specs.declared.Reg.TheVariants.{Ax, Cx, Dx, Bx, Sp, Bp, Si, Di}
use Rattle.dcc_machine.specs.declared.image.Image.{Image}
use Rattle.dcc_machine.specs.Bytes.{word_at, with_word_at}
use Rattle.dcc_machine.specs.Load.{image_address}
use Rattle.dcc_machine.specs.MzImage.{image_start, image_end, relocation_count, relocated_place, relocated_image, loaded_segment}
use Rattle.dcc_machine.specs.Machine.{word_in, loaded_memory, start_state}
use Rattle.dcc_machine.specs.StateForm.{StartsAreStates}
use Rattle.dcc_machine.proofs.MzImageLaws.{byte_at-lt, word_at-lt, length-image}
use Rattle.dcc_machine.proofs.StateKept.{set-below}

-- each element is below 256, and so is what stands past the end
abbrev AreLow : List ℕ → Type 0
AreLow xs = (k : ℕ) → get_or xs k 0 < 256

append-low : (xs ys : List ℕ) → AreLow xs → AreLow ys → AreLow (xs ++ ys)
append-low [] ys p q k = q k
append-low (x ∷ xs) ys p q zero = p 0
append-low (x ∷ xs) ys p q (suc k) = append-low xs ys (λ j. p (suc j)) q k

zeros-low : (n : ℕ) → AreLow (replicate n 0)
zeros-low zero k = omega arith
zeros-low (suc n) zero = omega arith
zeros-low (suc n) (suc k) = zeros-low n k

take-low : (n : ℕ) (xs : List ℕ) → AreLow xs → AreLow (take n xs)
take-low zero xs p k = omega arith
take-low (suc n) [] p k = omega arith
take-low (suc n) (x ∷ xs) p zero = p 0
take-low (suc n) (x ∷ xs) p (suc k) = take-low n xs (λ j. p (suc j)) k

drop-low : (n : ℕ) (xs : List ℕ) → AreLow xs → AreLow (drop n xs)
drop-low n xs p k = subst (λ b. b < 256) (sym (get_or-drop n xs k 0)) (p (n + k))

word-low : (xs : List ℕ) (at word : ℕ) → word < 65536 → AreLow xs → AreLow (with_word_at xs at word)
unfolding with_word_at
word-low xs at word fits p k =
    let low : word % 256 < 256 = omega arith in
    let high : word / 256 < 256 = omega arith in
    set-below (set xs at (word % 256)) (at + 1) (word / 256) k 256 high (set-below xs at (word % 256) k 256 low (p k))

-- the bytes of an image, whatever was moved
relocated-low : (file : List ℕ) (n : ℕ) → AreLow file → AreLow (relocated_image file n)
unfolding relocated_image
relocated-low file zero p =
    take-low (image_end file - image_start file) (drop (image_start file) file) (drop-low (image_start file) file p)
relocated-low file (suc n) p =
    let before = relocated_image file n in
    let place = relocated_place file n in
    let fits : loaded_segment (word_at before place) < 65536 = omega arith in
    word-low before place (loaded_segment (word_at before place)) fits (relocated-low file n p)

memory-low : (bytes : List ℕ) → AreLow bytes → AreLow (loaded_memory bytes)
unfolding loaded_memory
memory-low bytes p =
    append-low (replicate image_address 0) _ (zeros-low image_address) (append-low bytes _ p (zeros-low _))

memory-size : (bytes : List ℕ) → image_address + length bytes ≤ 1048576 → length (loaded_memory bytes) ≡ 1048576
unfolding loaded_memory
memory-size bytes fits =
    let rest = 1048576 - (image_address + length bytes) in
    let outer = length-append (replicate image_address 0) (bytes ++ replicate rest 0) in
    let inner = length-append bytes (replicate rest 0) in
    let first = length-replicate {A = ℕ} image_address 0 in
    let last = length-replicate {A = ℕ} rest 0 in
    omega (arith, outer, inner, first, last)

pub starts-are : StartsAreStates
starts-are image input loaded bytes =
    let file = loaded.file in
    let is = loaded.is_image in
    let good = is.good_header in
    let size = length-image file image is in
    let room : image_address + length image.bytes.items ≤ 1048576 =
    omega (arith, size, good.pages.2, good.small_enough) in
    let low : AreLow image.bytes.items =
    subst AreLow (sym is.bytes) (relocated-low file (relocation_count file) (λ k. byte_at-lt file k loaded.bytes)) in
    let sp : image.sp < 65536 = subst (λ n. n < 65536) (sym is.sp) (word_at-lt file 0x10 loaded.bytes) in
    let cs : image.cs < 65536 = omega (arith, is.cs) in
    let ss : image.ss < 65536 = omega (arith, is.ss) in
    record {
      registers = record { count = refl; words = words image input sp };
      segment_count = refl;
      segments = segments image input cs ss;
      memory_size = memory-size image.bytes.items room;
      memory = memory-low image.bytes.items low;
      input = bytes;
    }
  where
    words : (i : Image) (taken : List ℕ) → i.sp < 65536 → (r : Reg) → word_in (start_state i taken) r < 65536
    words i taken fits Ax = omega arith
    words i taken fits Cx = omega arith
    words i taken fits Dx = omega arith
    words i taken fits Bx = omega arith
    words i taken fits Sp = fits
    words i taken fits Bp = omega arith
    words i taken fits Si = omega arith
    words i taken fits Di = omega arith

    segments :
        (i : Image) (taken : List ℕ) → i.cs < 65536 → i.ss < 65536 → (number : ℕ)
        → slice_index (start_state i taken).segs number < 65536
    segments i taken p q zero = omega arith
    segments i taken p q (suc zero) = p
    segments i taken p q (suc (suc zero)) = q
    segments i taken p q (suc (suc (suc zero))) = omega arith
    segments i taken p q (suc (suc (suc (suc k)))) = omega arith
