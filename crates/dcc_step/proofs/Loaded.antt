-- The memory of a machine that is started.
use Rattle.std.proofs.Common.{◌≡◌, ℕ, ◌+◌, ◌-◌, ◌≤◌, ◌^◌, List, [], ◌++◌, length, replicate, take, refl, ap, ◌∙◌, append_assoc, arith, length-append, vec_len}
use Rattle.std.proofs.lemmas.List.{length-replicate, take_all}
use Rattle.dcc_machine.specs.declared.image.Image.{Image}
use Rattle.dcc_machine.specs.Load.{image_address}
use Rattle.dcc_machine.specs.Machine.{loaded_memory}
use Rattle.dcc_machine.specs.MzImage.{IsLoaded, relocation_count}
use Rattle.dcc_machine.proofs.MzImageLaws.{length-relocated_image}

-- a load image fits into memory
pub loaded_fits : (image : Image) → IsLoaded image → image_address + vec_len image.bytes ≤ 2 ^ 20
loaded_fits image loaded =
    let file = loaded.file in
    let header = loaded.is_image.good_header in
    omega (arith, image.bytes.ok.0, ap length loaded.is_image.bytes, length-relocated_image file (relocation_count file) header, header.pages.2, header.small_enough)

no_zeros : (start : ℕ) → take {A = ℕ} start [] ++ replicate {A = ℕ} (start - 0) 0 ≡ replicate start 0
no_zeros start =
    let e : start - 0 ≡ start = omega arith in
    let none : take {A = ℕ} start [] ≡ [] = take_all start [] (omega arith) in
    rw (none, e) refl

-- a list that was filled up in three steps: zeros, the bytes, zeros
filled : (start size : ℕ) (bytes none first second third : List ℕ) (m n : ℕ) → none ≡ [] → start + length bytes ≤ size
    → m ≡ length none → n ≡ length second
    → first ≡ take start none ++ replicate (start - m) 0
    → second ≡ first ++ bytes
    → third ≡ take size second ++ replicate (size - n) 0
    → third ≡ replicate start 0 ++ (bytes ++ replicate (size - (start + length bytes)) 0)
filled start size bytes none first second third m n empty le em en f s t =
    let no : m ≡ 0 = em ∙ ap length empty in
    let zeros : first ≡ replicate start 0 =
    f ∙ ap (λ (l : List ℕ). take start l ++ replicate (start - m) 0) empty
    ∙ ap (λ k. take {A = ℕ} start [] ++ replicate {A = ℕ} (start - k) 0) no
    ∙ no_zeros start in
    let front : second ≡ replicate start 0 ++ bytes = s ∙ ap (λ (l : List ℕ). l ++ bytes) zeros in
    let count : n ≡ start + length bytes = en ∙ ap length front ∙ length-append (replicate start 0) bytes ∙ ap (λ k. k + length bytes) (length-replicate start 0) in
    let all : length second ≤ size = omega arith in
    t ∙ ap (λ (l : List ℕ). l ++ replicate (size - n) 0) (take_all size second all)
    ∙ ap (λ k. second ++ replicate (size - k) 0) count
    ∙ ap (λ (l : List ℕ). l ++ replicate (size - (start + length bytes)) 0) front
    ∙ append_assoc (replicate start 0) bytes (replicate (size - (start + length bytes)) 0)

pub memory_is : (bytes none first second third : List ℕ) (m n : ℕ) → none ≡ [] → image_address + length bytes ≤ 2 ^ 20
    → m ≡ length none → n ≡ length second
    → first ≡ take image_address none ++ replicate (image_address - m) 0
    → second ≡ first ++ bytes
    → third ≡ take (2 ^ 20) second ++ replicate (2 ^ 20 - n) 0
    → third ≡ loaded_memory bytes
unfolding loaded_memory
memory_is bytes none first second third m n empty le em en f s t =
    filled image_address 1048576 bytes none first second third m n empty (omega arith) em en f s t
