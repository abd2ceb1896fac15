-- Lengths of files.
use Rattle.std.proofs.Common.{◌≡◌, ℕ, ◌+◌, ◌-◌, ◌*◌, List, [], ◌∷◌, ◌++◌, length, replicate, refl, arith, length-append}
use Rattle.std.specs.List.{flat_map}
use Rattle.std.proofs.lemmas.List.{length-replicate}
use Rattle.dcc_gen.specs.File.{paragraphs_of, image_of}
use Rattle.dcc_gen.specs.Pieces.{word_bytes}

length-words : (words : List ℕ) → length (flat_map word_bytes words) ≡ 2 * length words
length-words [] = refl
length-words (word ∷ words) = omega (arith, length-words words)

-- an image has whole paragraphs of code, and 128 bytes of data
pub length-image : (code words : List ℕ) → length words ≡ 64 → length (image_of code words) ≡ 16 * paragraphs_of code + 128
length-image code words many =
    let count = 16 * paragraphs_of code - (5 + length code) in
    let zeros : List ℕ = replicate count 0 in
    let last = flat_map word_bytes words in
    omega (arith, length-append code (zeros ++ last), length-append zeros last, length-replicate {A = ℕ} count 0, length-words words)
