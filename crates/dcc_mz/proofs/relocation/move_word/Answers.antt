use Rattle.std.proofs.Common.{◌≡◌, ◌≤◌, ◌<◌, ◌+◌, ◌-◌, ◌/◌, ◌%◌, ℕ, List, [], ◌∷◌, ◌++◌, take, drop, length, refl, sym, arith, append-nil}
use Rattle.std.proofs.lemmas.List.{take_all, drop_all, drop-drop, length-drop}
use Rattle.std.proofs.Math.Nat.{mod-eq_of_lt}
use Rattle.dcc_machine.specs.Bytes.{with_word_at}
use Rattle.dcc_machine.proofs.MzImageLaws.{with_word_at-split}
use Rattle.dcc_mz.proofs.relocation.move_word.Goals as goal

-- what `write_u16` leaves of the end of an image, from an offset on
written : (xs : List ℕ) (at w : ℕ) → at + 2 ≤ length xs → w < 65536
    → take at xs ++ ((w % 256 ∷ (w / 256 % 256 ∷ drop 2 (take (length xs - at) (drop at xs)))) ++ drop (length xs - at) (drop at xs))
    ≡ with_word_at xs at w
written xs at w inside word =
    let all : take (length xs - at) (drop at xs) ≡ drop at xs = take_all (length xs - at) (drop at xs) (omega (arith, length-drop at xs)) in
    let none : drop (length xs - at) (drop at xs) ≡ [] = drop_all (length xs - at) (drop at xs) (omega (arith, length-drop at xs)) in
    let high : w / 256 % 256 ≡ w / 256 = mod-eq_of_lt (omega arith) in
    rw (all, none, high, drop-drop 2 at xs, append-nil (drop (at + 2) xs)) (sym (with_word_at-split xs at w inside))

pub returns : goal.returns
returns c =
    let split = written c.args.image.now c.args.at c.loaded_segment-moved.result c.requires c.loaded_segment-moved.type_inv in
    rw (c.write_u16.ensures, split, c.loaded_segment-moved.ensures, c.word.ensures) refl
