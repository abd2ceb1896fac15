-- Counting the calls that are to fail.
use Rattle.std.proofs.Common.{◌≡◌, ℕ, ◌+◌, ◌-◌, List, ◌++◌, length, take, drop, refl, sym, ◌∙◌, ap, add-one, if◌then◌else◌, take-append-drop}
use Rattle.std.proofs.lemmas.List.{take_at, drop-drop}
use Rattle.dcc_io.proofs.ListLemmas.{drop_range}
use Rattle.dcc_io.specs.Memory.{is_listed, listed_calls}

-- one call more
pub listed_calls_next : (fail : List ℕ) (n : ℕ) → listed_calls fail (n + 1) ≡ listed_calls fail n + (if is_listed fail (n + 1) then 1 else 0)
unfolding listed_calls
listed_calls_next fail n = rw add-one refl

-- what was left before a read that copied its bytes into the front of a buffer: those bytes, and the rest
pub left_read : (bytes slice : List ℕ) (at count : ℕ) (left copied after : List ℕ) → left ≡ drop at bytes → slice ≡ bytes
    → copied ≡ take count (take (length slice - at) (drop at slice)) → length copied ≡ count → left ≡ take count (copied ++ after) ++ drop (at + count) bytes
left_read bytes slice at count left copied after is same front fits =
    let whole : take (length slice - at) (drop at slice) ≡ left = drop_range slice at ∙ ap (drop at) same ∙ sym is in
    let given : take count (copied ++ after) ≡ take count left = take_at copied after count fits ∙ front ∙ ap (take count) whole in
    let rest : drop (at + count) bytes ≡ drop count left = sym (drop-drop count at bytes) ∙ ap (drop count) (sym is) in
    sym (take-append-drop count left) ∙ sym (ap (λ (xs : List ℕ). xs ++ drop (at + count) bytes) given ∙ ap (λ (xs : List ℕ). take count left ++ xs) rest)
