-- Too many cells.
use Rattle.std.proofs.Common.{◌≡◌, ◌<◌, ◌≤◌, ◌+◌, ℕ, Option, List, [], ◌∷◌, ◌++◌, take, length, get_or, sym, ap, ◌∙◌, subst, append-nil, arith}
use Rattle.std.specs.List.{flat_map}
use Rattle.std.specs.Option.{option_to_list}
use Rattle.std.proofs.lemmas.List.{take_more}
use Rattle.std.proofs.lemmas.List.Concat.{flat_map-append}
use Rattle.dcc_prog.specs.declared.frame.Cell.{Cell}
use Rattle.dcc_prog.specs.declared.refusal.LimitName.TheVariants.{Procedures, Instructions, Total, Cells, Entries, Arguments}
use Rattle.dcc_prog.specs.declared.refusal.Refusal.{Refusal}
use Rattle.dcc_prog.specs.declared.refusal.Refusal.TheVariants.{Construct, Limit, Memory}
use Rattle.dcc_frames.specs.declared.bytes.Piece.{Piece}
use Rattle.dcc_frames.specs.CellLists.{small_cell, cells_from, IsOverfull}
use Rattle.dcc_frames.proofs.Flat.{flat-shorter}

-- where a list of cells is too many, a longer one is
overfull-longer : (few more : List Cell) (refusal : Refusal) → length few ≤ length more → IsOverfull few refusal
    → IsOverfull more refusal
overfull-longer few more (Limit Cells count) le h = (h.0, let longer = h.1 in omega (arith, le, longer))
overfull-longer few more (Limit Procedures count) le h = absurd h
overfull-longer few more (Limit Instructions count) le h = absurd h
overfull-longer few more (Limit Total count) le h = absurd h
overfull-longer few more (Limit Entries count) le h = absurd h
overfull-longer few more (Limit Arguments count) le h = absurd h
overfull-longer few more Memory le h = tt
overfull-longer few more (Construct kind at) le h = absurd h

overfull-all :
    (extents : List Piece) (i : ℕ) (d : Piece) (refusal : Refusal) → i < length extents
    → IsOverfull (cells_from (take i extents) ++ option_to_list (small_cell (get_or extents i d))) refusal
    → IsOverfull (cells_from extents) refusal
overfull-all extents i d refusal inside h =
    let f : Piece → List Cell = λ extent. option_to_list (small_cell extent) in
    let one : flat_map f (get_or extents i d ∷ []) ≡ f (get_or extents i d) = append-nil (f (get_or extents i d)) in
    let is : cells_from (take (i + 1) extents) ≡ cells_from (take i extents) ++ f (get_or extents i d) =
    ap (flat_map f) (take_more extents i d inside)
    ∙ flat_map-append f (take i extents) (get_or extents i d ∷ [])
    ∙ ap (λ l. flat_map f (take i extents) ++ l) one in
    overfull-longer (cells_from (take (i + 1) extents)) (cells_from extents) refusal (flat-shorter f (i + 1) extents)
    (subst (λ l. IsOverfull l refusal) (sym is) h)

pub overfull-read :
    (extents : List Piece) (i : ℕ) (d : Piece) (cells : List Cell) (cell : Option Cell) (refusal : Refusal)
    → i < length extents
    → cells ≡ cells_from (take i extents) → cell ≡ small_cell (get_or extents i d)
    → IsOverfull (cells ++ option_to_list cell) refusal → IsOverfull (cells_from extents) refusal
overfull-read extents i d cells cell refusal inside first second h =
    overfull-all extents i d refusal inside
    (subst (λ l. IsOverfull (l ++ option_to_list (small_cell (get_or extents i d))) refusal) first
    (subst (λ o. IsOverfull (cells ++ option_to_list o) refusal) second h))
