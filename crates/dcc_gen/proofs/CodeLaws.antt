-- Lengths of code, code that goes on by one piece, and on what calls depend.
use Rattle.std.proofs.Common.{◌≡◌, ℕ, zero, suc, ◌+◌, ◌*◌, ◌<◌, ◌≤◌, List, [], ◌∷◌, ◌++◌, length, get_or, drop}
use Rattle.std.proofs.Common.{slice_index_or, All, lit<, refl, sym, ap, ◌∙◌, arith, append_assoc, add-one, length-append, ◌-◌}
use Rattle.std.proofs.Common.{length-take}
use Rattle.std.specs.List.{sum_by, AllByRecursion}
use Rattle.std.proofs.lemmas.List.{append-nil, at_drop_more, at_drop_all}
use Rattle.std.proofs.lemmas.List.Elements.{All-head, All-tail, All-append, All-from_recursion}
use Rattle.std.proofs.lemmas.List.Sums.{sum_by-cons, sum_by-le}
use Rattle.dcc_gen.specs.declared.piece.Piece.{Piece}
use Rattle.dcc_gen.specs.declared.piece.Piece.TheVariants.{Call}
use Rattle.dcc_gen.specs.Code.{piece_length, pieces_code, procedure_code, procedures_code, body_of, return_code, exit_code, calls_of_all}
use Rattle.dcc_gen.specs.Pieces.{IsInRange, piece_code, word_bytes}

-- a piece has the same number of bytes wherever the procedures stand
length-piece : (ahead : ℕ → ℕ) (piece : Piece) → length (piece_code ahead piece) ≡ piece_length piece
length-piece ahead (Call procedure) = refl
length-piece ahead _ = refl

pub length-pieces : (ahead : ℕ → ℕ) (pieces : List Piece) → length (pieces_code ahead pieces) ≡ sum_by piece_length pieces
unfolding pieces_code
length-pieces ahead [] = refl
length-pieces ahead (piece ∷ pieces) =
    let rest = pieces_code ahead pieces in
    let behind : ℕ → ℕ = λ procedure. length rest + ahead procedure in
    length-append (piece_code behind piece) rest
    ∙ ap (λ n. n + length rest) (length-piece behind piece)
    ∙ ap (λ n. piece_length piece + n) (length-pieces ahead pieces)
    ∙ sym (sum_by-cons piece_length piece pieces)

-- no piece has more than seven bytes
few-piece : (piece : Piece) → piece_length piece ≤ 7
few-piece (Call procedure) = omega arith
few-piece _ = omega arith

pub few-pieces : (ahead : ℕ → ℕ) (pieces : List Piece) → length (pieces_code ahead pieces) ≤ length pieces * 7
few-pieces ahead pieces =
    let few = sum_by-le piece_length 7 pieces (λ k d within. few-piece (slice_index_or pieces k d)) in
    omega (arith, few, length-pieces ahead pieces)

-- a piece depends on the places of the eight procedures alone
piece-alike : (ahead other : ℕ → ℕ) (piece : Piece) → IsInRange piece → ((j : ℕ) → j < 8 → ahead j ≡ other j) →
    piece_code ahead piece ≡ piece_code other piece
piece-alike ahead other (Call procedure) is same =
    ap (λ n. 0x50 ∷ 0xE8 ∷ (word_bytes (1 + n) ++ (0x59 ∷ []))) (same procedure is)
piece-alike ahead other _ is same = refl

-- pieces depend on the places of the eight procedures alone
pub pieces-alike : (ahead other : ℕ → ℕ) (pieces : List Piece) → All IsInRange pieces →
    ((j : ℕ) → j < 8 → ahead j ≡ other j) → pieces_code ahead pieces ≡ pieces_code other pieces
unfolding pieces_code
pieces-alike ahead other [] are same = refl
pieces-alike ahead other (piece ∷ pieces) are same =
    let rest = pieces_code other pieces in
    ap (λ code. piece_code (λ j. length code + ahead j) piece ++ code)
    (pieces-alike ahead other pieces (All-tail IsInRange piece pieces are) same)
    ∙ ap (λ code. code ++ rest)
    (piece-alike (λ j. length rest + ahead j) (λ j. length rest + other j) piece (All-head IsInRange piece pieces are)
    (λ j within. ap (λ n. length rest + n) (same j within)))

-- where a piece is written, what is written and what is left make up as much as before
pub pieces-step : (ahead : ℕ → ℕ) (pieces : List Piece) (i : ℕ) (d : Piece) (left : ℕ) (code next all : List ℕ) →
    i < length pieces → left ≡ sum_by piece_length (drop (i + 1) pieces) →
    next ≡ code ++ piece_code (λ procedure. left + ahead procedure) (get_or pieces i d) →
    code ++ pieces_code ahead (drop i pieces) ≡ all → next ++ pieces_code ahead (drop (i + 1) pieces) ≡ all
unfolding pieces_code
pieces-step ahead pieces i d left code next all within left_is next_is before =
    let piece = get_or pieces i d in
    let rest = pieces_code ahead (drop (i + 1) pieces) in
    ap (λ l. l ++ rest) next_is
    ∙ append_assoc code (piece_code (λ j. left + ahead j) piece) rest
    ∙ ap (λ n. code ++ (piece_code (λ j. n + ahead j) piece ++ rest)) (left_is ∙ sym (length-pieces ahead (drop (i + 1) pieces)))
    ∙ ap (λ l. code ++ l) (sym (at_drop_more (pieces_code ahead) pieces i d within))
    ∙ before

-- where no piece is left, all is written
pub pieces-end : (ahead : ℕ → ℕ) (pieces : List Piece) (i : ℕ) (code all : List ℕ) → length pieces ≤ i →
    code ++ pieces_code ahead (drop i pieces) ≡ all → code ≡ all
unfolding pieces_code
pieces-end ahead pieces i code all end before =
    sym (append-nil code) ∙ ap (λ l. code ++ l) (sym (at_drop_all (pieces_code ahead) pieces i end)) ∙ before

-- the calls of all procedures, and pieces in range
pub calls-in_range : (pieces : List Piece) → All IsInRange pieces → All IsInRange (calls_of_all ++ pieces)
calls-in_range pieces are =
    let calls : AllByRecursion IsInRange calls_of_all =
    (lit< tt, (lit< tt, (lit< tt, (lit< tt, (lit< tt, (lit< tt, (lit< tt, (lit< tt, tt)))))))) in
    All-append IsInRange calls_of_all pieces (All-from_recursion IsInRange calls_of_all calls) are

pub procedures-more : (bodies : List Piece) (count : ℕ) →
    procedures_code bodies (count + 1) ≡ procedures_code bodies count ++ procedure_code (body_of bodies count)
unfolding procedures_code
procedures-more bodies count = ap (procedures_code bodies) (add-one count)

length-body : (bodies : List Piece) (procedure : ℕ) → length (body_of bodies procedure) ≤ 16
length-body bodies procedure =
    let cut = length-take (16 * procedure + 16 - 16 * procedure) (drop (16 * procedure) bodies) in omega (arith, cut)

-- a procedure with at most sixteen pieces has at most 124 bytes
few-procedure : (body : List Piece) → length body ≤ 16 → length (procedure_code body) ≤ 124
few-procedure body few =
    let code = pieces_code (λ procedure. 0) body in
    omega (arith, length-append code return_code, few-pieces (λ procedure. 0) body)

pub few-procedures : (bodies : List Piece) (count : ℕ) → length (procedures_code bodies count) ≤ count * 124
unfolding procedures_code
few-procedures bodies zero = omega arith
few-procedures bodies (suc count) =
    let last = procedure_code (body_of bodies count) in
    let few = few-procedure (body_of bodies count) (length-body bodies count) in
    omega (arith, few, few-procedures bodies count, length-append (procedures_code bodies count) last)

-- the entry of a procedure is not far behind the pieces of start
pub near-entry : (bodies : List Piece) (procedure : ℕ) → procedure ≤ 8 → length (exit_code ++ procedures_code bodies procedure) ≤ 1000
near-entry bodies procedure within = omega (arith, few-procedures bodies procedure)
