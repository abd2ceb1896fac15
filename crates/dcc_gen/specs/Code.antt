-- The code of a program: start, and then the procedures that it calls, one after another.
use Rattle.std.specs.Prelude.{ℕ, zero, suc, ◌+◌, ◌*◌, List, [], ◌∷◌, ◌++◌, length, slice_range}
use Rattle.dcc_gen.specs.declared.piece.Piece.{Piece}
use Rattle.dcc_gen.specs.declared.piece.Piece.TheVariants.{Call}
use Rattle.dcc_gen.specs.Pieces.{word_bytes, piece_code}

-- the number of bytes of a piece, which is the same wherever the procedures stand
abbrev pub piece_length : Piece → ℕ
piece_length piece = length (piece_code (λ procedure. 0) piece)

-- the bytes of pieces, one after another, behind whose end so many bytes stand before the entry of each procedure
unfoldable pub pieces_code : (ℕ → ℕ) → List Piece → List ℕ
pieces_code ahead [] = []
pieces_code ahead (piece ∷ pieces) =
    let rest = pieces_code ahead pieces in piece_code (λ procedure. length rest + ahead procedure) piece ++ rest

-- the first instructions of a procedure: push bp; mov bp, sp; push bx; push cx; mov ax, [bp+4], its argument
abbrev pub entry_code : List ℕ
entry_code = 0x55 ∷ 0x8B ∷ 0xEC ∷ 0x53 ∷ 0x51 ∷ 0x8B ∷ 0x46 ∷ 0x04 ∷ []

-- the last instructions of a procedure: pop cx; pop bx; pop bp; ret
abbrev pub return_code : List ℕ
return_code = 0x59 ∷ 0x5B ∷ 0x5D ∷ 0xC3 ∷ []

-- the pieces of a procedure
abbrev pub body_of : List Piece → ℕ → List Piece
body_of bodies procedure = slice_range bodies (16 * procedure) (16 * procedure + 16)

-- a procedure with such a body, which calls none
abbrev pub procedure_code : List Piece → List ℕ
procedure_code body = entry_code ++ (pieces_code (λ procedure. 0) body ++ return_code)

-- as many procedures, one after another; so the entry of the next one stands behind them
unfoldable pub procedures_code : List Piece → ℕ → List ℕ
procedures_code bodies zero = []
procedures_code bodies (suc count) =
    procedures_code bodies count ++ procedure_code (body_of bodies count)

-- the first instructions of start, by which DS becomes the segment that begins so many paragraphs after the image's
-- start, once the loader has added the segment of the image to the number: mov ax, paragraphs; mov ds, ax
abbrev pub first_code : ℕ → List ℕ
first_code paragraphs = 0xB8 ∷ (word_bytes paragraphs ++ (0x8E ∷ 0xD8 ∷ []))

-- a call of each procedure in order, so that each is reached
abbrev pub calls_of_all : List Piece
calls_of_all = Call 0 ∷ Call 1 ∷ Call 2 ∷ Call 3 ∷ Call 4 ∷ Call 5 ∷ Call 6 ∷ Call 7 ∷ []

-- the last instructions of start, which end the program with the exit code 0: mov ax, 4C00h; int 21h
abbrev pub exit_code : List ℕ
exit_code = 0xB8 ∷ 0x00 ∷ 0x4C ∷ 0xCD ∷ 0x21 ∷ []

-- all code behind the first instructions of start, by its drawn pieces and those of the bodies: the calls of all
-- procedures, the drawn pieces, the exit, and the eight procedures
unfoldable pub code_of : List Piece → List Piece → List ℕ
code_of start bodies =
    pieces_code (λ procedure. length (exit_code ++ procedures_code bodies procedure)) (calls_of_all ++ start)
    ++ (exit_code ++ procedures_code bodies 8)
