-- The pieces of a program: what is drawn for each, and its bytes.
use Rattle.std.specs.Prelude.{ℕ, ◌+◌, ◌*◌, ◌<◌, List, [], ◌∷◌, ◌++◌}
use Rattle.dcc_num.specs.declared.Half.TheVariants.{Low, High}
use Rattle.dcc_num.specs.Halves.{half_of_word}
use Rattle.dcc_gen.specs.declared.piece.Piece.{Piece}
use Rattle.dcc_gen.specs.declared.piece.Piece.TheVariants.{SetAx, AddBx, Exchange, SubtractAx, Negate, Store, AddWord}
use Rattle.dcc_gen.specs.declared.piece.Piece.TheVariants.{CountUnlessLess, CopyByStack, AddCounts, PrintAl, Call}
use Rattle.dcc_gen.specs.Draws.{Draw}

-- what is drawn for a piece: its kind, of so many kinds, and then its number, where it has one
abbrev pub draws_of : ℕ → Piece → List Draw
draws_of kinds (SetAx word) = (kinds, 0) ∷ (65536, word) ∷ []
draws_of kinds AddBx = (kinds, 1) ∷ []
draws_of kinds Exchange = (kinds, 2) ∷ []
draws_of kinds SubtractAx = (kinds, 3) ∷ []
draws_of kinds Negate = (kinds, 4) ∷ []
draws_of kinds (Store place) = (kinds, 5) ∷ (64, place) ∷ []
draws_of kinds (AddWord place) = (kinds, 6) ∷ (64, place) ∷ []
draws_of kinds CountUnlessLess = (kinds, 7) ∷ []
draws_of kinds CopyByStack = (kinds, 8) ∷ []
draws_of kinds (AddCounts more) = (kinds, 9) ∷ (16, more) ∷ []
draws_of kinds PrintAl = (kinds, 10) ∷ []
draws_of kinds (Call procedure) = (kinds, 11) ∷ (8, procedure) ∷ []

-- a piece's number is one of its choices
abbrev pub IsInRange : Piece → Type 0
IsInRange (Store place) = place < 64
IsInRange (AddWord place) = place < 64
IsInRange (AddCounts more) = more < 16
IsInRange (Call procedure) = procedure < 8
IsInRange _ = Unit {0}

-- the two bytes of a word, the low one first
abbrev pub word_bytes : ℕ → List ℕ
word_bytes word = half_of_word Low word ∷ half_of_word High word ∷ []

-- the bytes of a piece, behind whose end so many bytes stand before the entry of each procedure
abbrev pub piece_code : (ℕ → ℕ) → Piece → List ℕ
-- mov ax, word
piece_code ahead (SetAx word) = 0xB8 ∷ word_bytes word
-- add ax, bx
piece_code ahead AddBx = 0x01 ∷ 0xD8 ∷ []
-- xchg ax, bx
piece_code ahead Exchange = 0x93 ∷ []
-- sub bx, ax
piece_code ahead SubtractAx = 0x29 ∷ 0xC3 ∷ []
-- neg ax
piece_code ahead Negate = 0xF7 ∷ 0xD8 ∷ []
-- mov [2 * place], ax
piece_code ahead (Store place) = 0xA3 ∷ word_bytes (2 * place)
-- add ax, [2 * place]
piece_code ahead (AddWord place) = 0x03 ∷ 0x06 ∷ word_bytes (2 * place)
-- cmp ax, bx; jl past the next; inc bx
piece_code ahead CountUnlessLess = 0x3B ∷ 0xC3 ∷ 0x7C ∷ 0x01 ∷ 0x43 ∷ []
-- push ax; pop bx
piece_code ahead CopyByStack = 0x50 ∷ 0x5B ∷ []
-- mov cx, 1 + more; add ax, cx; loop to the second
piece_code ahead (AddCounts more) = 0xB9 ∷ (word_bytes (1 + more) ++ (0x03 ∷ 0xC1 ∷ 0xE2 ∷ 0xFC ∷ []))
-- mov dl, al; mov ah, 2; int 21h
piece_code ahead PrintAl = 0x88 ∷ 0xC2 ∷ 0xB4 ∷ 0x02 ∷ 0xCD ∷ 0x21 ∷ []
-- push ax; call of the procedure, told by the number of bytes from the next instruction to its entry; pop cx
piece_code ahead (Call procedure) = 0x50 ∷ 0xE8 ∷ (word_bytes (1 + ahead procedure) ++ (0x59 ∷ []))
