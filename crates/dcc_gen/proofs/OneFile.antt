-- A seed and a size have one program, and so one file.
use Rattle.std.proofs.Common.{◌≡◌, ℕ, List, [], ◌∷◌, ◌++◌, length, get_or, map, refl, sym, ap, ◌∙◌, subst, arith}
use Rattle.std.specs.List.{flat_map}
use Rattle.dcc_gen.specs.declared.piece.Piece.{Piece}
use Rattle.dcc_gen.specs.declared.piece.Piece.TheVariants.{SetAx, AddBx, Exchange, SubtractAx, Negate, Store, AddWord}
use Rattle.dcc_gen.specs.declared.piece.Piece.TheVariants.{CountUnlessLess, CopyByStack, AddCounts, PrintAl, Call}
use Rattle.dcc_gen.specs.Draws.{Draw, next_state, number_at, AreDrawn}
use Rattle.dcc_gen.specs.Pieces.{draws_of}
use Rattle.dcc_gen.specs.Program.{Program, IsDrawnFrom}
use Rattle.dcc_gen.specs.File.{file_of}
use Rattle.dcc_gen.specs.Laws.{HaveOneFile}

-- draws lead to one state
one-end : (draws : List Draw) (before after other : ℕ) → AreDrawn draws before after → AreDrawn draws before other → after ≡ other
one-end [] before after other are will = are ∙ sym will
one-end ((choices, number) ∷ draws) before after other are will = one-end draws (next_state before) after other are.1 will.1

-- between draws and later draws stands a state
drawn-split : (draws later : List Draw) (before after : ℕ) → AreDrawn (draws ++ later) before after →
    (between : ℕ) × (AreDrawn draws before between × AreDrawn later between after)
drawn-split [] later before after are = (before, (refl, are))
drawn-split ((choices, number) ∷ draws) later before after are =
    let rest = drawn-split draws later (next_state before) after are.1 in
    (rest.0, ((are.0, rest.1.0), rest.1.1))

-- the pieces of the twelve kinds, with a number that is drawn among so many
kinds_with : (ℕ → ℕ) → List Piece
kinds_with number =
    SetAx (number 65536) ∷ AddBx ∷ Exchange ∷ SubtractAx ∷ Negate ∷ Store (number 64) ∷ AddWord (number 64)
    ∷ CountUnlessLess ∷ CopyByStack ∷ AddCounts (number 16) ∷ PrintAl ∷ Call (number 8) ∷ []

-- the piece that is drawn from a state
piece_from : ℕ → ℕ → Piece
piece_from kinds before =
    get_or (kinds_with (number_at (next_state (next_state before)))) (number_at (next_state before) kinds) AddBx

-- the piece of a kind is found by the number of the kind
by-kind : (kinds before kind : ℕ) → kind ≡ number_at (next_state before) kinds →
    get_or (kinds_with (number_at (next_state (next_state before)))) kind AddBx ≡ piece_from kinds before
unfolding piece_from
by-kind kinds before kind is = ap (λ k. get_or (kinds_with (number_at (next_state (next_state before)))) k AddBx) is

one-piece : (kinds before after : ℕ) (piece : Piece) → AreDrawn (draws_of kinds piece) before after → piece ≡ piece_from kinds before
unfolding kinds_with
one-piece kinds before after (SetAx word) are = ap SetAx are.1.0 ∙ by-kind kinds before 0 are.0
one-piece kinds before after AddBx are = by-kind kinds before 1 are.0
one-piece kinds before after Exchange are = by-kind kinds before 2 are.0
one-piece kinds before after SubtractAx are = by-kind kinds before 3 are.0
one-piece kinds before after Negate are = by-kind kinds before 4 are.0
one-piece kinds before after (Store place) are = ap Store are.1.0 ∙ by-kind kinds before 5 are.0
one-piece kinds before after (AddWord place) are = ap AddWord are.1.0 ∙ by-kind kinds before 6 are.0
one-piece kinds before after CountUnlessLess are = by-kind kinds before 7 are.0
one-piece kinds before after CopyByStack are = by-kind kinds before 8 are.0
one-piece kinds before after (AddCounts more) are = ap AddCounts are.1.0 ∙ by-kind kinds before 9 are.0
one-piece kinds before after PrintAl are = by-kind kinds before 10 are.0
one-piece kinds before after (Call procedure) are = ap Call are.1.0 ∙ by-kind kinds before 11 are.0

-- so many elements are drawn from a state in one way, where one element is; and they lead to one state
one-list : {X : Type 0} (draws : X → List Draw) →
    ((before after other : ℕ) (x y : X) → AreDrawn (draws x) before after → AreDrawn (draws y) before other → x ≡ y) →
    (xs ys : List X) (before after other : ℕ) → length xs ≡ length ys →
    AreDrawn (flat_map draws xs) before after → AreDrawn (flat_map draws ys) before other → xs ≡ ys
one-list draws one [] [] before after other many are will = refl
one-list draws one [] (y ∷ ys) before after other many are will = absurd (omega arith)
one-list draws one (x ∷ xs) [] before after other many are will = absurd (omega arith)
one-list {X} draws one (x ∷ xs) (y ∷ ys) before after other many are will =
    let mine = drawn-split (draws x) (flat_map draws xs) before after are in
    let yours = drawn-split (draws y) (flat_map draws ys) before other will in
    let same : x ≡ y = one before mine.0 yours.0 x y mine.1.0 yours.1.0 in
    let at : mine.0 ≡ yours.0 = one-end (draws x) before mine.0 yours.0 mine.1.0
    (subst (λ z. AreDrawn (draws z) before yours.0) (sym same) yours.1.0) in
    let rest : xs ≡ ys = one-list draws one xs ys mine.0 after other (omega arith) mine.1.1
    (subst (λ state. AreDrawn (flat_map draws ys) state other) (sym at) yours.1.1) in
    ap (λ z. z ∷ xs) same ∙ ap (λ zs. y ∷ zs) rest

-- pieces that are drawn from a state are these
one-pieces : (kinds : ℕ) (pieces others : List Piece) (before after other : ℕ) → length pieces ≡ length others →
    AreDrawn (flat_map (draws_of kinds) pieces) before after → AreDrawn (flat_map (draws_of kinds) others) before other →
    pieces ≡ others
one-pieces kinds = one-list (draws_of kinds) (λ before after other piece another are will.
    one-piece kinds before after piece are ∙ sym (one-piece kinds before other another will))

-- numbers that are drawn from a state are these
one-numbers : (draw : ℕ → Draw) → ((n : ℕ) → (draw n).1 ≡ n) → ((n m : ℕ) → (draw n).0 ≡ (draw m).0) →
    (numbers others : List ℕ) (before after other : ℕ) → length numbers ≡ length others →
    AreDrawn (map draw numbers) before after → AreDrawn (map draw others) before other → numbers ≡ others
one-numbers draw is of [] [] before after other many are will = refl
one-numbers draw is of [] (m ∷ others) before after other many are will = absurd (omega arith)
one-numbers draw is of (n ∷ numbers) [] before after other many are will = absurd (omega arith)
one-numbers draw is of (n ∷ numbers) (m ∷ others) before after other many are will =
    let same : n ≡ m = sym (is n) ∙ are.0 ∙ ap (number_at (next_state before)) (of n m) ∙ sym will.0 ∙ is m in
    let rest : numbers ≡ others = one-numbers draw is of numbers others (next_state before) after other (omega arith) are.1 will.1 in
    ap (λ k. k ∷ numbers) same ∙ ap (λ ks. m ∷ ks) rest

-- a seed and a size have one program
one-program : (seed size : ℕ) (program other : Program) → IsDrawnFrom seed size program → IsDrawnFrom seed size other → program ≡ other
one-program seed size program other is will =
    let words = map (λ word. (65536, word)) program.words in
    let words' = map (λ word. (65536, word)) other.words in
    let mine = drawn-split (flat_map (draws_of 12) program.start) (flat_map (draws_of 11) program.bodies ++ words) seed is.last_state is.drawn in
    let yours = drawn-split (flat_map (draws_of 12) other.start) (flat_map (draws_of 11) other.bodies ++ words') seed will.last_state will.drawn in
    let start : program.start ≡ other.start =
    one-pieces 12 program.start other.start seed mine.0 yours.0 (is.start ∙ sym will.start) mine.1.0 yours.1.0 in
    let at : mine.0 ≡ yours.0 = one-end (flat_map (draws_of 12) program.start) seed mine.0 yours.0 mine.1.0
    (subst (λ pieces. AreDrawn (flat_map (draws_of 12) pieces) seed yours.0) (sym start) yours.1.0) in
    let mine' = drawn-split (flat_map (draws_of 11) program.bodies) words mine.0 is.last_state mine.1.1 in
    let yours' = drawn-split (flat_map (draws_of 11) other.bodies) words' mine.0 will.last_state
    (subst (λ state. AreDrawn (flat_map (draws_of 11) other.bodies ++ words') state will.last_state) (sym at) yours.1.1) in
    let bodies : program.bodies ≡ other.bodies =
    one-pieces 11 program.bodies other.bodies mine.0 mine'.0 yours'.0 (is.bodies ∙ sym will.bodies) mine'.1.0 yours'.1.0 in
    let at' : mine'.0 ≡ yours'.0 = one-end (flat_map (draws_of 11) program.bodies) mine.0 mine'.0 yours'.0 mine'.1.0
    (subst (λ pieces. AreDrawn (flat_map (draws_of 11) pieces) mine.0 yours'.0) (sym bodies) yours'.1.0) in
    let all_words : program.words ≡ other.words =
    one-numbers (λ word. (65536, word)) (λ n. refl) (λ n m. refl) program.words other.words mine'.0 is.last_state will.last_state
    (is.words ∙ sym will.words) mine'.1.1
    (subst (λ state. AreDrawn words' state will.last_state) (sym at') yours'.1.1) in
    let with_start : List Piece → Program = λ pieces. record { start = pieces; bodies = program.bodies; words = program.words } in
    let with_bodies : List Piece → Program = λ pieces. record { start = other.start; bodies = pieces; words = program.words } in
    let with_words : List ℕ → Program = λ numbers. record { start = other.start; bodies = other.bodies; words = numbers } in
    ap with_start start ∙ ap with_bodies bodies ∙ ap with_words all_words

pub one-file : HaveOneFile
one-file seed size file other is will =
    is.bytes ∙ ap file_of (one-program seed size is.program will.program is.drawn will.drawn) ∙ sym will.bytes
