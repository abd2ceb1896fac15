-- What stands in pieces that have not been read, one piece after another.
use Rattle.std.proofs.Common.{◌≡◌, Bool, true, false, List, [], ◌∷◌, ◌++◌, drop, map, refl, sym, ap, ◌∙◌, append_assoc}
use Rattle.std.specs.Prelude.{◌||◌, Option, Some, None, is_some, option_map, if◌then◌else◌}
use Rattle.dcc_c.specs.Dos.{Signature}
use Rattle.dcc_reader.specs.Heads.{IsHead}
use Rattle.std.proofs.lemmas.List.{append-nil, map-append}
use Rattle.dcc_c.specs.Grammar.{is_among}
use Rattle.dcc_c.specs.Known.{Known, known, known_named, signature_of, known_of, known_functions, head_at, heads_in, label_at, labels_before_head}
use Rattle.dcc_c.specs.Partial as partial
use Rattle.dcc_c.specs.Pieces as pieces
use Rattle.dcc_c.specs.Reading.{first_token}
use Rattle.dcc_c.specs.Tree.{Word}
use Rattle.dcc_lex.specs.PiecesViews.{BeginWith}
use Rattle.dcc_reader.specs.declared.partial.PartialFunction.{PartialFunction}
use Rattle.dcc_reader.specs.PartialViews.{function_of, word_of}
use Rattle.dcc_reader.proofs.SetLaws.{among-append}

known_functions-append : (xs ys : List partial.PartialFunction) → known_functions (xs ++ ys) ≡ known_functions xs ++ known_functions ys
known_functions-append [] ys = refl
known_functions-append (x ∷ xs) ys = ap (λ ks. known_of x ++ ks) (known_functions-append xs ys) ∙ sym (append_assoc (known_of x) (known_functions xs) (known_functions ys))

-- a head more
pub head-pushed : (new old : List PartialFunction) (f : PartialFunction) (heads : List Known) → new ≡ old ++ f ∷ [] → known_of (function_of f) ≡ heads →
    known_functions (map function_of new) ≡ known_functions (map function_of old) ++ heads
head-pushed new old f heads new_is heads_are =
    ap (λ l. known_functions (map function_of l)) new_is
    ∙ ap known_functions (map-append function_of old (f ∷ []))
    ∙ known_functions-append (map function_of old) (function_of f ∷ [])
    ∙ ap (λ ks. known_functions (map function_of old) ++ ks) (append-nil (known_of (function_of f)) ∙ heads_are)

-- a first piece that was seen
pub first-seen : {A : Type 0} (f : A → pieces.Piece) (o : Option A) (left : List pieces.Piece) → BeginWith (option_map f o) left → is_some o ≡ true →
    (p : pieces.Piece) × (left ≡ p ∷ drop 1 left)
first-seen f (Some x) left begins some = (f x, begins)
first-seen f None left begins some = absurd cc

pub heads-next : (left : List pieces.Piece) (p : pieces.Piece) → left ≡ p ∷ drop 1 left → heads_in left ≡ head_at left ++ heads_in (drop 1 left)
heads-next left p is = ap heads_in is ∙ ap (λ l. head_at l ++ heads_in (drop 1 left)) (sym is)

labels-plain : (p : pieces.Piece) (ps : List pieces.Piece) → head_at (p ∷ ps) ≡ [] → labels_before_head (p ∷ ps) ≡ label_at p.token (first_token ps) ++ labels_before_head ps
labels-plain p ps none = ap (λ (hs : List Known). elim hs [ k ∷ ks ↦ [] | [] ↦ label_at p.token (first_token ps) ++ labels_before_head ps ]) none

labels-end : (p : pieces.Piece) (ps : List pieces.Piece) (k : Known) → head_at (p ∷ ps) ≡ k ∷ [] → labels_before_head (p ∷ ps) ≡ []
labels-end p ps k one = ap (λ (hs : List Known). elim hs [ k ∷ ks ↦ [] | [] ↦ label_at p.token (first_token ps) ++ labels_before_head ps ]) one

-- a piece with which no head begins
labels-next : (left : List pieces.Piece) (p : pieces.Piece) → left ≡ p ∷ drop 1 left → head_at left ≡ [] →
    labels_before_head left ≡ label_at (first_token left) (first_token (drop 1 left)) ++ labels_before_head (drop 1 left)
labels-next left p is none =
    ap labels_before_head is ∙ labels-plain p (drop 1 left) (sym (ap head_at is) ∙ none)
    ∙ ap (λ l. label_at (first_token l) (first_token (drop 1 left)) ++ labels_before_head (drop 1 left)) (sym is)

-- a piece with which a head begins
pub labels-over : (left : List pieces.Piece) (p : pieces.Piece) (k : Known) → left ≡ p ∷ drop 1 left → head_at left ≡ k ∷ [] → labels_before_head left ≡ []
labels-over left p k is one = ap labels_before_head is ∙ labels-end p (drop 1 left) k (sym (ap head_at is) ∙ one)

turn : (a x o : Bool) → x || (a || o) ≡ (a || x) || o
turn true true o = refl
turn true false o = refl
turn false true o = refl
turn false false o = refl

-- the labels so far, with one more
pub label-step : (left : List pieces.Piece) (p : pieces.Piece) (word : Word) (old new : Bool) → left ≡ p ∷ drop 1 left → head_at left ≡ [] →
    new ≡ is_among (label_at (first_token left) (first_token (drop 1 left))) word || old →
    is_among (labels_before_head (drop 1 left)) word || new ≡ is_among (labels_before_head left) word || old
label-step left p word old new is none new_is =
    let here = label_at (first_token left) (first_token (drop 1 left)) in
    let others = labels_before_head (drop 1 left) in
    ap (λ b. is_among others word || b) new_is
    ∙ turn (is_among here word) (is_among others word) old
    ∙ ap (λ b. b || old) (sym (among-append here others word) ∙ ap (λ l. is_among l word) (sym (labels-next left p is none)))

pub head-some : (o : Option PartialFunction) (heads : List Known) → IsHead o heads → is_some o ≡ true → (k : Known) × (heads ≡ k ∷ [])
head-some (Some f) heads is has = (is.0, is.1)
head-some None heads is has = absurd cc

pub head-none : (o : Option PartialFunction) (heads : List Known) → IsHead o heads → is_some o ≡ false → heads ≡ []
head-none (Some f) heads is none = absurd cc
head-none None heads is none = is

named : (name : Option partial.WordAt) (signature : Option Signature) → is_some name ≡ true → (k : Known) × (known_named name signature ≡ k ∷ [])
named (Some n) signature has = (known n.word signature, refl)
named None signature has = absurd cc

mapped : {A B : Type 0} (f : A → B) (o : Option A) → is_some (option_map f o) ≡ is_some o
mapped f (Some x) = refl
mapped f None = refl

-- a head that was read
pub head-read : (f : PartialFunction) (g : partial.PartialFunction) (begins : Bool) → begins ≡ true → function_of f ≡ g → is_some f.opened ≡ true → is_some f.name ≡ true →
    IsHead (Some f) (if begins then known_of g else [])
head-read f g begins does same opened has =
    let n = named (option_map word_of f.name) (signature_of (function_of f)) (mapped word_of f.name ∙ has) in
    let own : known_of (function_of f) ≡ n.0 ∷ [] =
    ap (λ b. if b then known_named (option_map word_of f.name) (signature_of (function_of f)) else []) opened ∙ n.1 in
    let all : known_of (function_of f) ≡ (if begins then known_of g else []) = ap known_of same ∙ ap (λ b. if b then known_of g else []) (sym does) in
    (n.0, sym all ∙ own, all)
