-- The pieces of what is left of a text.
use Rattle.std.proofs.Common.{◌≡◌, ℕ, zero, suc, ◌≤◌, List, [], ◌∷◌, ◌++◌, length, map, take, drop, Option, Some, None, option_to_list, length-append, refl, sym, ap, subst, ◌∙◌, arith}
use Rattle.std.specs.Prelude.{is_some, true, false, option_map, not, ◌==◌}
use Rattle.std.specs.Option.{option_copied}
use Rattle.std.proofs.lemmas.List.{length-map}
use denote.Ref.{Bor}
use Rattle.std.proofs.lemmas.Bool.{cond_both}
use Rattle.dcc_c.specs.Token.{is_mark, is_word_byte}
use Rattle.dcc_c.specs.Lexing.{is_blank}
use Rattle.dcc_c.specs.Pieces as spec
use Rattle.dcc_lex.specs.declared.cut.Cut.{Cut}
use Rattle.dcc_lex.specs.declared.token.Piece.{Piece}
use Rattle.dcc_lex.specs.declared.left.Pieces.{Pieces}
use Rattle.dcc_lex.specs.TokenViews.{piece_of}
use Rattle.dcc_lex.specs.CutViews.{spot_of, cut_of, remaining, Continues}
use Rattle.dcc_lex.specs.PiecesViews.{pieces_of, BeginWith}
use Rattle.dcc_lex.proofs.Cuts.{remaining-none}

-- Cuts, one after another.

-- a cut without a piece, and one after it
pub continues_on : (spot next : spec.Spot) (line there : ℕ) (bytes rest : List ℕ) (c : spec.Cut) → Continues spot line bytes (spec.cut [] next there rest) →
    Continues next there rest c → Continues spot line bytes c
unfolding Continues
continues_on spot next line there bytes rest c first later = first ∙ later

-- a cut that has no piece
pub continues_past : (spot : spec.Spot) (line : ℕ) (bytes : List ℕ) (c : Cut) → is_some c.piece ≡ false → Continues spot line bytes (cut_of c) →
    Continues spot line bytes (spec.cut [] (spot_of c.spot) c.line c.rest.now)
continues_past spot line bytes c none goes =
    subst (λ ps. Continues spot line bytes (spec.cut ps (spot_of c.spot) c.line c.rest.now)) (without c.piece none) goes
  where
    without : (o : Option Piece) → is_some o ≡ false → map piece_of (option_to_list o) ≡ []
    without (Some p) none = absurd cc
    without None none = refl

-- What is left.

pub no_bytes : (bytes : List ℕ) → length bytes ≡ 0 → bytes ≡ []
no_bytes [] none = refl
no_bytes (b ∷ bytes) none = absurd (omega arith)

none_remain : (spot : spec.Spot) (line : ℕ) (bytes : List ℕ) → length bytes ≡ 0 → remaining spot line bytes ≡ []
none_remain spot line bytes none = ap (remaining spot line) (no_bytes bytes none) ∙ remaining-none spot line

-- the pieces of bytes are those of a cut and those after it
pub cut_pieces : (spot : spec.Spot) (line : ℕ) (bytes : List ℕ) (c : Cut) → Continues spot line bytes (cut_of c) →
    map piece_of (option_to_list c.piece) ++ remaining (spot_of c.spot) c.line c.rest.now ≡ remaining spot line bytes
unfolding Continues
cut_pieces spot line bytes c goes = sym goes

-- a piece, and those of the bytes after it, the first of which has been cut
pub pieces_cut : (p : Pieces) (spot : spec.Spot) (line : ℕ) (bytes : List ℕ) →
    Continues spot line bytes (spec.cut (map piece_of (option_to_list p.second)) (spot_of p.spot) p.line p.bytes.now) →
    pieces_of p ≡ map piece_of (option_to_list p.first) ++ remaining spot line bytes
unfolding pieces_of Continues
pieces_cut p spot line bytes goes = ap (λ (ps : List spec.Piece). map piece_of (option_to_list p.first) ++ ps) (sym goes)

-- the pieces after the first
abbrev later : Pieces → List spec.Piece
later p = map piece_of (option_to_list p.second) ++ remaining (spot_of p.spot) p.line p.bytes.now

-- where pieces stand does not tell which they are
pub pieces_as : (p q : Pieces) → p.first ≡ q.first → later p ≡ later q → pieces_of p ≡ pieces_of q
unfolding pieces_of
pieces_as p q first others =
    ap (λ o. map piece_of (option_to_list o) ++ later p) first ∙ ap (λ ps. map piece_of (option_to_list q.first) ++ ps) others

empty_option : {T : Type 0} (o : Option T) → length (option_to_list o) ≡ 0 → o ≡ None
empty_option None none = refl
empty_option (Some x) none = absurd (omega arith)

none_later : (p : Pieces) → p.first ≡ None → later p ≡ []
none_later p none =
    let one = empty_option p.second (p.pair none) in
    ap (λ o. map piece_of (option_to_list o) ++ remaining (spot_of p.spot) p.line p.bytes.now) one
    ∙ none_remain (spot_of p.spot) p.line p.bytes.now (p.all one)

begins : (o : Option Piece) (rest : List spec.Piece) → (o ≡ None → rest ≡ []) → BeginWith (option_map piece_of o) (map piece_of (option_to_list o) ++ rest)
begins (Some p) rest none = refl
begins None rest none = none refl

first_begins : (p : Pieces) → BeginWith (option_map piece_of p.first) (pieces_of p)
unfolding pieces_of
first_begins p = begins p.first (later p) (none_later p)

-- the first piece, lent
pub lent_begins : (p : Pieces) (o : Option (Bor Piece)) → option_copied o ≡ p.first → BeginWith (option_map (λ q. piece_of q.now) o) (pieces_of p)
lent_begins p o same = subst (λ f. BeginWith f (pieces_of p)) (sym (lent o ∙ ap (option_map piece_of) same)) (first_begins p)
  where
    lent : (o : Option (Bor Piece)) → option_map (λ q. piece_of q.now) o ≡ option_map piece_of (option_copied o)
    lent (Some q) = refl
    lent None = refl

after_first : (o : Option Piece) (rest : List spec.Piece) → (o ≡ None → rest ≡ []) → drop 1 (map piece_of (option_to_list o) ++ rest) ≡ rest
after_first (Some p) rest none = refl
after_first None rest none = ap (drop 1) (none refl) ∙ sym (none refl)

pub second_left : (p : Pieces) → drop 1 (pieces_of p) ≡ later p
unfolding pieces_of
second_left p = after_first p.first (later p) (none_later p)

pub second_begins : (p : Pieces) → BeginWith (option_map piece_of p.second) (drop 1 (pieces_of p))
second_begins p =
    subst (BeginWith (option_map piece_of p.second)) (sym (second_left p))
    (begins p.second (remaining (spot_of p.spot) p.line p.bytes.now) (λ none. none_remain (spot_of p.spot) p.line p.bytes.now (p.all none)))

pub one_taken : (p : Pieces) → is_some p.first ≡ true → length (take 1 (pieces_of p)) ≡ 1
unfolding pieces_of
one_taken p some = taken p.first _ some
  where
    taken : (o : Option Piece) (rest : List spec.Piece) → is_some o ≡ true → length (take 1 (map piece_of (option_to_list o) ++ rest)) ≡ 1
    taken (Some p) rest some = refl
    taken None rest some = absurd cc

pub none_left : (p : Pieces) → is_some p.first ≡ false → pieces_of p ≡ []
unfolding pieces_of
none_left p none = without p.first (later p) none (none_later p)
  where
    without : (o : Option Piece) (rest : List spec.Piece) → is_some o ≡ false → (o ≡ None → rest ≡ []) → map piece_of (option_to_list o) ++ rest ≡ []
    without (Some p) rest none after = absurd cc
    without None rest none after = after refl

-- How many pieces there are: a cut has one at most.

abbrev AtMostOne : spec.Cut → Type 0
AtMostOne c = length c.pieces ≤ 1

head_one : (spot : spec.Spot) (line : ℕ) (bytes : List ℕ) (found : Option spec.FoundHead) →
    AtMostOne (elim found [ Some f ↦ spec.cut_head spot line f | None ↦ spec.cut (spec.piece line None ∷ []) spec.in_line line bytes ])
head_one spot line bytes None = omega arith
head_one spot line bytes (Some f) = cond_both (spec.is_line_start spot) _ _ AtMostOne (λ is. omega arith) (λ differs. omega arith)

mark_one : (spot : spec.Spot) (line b : ℕ) (bytes : List ℕ) → AtMostOne (spec.cut_mark spot line b bytes)
mark_one spot line b bytes =
    cond_both (is_mark (spec.first_mark b bytes)) _ _ AtMostOne (λ is. omega arith) (λ differs. head_one spot line bytes (spec.head_of (b ∷ bytes)))

token_one : (spot : spec.Spot) (line b : ℕ) (bytes : List ℕ) → AtMostOne (spec.cut_token spot line b bytes)
token_one spot line b bytes = cond_both (is_word_byte b) _ _ AtMostOne (λ is. omega arith) (λ differs. mark_one spot line b bytes)

blank_one : (spot : spec.Spot) (line : ℕ) (bytes : List ℕ) → AtMostOne (spec.cut_blank spot line bytes)
blank_one spot line bytes =
    cond_both (not (spec.is_of_pragma spot)) _ _ AtMostOne (λ is. omega arith)
    (λ differs. cond_both (spec.is_line_end (spec.after_while is_blank bytes)) _ _ AtMostOne (λ is. omega arith) (λ is. omega arith))

cut_one : (spot : spec.Spot) (line b : ℕ) (bytes : List ℕ) → AtMostOne (spec.first_cut spot line b bytes)
cut_one spot line b bytes =
    cond_both (b == 10) _ _ AtMostOne (λ is. omega arith)
    (λ differs. cond_both (spec.has_number spot b bytes) _ _ AtMostOne (λ is. omega arith)
    (λ none. cond_both (is_blank b) _ _ AtMostOne (λ is. blank_one spot line bytes) (λ other. token_one spot line b bytes)))

few_from : (n : ℕ) (spot : spec.Spot) (line : ℕ) (bytes : List ℕ) → length (spec.pieces_from n spot line bytes) ≤ n
few_from zero spot line bytes = omega arith
few_from (suc n) spot line [] = omega arith
few_from (suc n) spot line (b ∷ bytes) =
    let first = spec.first_cut spot line b bytes in
    let one = cut_one spot line b bytes in
    let later = few_from n first.spot first.line first.rest in
    omega (arith, length-append first.pieces (spec.pieces_from n first.spot first.line first.rest))

pub few_remain : (spot : spec.Spot) (line : ℕ) (bytes : List ℕ) → length (remaining spot line bytes) ≤ length bytes
unfolding remaining
few_remain spot line bytes = few_from (length bytes) spot line bytes

-- no text has more pieces
pub few_pieces : (p : Pieces) → length (pieces_of p) ≤ 67108864
unfolding pieces_of
few_pieces p =
    let others = remaining (spot_of p.spot) p.line p.bytes.now in
    let few = p.few in
    omega (
      arith,
      few_remain (spot_of p.spot) p.line p.bytes.now,
      length-append (map piece_of (option_to_list p.first)) (map piece_of (option_to_list p.second) ++ others),
      length-append (map piece_of (option_to_list p.second)) others,
      length-map (option_to_list p.first) piece_of,
      length-map (option_to_list p.second) piece_of,
    )
