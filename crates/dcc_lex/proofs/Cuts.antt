-- Each cut leaves fewer bytes, and the pieces of bytes are those of a cut and those of what it leaves.
use Rattle.std.proofs.Common.{◌≡◌, ℕ, zero, suc, ◌+◌, ◌≤◌, ◌<◌, Bool, true, false, ◌==◌, cond, List, [], ◌∷◌, ◌++◌, length, drop, get_or, length-drop, Option, Some, None, refl, sym, ap, subst, ◌∙◌, arith, ⊎_elim}
use Rattle.std.specs.Prelude.{not, MatchOption}
use Rattle.std.specs.List.{take_while}
use Rattle.std.proofs.lemmas.List.Sums.{take_while-cons}
use Rattle.std.proofs.lemmas.Bool.{or_cases, cases_Bool, eqb-true, eq-eqb, ne_eqb, cond-true, cond-false, cond_both, not_from_true}
use Rattle.dcc_c.specs.Token.{Mark, Pragma, Head, version_line, stack_line, place_line, depth_line, is_mark, is_word_byte}
use Rattle.dcc_c.specs.Lexing.{is_blank}
use Rattle.dcc_c.specs.Pieces.{Piece, piece, stray, after_while, after, token_of_word, is_line_end, is_word_end, pragma_words, FoundHead, head_if, head_of, Spot, line_start, in_line, in_pragma, in_blanks, is_of_pragma, is_line_start, Cut, cut, allowed_at, first_mark, cut_head, cut_mark, cut_token, cut_blank, has_number, first_cut, pieces_from, pieces_of}
use Rattle.dcc_lex.specs.CutViews.{remaining, Continues, blank_run, mark_cut, token_cut, has_number as begins_number, number_cut}
use Rattle.dcc_lex.specs.MarkViews.{first_mark as mark_bytes}
use Rattle.std.specs.Prelude.{if◌then◌else◌}

-- Fewer bytes.

after_while-le : (kind : ℕ → Bool) (bytes : List ℕ) → length (after_while kind bytes) ≤ length bytes
after_while-le kind bytes = omega (arith, length-drop (length (take_while kind bytes)) bytes)

-- a run goes on with a byte of its kind
after_while-more : (kind : ℕ → Bool) (b : ℕ) (bytes : List ℕ) → kind b ≡ true → after_while kind (b ∷ bytes) ≡ after_while kind bytes
after_while-more kind b bytes is =
    ap (λ (run : List ℕ). drop (length run) (b ∷ bytes)) (take_while-cons kind b bytes ∙ ap (λ t. cond t (b ∷ take_while kind bytes) []) is)

after_while-none : (kind : ℕ → Bool) (b : ℕ) (bytes : List ℕ) → kind b ≡ false → after_while kind (b ∷ bytes) ≡ b ∷ bytes
after_while-none kind b bytes is =
    ap (λ (run : List ℕ). drop (length run) (b ∷ bytes)) (take_while-cons kind b bytes ∙ ap (λ t. cond t (b ∷ take_while kind bytes) []) is)

after-le : (words bytes rest : List ℕ) → after words bytes ≡ Some rest → length rest + length words ≤ length bytes
after-le [] bytes rest is = let same : bytes ≡ rest = cc in omega (arith, ap length same)
after-le (w ∷ words) [] rest is = absurd cc
after-le (w ∷ words) (b ∷ bytes) rest is =
    ⊎_elim (λ yes. let later : after words bytes ≡ Some rest = sym (cond-true (w == b) (after words bytes) None yes) ∙ is in
    let less = after-le words bytes rest later in omega arith)
    (λ differs. let none : None ≡ Some rest = sym (cond-false (w == b) (after words bytes) None differs) ∙ is in absurd cc)
    (cases_Bool (w == b))

-- what is found leaves at most so many bytes
abbrev Leaves : ℕ → Option FoundHead → Type 0
Leaves most None = Unit {0}
Leaves most (Some found) = length found.rest ≤ most

leaves_if : (most : ℕ) (head : Head) (rest : Option (List ℕ)) (otherwise : Option FoundHead) → ((r : List ℕ) → rest ≡ Some r → length r ≤ most) →
    Leaves most otherwise → Leaves most (head_if head rest otherwise)
leaves_if most head None otherwise first later = later
leaves_if most head (Some rest) otherwise first later =
    cond_both (is_word_end rest) (Some (record { head = head; rest = rest })) otherwise (Leaves most) (λ is. first rest refl) (λ differs. later)

leaves_head : (head : Head) (b : ℕ) (bytes : List ℕ) (otherwise : Option FoundHead) → 0 < length (pragma_words head) →
    Leaves (length bytes) otherwise → Leaves (length bytes) (head_if head (after (pragma_words head) (b ∷ bytes)) otherwise)
leaves_head head b bytes otherwise some later =
    leaves_if (length bytes) head (after (pragma_words head) (b ∷ bytes)) otherwise (λ r is. let less = after-le (pragma_words head) (b ∷ bytes) r is in omega arith) later

head_leaves : (b : ℕ) (bytes : List ℕ) → Leaves (length bytes) (head_of (b ∷ bytes))
head_leaves b bytes =
    leaves_head version_line b bytes _ (omega arith)
    (leaves_head stack_line b bytes _ (omega arith)
    (leaves_head place_line b bytes _ (omega arith) (leaves_head depth_line b bytes None (omega arith) tt)))

-- the cut leaves at most so many bytes, in this line
abbrev Shorter : ℕ → ℕ → Cut → Type 0
Shorter most line c = (length c.rest ≤ most) × (c.line ≡ line)

found_shorter : (spot : Spot) (line b : ℕ) (bytes : List ℕ) (found : Option FoundHead) → Leaves (length bytes) found →
    Shorter (length bytes) line (elim found [ Some f ↦ cut_head spot line f | None ↦ cut (piece line None ∷ []) in_line line bytes ])
found_shorter spot line b bytes None leaves = (omega arith, refl)
found_shorter spot line b bytes (Some f) leaves =
    cond_both (is_line_start spot) (cut (piece line (Some (Pragma f.head)) ∷ []) in_pragma line f.rest)
    (cut (piece line (Some stray) ∷ []) in_line line f.rest) (Shorter (length bytes) line) (λ is. (leaves, refl)) (λ differs. (leaves, refl))

mark_some : (b : ℕ) (bytes : List ℕ) → 0 < length (first_mark b bytes)
mark_some b [] = omega arith
mark_some b (c ∷ bytes) =
    cond_both (is_mark (b ∷ c ∷ [])) (b ∷ c ∷ []) (b ∷ []) (λ (mark : List ℕ). 0 < length mark) (λ is. omega arith) (λ differs. omega arith)

mark_shorter : (spot : Spot) (line b : ℕ) (bytes : List ℕ) → Shorter (length bytes) line (cut_mark spot line b bytes)
mark_shorter spot line b bytes =
    let mark = first_mark b bytes in
    let some = mark_some b bytes in
    let less : length (drop (length mark) (b ∷ bytes)) ≤ length bytes = omega (arith, length-drop (length mark) (b ∷ bytes)) in
    cond_both (is_mark mark) (cut (piece line (allowed_at spot (Some (Mark mark))) ∷ []) in_line line (drop (length mark) (b ∷ bytes)))
    (elim (head_of (b ∷ bytes)) [ Some f ↦ cut_head spot line f | None ↦ cut (piece line None ∷ []) in_line line bytes ])
    (Shorter (length bytes) line) (λ is. (less, refl)) (λ differs. found_shorter spot line b bytes (head_of (b ∷ bytes)) (head_leaves b bytes))

token_shorter : (spot : Spot) (line b : ℕ) (bytes : List ℕ) → Shorter (length bytes) line (cut_token spot line b bytes)
token_shorter spot line b bytes =
    cond_both (is_word_byte b) (cut (piece line (allowed_at spot (token_of_word (take_while is_word_byte (b ∷ bytes)))) ∷ []) in_line line
    (after_while is_word_byte (b ∷ bytes))) (cut_mark spot line b bytes) (Shorter (length bytes) line)
    (λ is. (subst (λ (rest : List ℕ). length rest ≤ length bytes) (sym (after_while-more is_word_byte b bytes is)) (after_while-le is_word_byte bytes), refl))
    (λ differs. mark_shorter spot line b bytes)

blank_shorter : (spot : Spot) (line : ℕ) (bytes : List ℕ) → Shorter (length bytes) line (cut_blank spot line bytes)
blank_shorter spot line bytes =
    let rest = after_while is_blank bytes in
    let inner : Cut = if is_line_end rest then cut (piece line (Some stray) ∷ []) in_line line rest else cut [] in_blanks line bytes in
    cond_both (not (is_of_pragma spot)) (cut [] in_line line bytes) inner (Shorter (length bytes) line) (λ is. (omega arith, refl))
    (λ differs. cond_both (is_line_end rest) (cut (piece line (Some stray) ∷ []) in_line line rest) (cut [] in_blanks line bytes)
    (Shorter (length bytes) line) (λ is. (after_while-le is_blank bytes, refl)) (λ is. (omega arith, refl)))

-- The cases of a first cut.

first_feed : (spot : Spot) (line b : ℕ) (bytes : List ℕ) → (b == 10) ≡ true → first_cut spot line b bytes ≡ cut [] line_start (suc line) bytes
first_feed spot line b bytes is = cond-true (b == 10) (cut [] line_start (suc line) bytes) _ is

first_number : (spot : Spot) (line b : ℕ) (bytes : List ℕ) → (b == 10) ≡ false → has_number spot b bytes ≡ true → first_cut spot line b bytes ≡ number_cut line (b ∷ bytes)
first_number spot line b bytes differs is = cond-false (b == 10) (cut [] line_start (suc line) bytes) _ differs ∙ cond-true (has_number spot b bytes) (number_cut line (b ∷ bytes)) _ is

first_blank : (spot : Spot) (line b : ℕ) (bytes : List ℕ) → (b == 10) ≡ false → has_number spot b bytes ≡ false → is_blank b ≡ true → first_cut spot line b bytes ≡ cut_blank spot line bytes
first_blank spot line b bytes differs none is =
    cond-false (b == 10) (cut [] line_start (suc line) bytes) _ differs ∙ cond-false (has_number spot b bytes) (number_cut line (b ∷ bytes)) _ none
    ∙ cond-true (is_blank b) (cut_blank spot line bytes) _ is

first_token : (spot : Spot) (line b : ℕ) (bytes : List ℕ) → (b == 10) ≡ false → has_number spot b bytes ≡ false → is_blank b ≡ false → first_cut spot line b bytes ≡ cut_token spot line b bytes
first_token spot line b bytes differs none other =
    cond-false (b == 10) (cut [] line_start (suc line) bytes) _ differs ∙ cond-false (has_number spot b bytes) (number_cut line (b ∷ bytes)) _ none
    ∙ cond-false (is_blank b) (cut_blank spot line bytes) _ other

shorter_as : {most : ℕ} {c d : Cut} → c ≡ d → length d.rest ≤ most → length c.rest ≤ most
shorter_as {most} same less = subst (λ (e : Cut). length e.rest ≤ most) (sym same) less

-- each cut leaves fewer bytes
pub first_shorter : (spot : Spot) (line b : ℕ) (bytes : List ℕ) → length (first_cut spot line b bytes).rest ≤ length bytes
first_shorter spot line b bytes =
    ⊎_elim (λ feed. shorter_as (first_feed spot line b bytes feed) (omega arith))
    (λ differs. ⊎_elim (λ number. shorter_as (first_number spot line b bytes differs number) (after_while-le is_word_byte bytes))
    (λ none. ⊎_elim (λ blank. shorter_as (first_blank spot line b bytes differs none blank) (blank_shorter spot line bytes).0)
    (λ other. shorter_as (first_token spot line b bytes differs none other) (token_shorter spot line b bytes).0)
    (cases_Bool (is_blank b)))
    (cases_Bool (has_number spot b bytes)))
    (cases_Bool (b == 10))

-- All the pieces.

-- more cuts than bytes give no more pieces
pieces_from-more : (more other : ℕ) (spot : Spot) (line : ℕ) (bytes : List ℕ) → length bytes ≤ more → length bytes ≤ other → pieces_from more spot line bytes ≡ pieces_from other spot line bytes
pieces_from-more zero zero spot line bytes few enough = refl
pieces_from-more zero (suc other) spot line [] few enough = refl
pieces_from-more zero (suc other) spot line (b ∷ bytes) few enough = absurd (omega (arith, few))
pieces_from-more (suc more) zero spot line [] few enough = refl
pieces_from-more (suc more) zero spot line (b ∷ bytes) few enough = absurd (omega (arith, enough))
pieces_from-more (suc more) (suc other) spot line [] few enough = refl
pieces_from-more (suc more) (suc other) spot line (b ∷ bytes) few enough =
    let first = first_cut spot line b bytes in
    let less = first_shorter spot line b bytes in
    ap (λ (pieces : List Piece). first.pieces ++ pieces) (pieces_from-more more other first.spot first.line first.rest (omega (arith, few)) (omega (arith, enough)))

-- no bytes have no piece
pub remaining-none : (spot : Spot) (line : ℕ) → remaining spot line [] ≡ []
unfolding remaining
remaining-none spot line = refl

-- the pieces of bytes are those of the first cut and those after it
pub first_continues : (spot : Spot) (line b : ℕ) (bytes : List ℕ) → Continues spot line (b ∷ bytes) (first_cut spot line b bytes)
unfolding Continues remaining
first_continues spot line b bytes =
    let first = first_cut spot line b bytes in
    ap (λ (pieces : List Piece). first.pieces ++ pieces) (pieces_from-more (length bytes) (length first.rest) first.spot first.line first.rest (first_shorter spot line b bytes) (omega arith))

continues_as : (spot : Spot) (line : ℕ) (bytes : List ℕ) {c d : Cut} → c ≡ d → Continues spot line bytes c → Continues spot line bytes d
continues_as spot line bytes same goes = subst (Continues spot line bytes) same goes

-- a cut without a piece passes on
continues_then : (spot next : Spot) (line : ℕ) (bytes rest : List ℕ) (c : Cut) → Continues spot line bytes (cut [] next line rest) → Continues next line rest c → Continues spot line bytes c
unfolding Continues
continues_then spot next line bytes rest c first later = first ∙ later

pub continues_same : (spot : Spot) (line : ℕ) (bytes : List ℕ) → Continues spot line bytes (cut [] spot line bytes)
unfolding Continues
continues_same spot line bytes = refl

-- Blanks.

blank_no_feed : (b : ℕ) → is_blank b ≡ true → (b == 10) ≡ false
blank_no_feed b is =
    ne_eqb b 10 (λ feed. ⊎_elim (λ space. let e = eqb-true b 32 space in omega arith) (λ tab. let e = eqb-true b 9 tab in omega arith) (or_cases (b == 32) (b == 9) is))

line_blanks : (line : ℕ) (bytes : List ℕ) → Continues in_line line bytes (cut [] in_line line (after_while is_blank bytes))
line_blanks line [] = continues_same in_line line []
line_blanks line (b ∷ bytes) =
    ⊎_elim (λ is. let first = continues_as in_line line (b ∷ bytes) (first_blank in_line line b bytes (blank_no_feed b is) refl is) (first_continues in_line line b bytes) in
    subst (λ rest. Continues in_line line (b ∷ bytes) (cut [] in_line line rest)) (sym (after_while-more is_blank b bytes is))
    (continues_then in_line in_line line (b ∷ bytes) bytes (cut [] in_line line (after_while is_blank bytes)) first (line_blanks line bytes)))
    (λ differs. subst (λ rest. Continues in_line line (b ∷ bytes) (cut [] in_line line rest)) (sym (after_while-none is_blank b bytes differs)) (continues_same in_line line (b ∷ bytes)))
    (cases_Bool (is_blank b))

blank_goes : (spot : Spot) (line : ℕ) (bytes : List ℕ) → is_of_pragma spot ≡ true → is_line_end (after_while is_blank bytes) ≡ false → cut_blank spot line bytes ≡ cut [] in_blanks line bytes
blank_goes spot line bytes pragma goes =
    let rest = after_while is_blank bytes in
    cond-false (not (is_of_pragma spot)) (cut [] in_line line bytes) _ (not_from_true (is_of_pragma spot) pragma)
    ∙ cond-false (is_line_end rest) (cut (piece line (Some stray) ∷ []) in_line line rest) (cut [] in_blanks line bytes) goes

blank_ends : (spot : Spot) (line : ℕ) (bytes : List ℕ) → is_of_pragma spot ≡ true → is_line_end (after_while is_blank bytes) ≡ true →
    cut_blank spot line bytes ≡ cut (piece line (Some stray) ∷ []) in_line line (after_while is_blank bytes)
blank_ends spot line bytes pragma ends =
    let rest = after_while is_blank bytes in
    cond-false (not (is_of_pragma spot)) (cut [] in_line line bytes) _ (not_from_true (is_of_pragma spot) pragma)
    ∙ cond-true (is_line_end rest) (cut (piece line (Some stray) ∷ []) in_line line rest) (cut [] in_blanks line bytes) ends

pragma_blanks : (line : ℕ) (bytes : List ℕ) → is_line_end (after_while is_blank bytes) ≡ false → Continues in_blanks line bytes (cut [] in_blanks line (after_while is_blank bytes))
pragma_blanks line [] goes = absurd cc
pragma_blanks line (b ∷ bytes) goes =
    ⊎_elim (λ is.
    let same = after_while-more is_blank b bytes is in
    let later : is_line_end (after_while is_blank bytes) ≡ false = subst (λ rest. is_line_end rest ≡ false) same goes in
    let first = continues_as in_blanks line (b ∷ bytes)
    (first_blank in_blanks line b bytes (blank_no_feed b is) refl is ∙ blank_goes in_blanks line bytes refl later)
    (first_continues in_blanks line b bytes) in
    subst (λ rest. Continues in_blanks line (b ∷ bytes) (cut [] in_blanks line rest)) (sym same)
    (continues_then in_blanks in_blanks line (b ∷ bytes) bytes (cut [] in_blanks line (after_while is_blank bytes)) first
    (pragma_blanks line bytes later)))
    (λ differs. subst (λ rest. Continues in_blanks line (b ∷ bytes) (cut [] in_blanks line rest)) (sym (after_while-none is_blank b bytes differs)) (continues_same in_blanks line (b ∷ bytes)))
    (cases_Bool (is_blank b))

-- the first blank of a run, and the others
run_at : (spot : Spot) (line b : ℕ) (bytes : List ℕ) → is_blank b ≡ true → blank_run spot line (b ∷ bytes) ≡ blank_run spot line bytes
run_at spot line b bytes is =
    ap (λ rest. if not (is_of_pragma spot) then cut [] in_line line rest else if is_line_end rest then cut (piece line (Some stray) ∷ []) in_line
    line rest else cut [] in_blanks line rest) (after_while-more is_blank b bytes is)

run_plain : (spot : Spot) (line : ℕ) (bytes : List ℕ) → is_of_pragma spot ≡ false →
    (cut_blank spot line bytes ≡ cut [] in_line line bytes) × (blank_run spot line bytes ≡ cut [] in_line line (after_while is_blank bytes))
run_plain line_start line bytes plain = (refl, refl)
run_plain in_line line bytes plain = (refl, refl)
run_plain in_pragma line bytes plain = absurd cc
run_plain in_blanks line bytes plain = absurd cc

run_of_pragma : (spot : Spot) (line : ℕ) (bytes : List ℕ) → is_of_pragma spot ≡ true →
    (is_line_end (after_while is_blank bytes) ≡ true →
    blank_run spot line bytes ≡ cut (piece line (Some stray) ∷ []) in_line line (after_while is_blank bytes)) × (is_line_end
    (after_while is_blank bytes) ≡ false → blank_run spot line bytes ≡ cut [] in_blanks line (after_while is_blank bytes))
run_of_pragma spot line bytes pragma =
    let rest = after_while is_blank bytes in
    let outer : (c : Cut) → (if not (is_of_pragma spot) then cut [] in_line line rest else c) ≡ c =
    λ c. cond-false (not (is_of_pragma spot)) (cut [] in_line line rest) c (not_from_true (is_of_pragma spot) pragma) in (
      λ ends. outer _ ∙ cond-true (is_line_end rest) (cut (piece line (Some stray) ∷ []) in_line line rest) (cut [] in_blanks line rest)
          ends,
      λ goes. outer _ ∙ cond-false (is_line_end rest) (cut (piece line (Some stray) ∷ []) in_line line rest) (cut [] in_blanks line rest) goes,
    )

-- a run of blanks at once
blanks_continue : (spot : Spot) (line b : ℕ) (bytes : List ℕ) → has_number spot b bytes ≡ false → is_blank b ≡ true → Continues spot line (b ∷ bytes) (blank_run spot line bytes)
blanks_continue spot line b bytes none is =
    let first : Continues spot line (b ∷ bytes) (cut_blank spot line bytes) =
    continues_as spot line (b ∷ bytes) (first_blank spot line b bytes (blank_no_feed b is) none is) (first_continues spot line b bytes) in
    let rest = after_while is_blank bytes in
    ⊎_elim (λ pragma. ⊎_elim
    (λ ends. continues_as spot line (b ∷ bytes) (blank_ends spot line bytes pragma ends ∙ sym ((run_of_pragma spot line bytes pragma).0 ends)) first)
    (λ goes. continues_as spot line (b ∷ bytes) (sym ((run_of_pragma spot line bytes pragma).1 goes))
    (continues_then spot in_blanks line (b ∷ bytes) bytes (cut [] in_blanks line rest)
    (continues_as spot line (b ∷ bytes) (blank_goes spot line bytes pragma goes) first) (pragma_blanks line bytes goes)))
    (cases_Bool (is_line_end rest)))
    (λ plain. let (one, all) = run_plain spot line bytes plain in
    continues_as spot line (b ∷ bytes) (sym all)
    (continues_then spot in_line line (b ∷ bytes) bytes (cut [] in_line line rest) (continues_as spot line (b ∷ bytes) one first)
    (line_blanks line bytes)))
    (cases_Bool (is_of_pragma spot))

-- The cuts of bytes that are not none.

run_shorter : (spot : Spot) (line : ℕ) (bytes : List ℕ) → Shorter (length bytes) line (blank_run spot line bytes)
run_shorter spot line bytes =
    let rest = after_while is_blank bytes in
    let less = after_while-le is_blank bytes in
    let inner : Cut = if is_line_end rest then cut (piece line (Some stray) ∷ []) in_line line rest else cut [] in_blanks line rest in
    cond_both (not (is_of_pragma spot)) (cut [] in_line line rest) inner (Shorter (length bytes) line) (λ is. (less, refl))
    (λ differs. cond_both (is_line_end rest) (cut (piece line (Some stray) ∷ []) in_line line rest) (cut [] in_blanks line rest)
    (Shorter (length bytes) line) (λ is. (less, refl)) (λ is. (less, refl)))

-- the cut goes on after the bytes, in this line
abbrev pub Advances : Spot → ℕ → ℕ → List ℕ → Cut → Type 0
Advances spot line next bytes c = Continues spot line bytes c × (length c.rest < length bytes) × (c.line ≡ next)

advances : (spot : Spot) (line next b : ℕ) (bytes : List ℕ) (c : Cut) → Continues spot line (b ∷ bytes) c → Shorter (length bytes) next c → Advances spot line next (b ∷ bytes) c
advances spot line next b bytes c goes short = let less = short.0 in (goes, omega arith, short.1)

pub feed_advances : (spot : Spot) (line : ℕ) (bytes : List ℕ) → 0 < length bytes → get_or bytes 0 0 ≡ 10 → Advances spot line (suc line) bytes (cut [] line_start (suc line) (drop 1 bytes))
feed_advances spot line [] some is = absurd (omega arith)
feed_advances spot line (b ∷ bytes) some is =
    advances spot line (suc line) b bytes _ (continues_as spot line (b ∷ bytes) (first_feed spot line b bytes (eq-eqb b 10 is)) (first_continues spot line b bytes)) (omega arith, refl)

pub number_advances : (spot : Spot) (line : ℕ) (bytes : List ℕ) → (get_or bytes 0 0 ≡ 10 → ⊥) → begins_number spot bytes ≡ true → Advances spot line line bytes (number_cut line bytes)
number_advances spot line [] differs is = absurd cc
number_advances spot line (b ∷ bytes) differs is =
    advances spot line line b bytes _
    (continues_as spot line (b ∷ bytes) (first_number spot line b bytes (ne_eqb b 10 differs) is) (first_continues spot line b bytes))
    (after_while-le is_word_byte bytes, refl)

pub blank_advances : (spot : Spot) (line : ℕ) (bytes : List ℕ) → 0 < length bytes → begins_number spot bytes ≡ false →
    is_blank (get_or bytes 0 0) ≡ true → Advances spot line line bytes (blank_run spot line bytes)
blank_advances spot line [] some none is = absurd (omega arith)
blank_advances spot line (b ∷ bytes) some none is =
    let same = run_at spot line b bytes is in
    advances spot line line b bytes _ (continues_as spot line (b ∷ bytes) (sym same) (blanks_continue spot line b bytes none is))
    (subst (Shorter (length bytes) line) (sym same) (run_shorter spot line bytes))

pub token_advances : (spot : Spot) (line : ℕ) (bytes : List ℕ) → 0 < length bytes → (get_or bytes 0 0 ≡ 10 → ⊥) → begins_number spot bytes ≡ false →
    is_blank (get_or bytes 0 0) ≡ false → Advances spot line line bytes (token_cut spot line bytes)
token_advances spot line [] some differs none other = absurd (omega arith)
token_advances spot line (b ∷ bytes) some differs none other =
    advances spot line line b bytes _
    (continues_as spot line (b ∷ bytes) (first_token spot line b bytes (ne_eqb b 10 differs) none other) (first_continues spot line b bytes))
    (token_shorter spot line b bytes)

pub mark_found : (spot : Spot) (line : ℕ) (bytes mark rest : List ℕ) → 0 < length bytes → is_mark (mark_bytes bytes) ≡ true →
    mark ≡ mark_bytes bytes → rest ≡ drop (length (mark_bytes bytes)) bytes →
    mark_cut spot line bytes ≡ cut (piece line (allowed_at spot (Some (Mark mark))) ∷ []) in_line line rest
mark_found spot line [] mark rest some is same after = absurd (omega arith)
mark_found spot line (b ∷ bytes) mark rest some is same after =
    cond-true (is_mark (first_mark b bytes)) (cut (piece line (allowed_at spot (Some (Mark (first_mark b bytes)))) ∷ []) in_line line (drop (length (first_mark b bytes)) (b ∷ bytes))) _ is
    ∙ sym (ap (λ (m : List ℕ). cut (piece line (allowed_at spot (Some (Mark m))) ∷ []) in_line line rest) same
    ∙ ap (λ (r : List ℕ). cut (piece line (allowed_at spot (Some (Mark (first_mark b bytes)))) ∷ []) in_line line r) after)

-- a run of letters, digits and `_` of no bytes
pub token_mark : (spot : Spot) (line : ℕ) (bytes : List ℕ) → length (take_while is_word_byte bytes) ≡ 0 → token_cut spot line bytes ≡ mark_cut spot line bytes
token_mark spot line [] none = refl
token_mark spot line (b ∷ bytes) none =
    ⊎_elim (λ is. absurd (omega (arith, none, ap (λ (run : List ℕ). length run) (take_while-cons is_word_byte b bytes ∙ ap (λ t. cond t (b ∷ take_while is_word_byte bytes) []) is))))
    (λ differs. cond-false (is_word_byte b) _ (cut_mark spot line b bytes) differs)
    (cases_Bool (is_word_byte b))

pub token_run : (spot : Spot) (line : ℕ) (bytes : List ℕ) → 0 < length (take_while is_word_byte bytes) →
    token_cut spot line bytes ≡ cut (piece line (allowed_at spot (token_of_word (take_while is_word_byte bytes))) ∷ []) in_line line
    (after_while is_word_byte bytes)
token_run spot line [] some = absurd (omega arith)
token_run spot line (b ∷ bytes) some =
    ⊎_elim (λ is. cond-true (is_word_byte b) _ (cut_mark spot line b bytes) is)
    (λ differs. absurd (omega (arith, some, ap (λ (run : List ℕ). length run) (take_while-cons is_word_byte b bytes ∙ ap (λ t. cond t (b ∷ take_while is_word_byte bytes) []) differs))))
    (cases_Bool (is_word_byte b))

-- a line feed, before the other bytes in the next line
pub feed_goes : (spot : Spot) (line next : ℕ) (bytes rest : List ℕ) → 0 < length bytes → get_or bytes 0 0 ≡ 10 → next ≡ line + 1 →
    rest ≡ drop 1 bytes → Continues spot line bytes (cut [] line_start next rest)
feed_goes spot line next bytes rest some is counts left =
    let same : suc line ≡ next = omega arith in
    continues_as spot line bytes (ap (λ n. cut [] line_start n (drop 1 bytes)) same ∙ ap (λ r. cut [] line_start next r) (sym left)) (feed_advances spot line bytes some is).0

-- all the pieces after the version line
pub remaining-all : (bytes : List ℕ) → remaining in_line 1 bytes ≡ pieces_of bytes
unfolding remaining
remaining-all bytes = refl

-- a cut that is that of a token
pub token_goes : (spot : Spot) (line : ℕ) (bytes : List ℕ) → 0 < length bytes → (get_or bytes 0 0 ≡ 10 → ⊥) → begins_number spot bytes ≡ false →
    is_blank (get_or bytes 0 0) ≡ false → (c : Cut) → c ≡ token_cut spot line bytes → Advances spot line line bytes c
token_goes spot line bytes some differs none other c same =
    subst (Advances spot line line bytes) (sym same) (token_advances spot line bytes some differs none other)

pub blanks_go : (spot : Spot) (line : ℕ) (bytes : List ℕ) → 0 < length bytes → begins_number spot bytes ≡ false →
    is_blank (get_or bytes 0 0) ≡ true → (c : Cut) → c ≡ blank_run spot line bytes → Advances spot line line bytes c
blanks_go spot line bytes some none is c same =
    subst (Advances spot line line bytes) (sym same) (blank_advances spot line bytes some none is)

pub number_goes : (spot : Spot) (line : ℕ) (bytes : List ℕ) → (get_or bytes 0 0 ≡ 10 → ⊥) → begins_number spot bytes ≡ true → (c : Cut) → c ≡ number_cut line bytes → Advances spot line line bytes c
number_goes spot line bytes differs is c same =
    subst (Advances spot line line bytes) (sym same) (number_advances spot line bytes differs is)

-- Answers.

-- an answer that is no value
pub if_none : {T : Type 0} (answer : Option T) (P : Type 0) (Q : T → Type 0) → MatchOption answer P Q → ((x : T) → answer ≡ Some x → ⊥) → P
if_none None P Q holds never = holds
if_none (Some x) P Q holds never = absurd (never x refl)
