-- The bytes of tokens are cut into these: lines of pragmas, and whole texts.
use Rattle.std.proofs.Common.{◌≡◌, ◌≤◌, ℕ, zero, suc, Bool, true, List, [], ◌∷◌, ◌++◌, map, length, Some, refl, sym, ap, ◌∙◌, subst, append_assoc, arith}
use Rattle.std.specs.Prelude.{nat_le}
use Rattle.std.specs.List.{take_while, list_all, flat_map}
use Rattle.std.specs.Fmt.{decimal}
use Rattle.std.proofs.lemmas.Bool.{and_parts, cond-true, eqb-true, leb-true}
use Rattle.std.proofs.lemmas.List.{append-nil, length-append}
use Rattle.dcc_c.specs.Token.{Token, Decimal, Pragma, plain_number, Head, version_line, stack_line, place_line, depth_line, head_bytes, is_word_byte, Spells, ends_before}
use Rattle.dcc_c.specs.Lexing.{Placed, placed, pragma_bytes, are_pragma_numbers, Lexes, ends, blank, feed, token, pragma}
use Rattle.dcc_c.specs.Pieces.{piece, after_while, token_of_word, is_line_end, is_word_end, Spot, line_start, in_line, in_pragma, cut, is_plain, first_cut, pieces_from}
use Rattle.dcc_c.proofs.reading.Passing.{pieces_with}
use Rattle.dcc_lex.proofs.laws.Runs.{ends_run, run_is, after_run}
use Rattle.dcc_lex.proofs.laws.Words.{is_used, IsFound}
use Rattle.dcc_lex.proofs.laws.Numbers.{spelling_found}
use Rattle.dcc_lex.proofs.laws.Used.{all_used}
use Rattle.dcc_lex.proofs.laws.LexesCut.{spot_of, with_cut, blank_first, blank_no_feed, token_first_cut, spelled_some}

-- the bytes of a pragma's numbers
abbrev spelled : List ℕ → List ℕ
spelled numbers = flat_map (λ n. 32 ∷ decimal n) numbers

-- the tokens of a pragma's numbers
abbrev number_tokens : ℕ → List ℕ → List Placed
number_tokens line numbers = map (placed line) (map (λ n. Decimal n plain_number) numbers)

-- One number.

number_found : (n : ℕ) → n ≤ 4294967295 → IsFound (decimal n) (Decimal n plain_number)
number_found n small = spelling_found (decimal n) (Decimal n plain_number) (sym (append-nil (decimal n)), small) refl refl

number_first : (line n : ℕ) (rest : List ℕ) → n ≤ 4294967295 → ends_run is_word_byte rest ≡ true →
    first_cut in_pragma line 32 (decimal n ++ rest) ≡ cut (piece line (Some (Decimal n plain_number)) ∷ []) in_pragma line rest
number_first line n rest small ended =
    let found = number_found n small in
    let read : token_of_word (take_while is_word_byte (decimal n ++ rest)) ≡ Some (Decimal n plain_number) =
    ap token_of_word (run_is is_word_byte (decimal n) rest found.all ended) ∙ found.found
    in
    cond-true _ _ _ (ap is_plain read)
    ∙ ap (λ o. cut (piece line o ∷ []) in_pragma line (after_while is_word_byte (decimal n ++ rest))) read
    ∙ ap (λ r. cut (piece line (Some (Decimal n plain_number)) ∷ []) in_pragma line r) (after_run is_word_byte (decimal n) rest found.all ended)

-- Numbers up to the end of the line.

module _ (line : ℕ) (rest : List ℕ) (later : List Placed) (ended : is_line_end rest ≡ true) (goes : (more : ℕ) → length rest ≤ more → pieces_from more in_line line rest ≡ pieces_with later) where
  end_is_free : (bytes : List ℕ) → is_line_end bytes ≡ true → ends_run is_word_byte bytes ≡ true
  end_is_free [] is = refl
  end_is_free (b ∷ bytes) is = subst (λ x. ends_run is_word_byte (x ∷ bytes) ≡ true) (sym (eqb-true b 10 is)) refl

  numbers_free : (numbers : List ℕ) → ends_run is_word_byte (spelled numbers ++ rest) ≡ true
  numbers_free [] = end_is_free rest ended
  numbers_free (n ∷ numbers) = refl

  -- the end of a line is the same after a pragma and after other tokens
  end_same : (more : ℕ) (bytes : List ℕ) → is_line_end bytes ≡ true → pieces_from more in_pragma line bytes ≡ pieces_from more in_line line bytes
  end_same zero bytes is = refl
  end_same (suc more) [] is = refl
  end_same (suc more) (b ∷ bytes) is =
      subst (λ x. pieces_from (suc more) in_pragma line (x ∷ bytes) ≡ pieces_from (suc more) in_line line (x ∷ bytes)) (sym (eqb-true b 10 is)) refl

  shorter : (n : ℕ) (numbers : List ℕ) (more : ℕ) → length (spelled (n ∷ numbers) ++ rest) ≤ suc more → length (spelled numbers ++ rest) ≤ more
  shorter n numbers more enough =
      omega (arith, enough, length-append (decimal n ++ spelled numbers) rest, length-append (decimal n) (spelled numbers), length-append (spelled numbers) rest)

  numbers_cut : (numbers : List ℕ) → list_all (λ n. nat_le n 4294967295) numbers ≡ true → (more : ℕ) → length (spelled numbers ++ rest) ≤ more →
      pieces_from more in_pragma line (spelled numbers ++ rest) ≡ pieces_with (number_tokens line numbers ++ later)
  numbers_cut [] small more enough = end_same more rest ended ∙ goes more enough
  numbers_cut (n ∷ numbers) small zero enough = absurd (omega (arith, enough))
  numbers_cut (n ∷ numbers) small (suc more) enough =
      let (here, others) = and_parts (nat_le n 4294967295) (list_all (λ n. nat_le n 4294967295) numbers) small in
      ap (λ x. with_cut more (first_cut in_pragma line 32 x)) (append_assoc (decimal n) (spelled numbers) rest)
      ∙ ap (with_cut more) (number_first line n (spelled numbers ++ rest) (leb-true n 4294967295 here) (numbers_free numbers))
      ∙ ap (λ ps. piece line (Some (Decimal n plain_number)) ∷ ps) (numbers_cut numbers others more (shorter n numbers more enough))

-- The words of a pragma.

-- what is read of the words of a pragma and a rest
record IsBegun (head : Head) (line : ℕ) (rest : List ℕ) (more : ℕ) : Type 0 where
  less : ℕ
  enough : length rest ≤ less
  same : pieces_from more line_start line (head_bytes head ++ rest) ≡ piece line (Some (Pragma head)) ∷ pieces_from less in_pragma line rest

words_cut : (head : Head) (line : ℕ) (rest : List ℕ) (more : ℕ) → is_used (Pragma head) ≡ true → is_word_end rest ≡ true → length (head_bytes head ++ rest) ≤ more → IsBegun head line rest more
words_cut version_line line rest more used ended enough = absurd cc
words_cut stack_line line rest zero used ended enough = absurd (omega (arith, enough))
words_cut stack_line line rest (suc more) used ended enough = record { less = more; enough = omega (arith, enough); same = rw ended refl }
words_cut place_line line rest zero used ended enough = absurd (omega (arith, enough))
words_cut place_line line rest (suc more) used ended enough = record { less = more; enough = omega (arith, enough); same = rw ended refl }
words_cut depth_line line rest zero used ended enough = absurd (omega (arith, enough))
words_cut depth_line line rest (suc more) used ended enough = record { less = more; enough = omega (arith, enough); same = rw ended refl }

numbers_of : (head : Head) (numbers : List ℕ) → is_used (Pragma head) ≡ true → are_pragma_numbers head numbers ≡ true → list_all (λ n. nat_le n 4294967295) numbers ≡ true
numbers_of version_line numbers used good = absurd cc
numbers_of stack_line numbers used good = good
numbers_of place_line numbers used good = good
numbers_of depth_line numbers used good = good

pub line_ended : (head : Head) (rest : List ℕ) → ends_before (Pragma head) rest ≡ true → is_line_end rest ≡ true
line_ended head [] ended = refl
line_ended head (b ∷ rest) ended = ended

after_numbers : (line : ℕ) (numbers : List ℕ) (later : List Placed) → all_used (number_tokens line numbers ++ later) ≡ true → all_used later ≡ true
after_numbers line [] later used = used
after_numbers line (n ∷ numbers) later used = after_numbers line numbers later used

-- a whole pragma
module _ (head : Head) (line : ℕ) (numbers rest : List ℕ) (later : List Placed) (used : is_used (Pragma head) ≡ true) (ended : is_line_end rest ≡ true)
    (goes : (more : ℕ) → length rest ≤ more → pieces_from more in_line line rest ≡ pieces_with later) where
  word_ended : (bytes : List ℕ) → ends_run is_word_byte bytes ≡ true → is_word_end bytes ≡ true
  word_ended [] is = refl
  word_ended (b ∷ bytes) is = is

  pragma_cut : list_all (λ n. nat_le n 4294967295) numbers ≡ true → (more : ℕ) → length (pragma_bytes head numbers ++ rest) ≤ more →
      pieces_from more line_start line (pragma_bytes head numbers ++ rest) ≡ pieces_with (placed line (Pragma head) ∷ (number_tokens line numbers ++ later))
  pragma_cut small more enough =
      let after = spelled numbers ++ rest in
      let joined = append_assoc (head_bytes head) (spelled numbers) rest in
      let begun = words_cut head line after more used (word_ended after (numbers_free line rest later ended goes numbers)) (subst (λ x. length x ≤ more) joined enough) in
      ap (λ x. pieces_from more line_start line x) joined ∙ begun.same
      ∙ ap (λ ps. piece line (Some (Pragma head)) ∷ ps) (numbers_cut line rest later ended goes numbers small begun.less begun.enough)

-- Tokens.

no_pieces : (more : ℕ) (spot : Spot) (line : ℕ) → pieces_from more spot line [] ≡ []
no_pieces zero spot line = refl
no_pieces (suc more) spot line = refl

token_pieces : (fresh : Bool) (line : ℕ) (spelling rest : List ℕ) (read : Token) (later : List Placed) → Spells spelling read → ends_before read rest ≡ true → is_used read ≡ true →
    ((more : ℕ) → length rest ≤ more → pieces_from more in_line line rest ≡ pieces_with later) → (more : ℕ) → length (spelling ++ rest) ≤ more →
    pieces_from more (spot_of fresh) line (spelling ++ rest) ≡ pieces_with (placed line read ∷ later)
token_pieces fresh line [] rest read later spells ended used goes more enough = absurd (spelled_some read spells used)
token_pieces fresh line (b ∷ others) rest read later spells ended used goes zero enough = absurd (omega (arith, enough))
token_pieces fresh line (b ∷ others) rest read later spells ended used goes (suc more) enough =
    ap (with_cut more) (token_first_cut fresh line b others rest read spells ended used)
    ∙ ap (λ ps. piece line (Some read) ∷ ps) (goes more (omega (arith, enough, length-append others rest)))

-- bytes that are tokens that may stand after the version line are cut into these
pub lexes_cut : {fresh : Bool} {line : ℕ} {bytes : List ℕ} {tokens : List Placed} → Lexes fresh line bytes tokens → all_used tokens ≡ true →
    (more : ℕ) → length bytes ≤ more → pieces_from more (spot_of fresh) line bytes ≡ pieces_with tokens
lexes_cut (ends {fresh} {line}) used more enough = no_pieces more (spot_of fresh) line
lexes_cut (blank is later) used zero enough = absurd (omega (arith, enough))
lexes_cut (blank {fresh} {line} {b} {bytes} is later) used (suc more) enough =
    ap (with_cut more) (blank_first fresh line b bytes (blank_no_feed b is) is) ∙ lexes_cut later used more (omega (arith, enough))
lexes_cut (feed later) used zero enough = absurd (omega (arith, enough))
lexes_cut (feed later) used (suc more) enough = lexes_cut later used more (omega (arith, enough))
lexes_cut (token {fresh} {line} {bytes} {tokens} read spelling rest spells ended same later) used more enough =
    let (here, others) = and_parts (is_used read) (all_used tokens) used in
    ap (λ x. pieces_from more (spot_of fresh) line x) same
    ∙ token_pieces fresh line spelling rest read tokens spells ended here (λ m fits. lexes_cut later others m fits) more (subst (λ x. length x ≤ more) same enough)
lexes_cut (pragma {line} {bytes} {tokens} {all} head numbers rest good ended same later all_is) used more enough =
    let (here, others) = and_parts (is_used (Pragma head)) (all_used (number_tokens line numbers ++ tokens)) (subst (λ ts. all_used ts ≡ true) all_is used) in
    let after = after_numbers line numbers tokens others in
    ap (λ x. pieces_from more line_start line x) same
    ∙ pragma_cut head line numbers rest tokens here (line_ended head rest ended) (λ m fits. lexes_cut later after m fits)
    (numbers_of head numbers here good) more (subst (λ x. length x ≤ more) same enough)
    ∙ ap pieces_with (sym all_is)
