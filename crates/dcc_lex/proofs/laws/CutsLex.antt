-- Pieces that are tokens, none of which stands where it may not, are the tokens of the bytes.
use Rattle.std.proofs.Common.{◌≡◌, ◌≤◌, ℕ, zero, suc, Bool, true, false, not, ◌==◌, List, [], ◌∷◌, ◌++◌, map, length, drop, Option, Some, None, refl, sym, ap, ◌∙◌, subst, append_assoc, arith}
use Rattle.std.specs.Prelude.{nat_le}
use Rattle.std.specs.List.{take_while, list_all, flat_map}
use Rattle.std.specs.Fmt.{decimal}
use Rattle.std.proofs.lemmas.Bool.{and_parts, and_from, eqb-true, le-leb}
use Rattle.std.proofs.lemmas.List.{append-nil}
use Rattle.dcc_c.specs.Token.{Token, WordToken, Decimal, Hex, Mark, Pragma, plain_number, unsigned_suffix, long_suffix, unsigned_long_suffix, Head, version_line, stack_line, place_line, depth_line, head_bytes, is_mark, is_word_byte, Spells, ends_before}
use Rattle.dcc_c.specs.Lexing.{Placed, placed, is_blank, are_pragma_numbers, Lexes, ends, blank, feed, token, pragma}
use Rattle.dcc_c.specs.Pieces.{Piece, piece, after_while, after, stray, token_of_word, is_line_end, is_word_end, pragma_words, FoundHead, head_if, head_in, head_of, Spot, line_start, in_line, in_pragma, in_blanks, is_of_pragma, Cut, cut, allowed_at, first_mark, cut_head, cut_mark, cut_blank, is_plain, has_number, first_cut, pieces_from}
use Rattle.dcc_c.proofs.reading.Passing.{if-cases, option-cases, pieces_with}
use Rattle.dcc_lex.proofs.laws.Runs.{run_of, after_shorter, drop_shorter, after-is}
use Rattle.dcc_lex.proofs.laws.Words.{word_ends_before, word_spelled}
use Rattle.dcc_lex.proofs.laws.Marks.{first_mark_is, first_mark_shorter}
use Rattle.dcc_lex.proofs.laws.Pieces.{is_no_version, no_version, first_of_tokens, no_stray, no_none, not_of_pragma, allowed_free}

-- The bytes are numbers of a pragma, one space before each, then tokens from the end of the line on.
pub record InPragma (line : ℕ) (bytes : List ℕ) (tokens : List Placed) : Type 0 where
  pub numbers : List ℕ
  pub rest : List ℕ
  pub later : List Placed
  pub same : bytes ≡ flat_map (λ n. 32 ∷ decimal n) numbers ++ rest
  pub small : list_all (λ n. nat_le n 4294967295) numbers ≡ true
  pub ended : is_line_end rest ≡ true
  pub tokens_are : tokens ≡ map (placed line) (map (λ n. Decimal n plain_number) numbers) ++ later
  pub lexed : Lexes false line rest later

-- What bytes at a spot are, if their pieces are these tokens. After a blank in the line of a pragma they are none.
abbrev pub IsAt : Spot → ℕ → List ℕ → List Placed → Type 0
IsAt line_start line bytes tokens = Lexes true line bytes tokens
IsAt in_line line bytes tokens = Lexes false line bytes tokens
IsAt in_pragma line bytes tokens = InPragma line bytes tokens
IsAt in_blanks line bytes tokens = ⊥

-- after a blank in the line of a pragma something stands
abbrev pub has_more : Spot → List ℕ → Bool
has_more in_blanks bytes = not (is_line_end (after_while is_blank bytes))
has_more spot bytes = true

free_at : (spot : Spot) {line : ℕ} {bytes : List ℕ} {tokens : List Placed} → is_of_pragma spot ≡ false → ((fresh : Bool) → Lexes fresh line bytes tokens) → IsAt spot line bytes tokens
free_at line_start free lexes = lexes true
free_at in_line free lexes = lexes false
free_at in_pragma free lexes = absurd cc
free_at in_blanks free lexes = absurd cc

-- The bytes after the cut are not more than those after the first byte. And where they are tokens at their spot, so
-- are all bytes.
record IsGoodCut (spot : Spot) (line b : ℕ) (bytes : List ℕ) (c : Cut) : Type 0 where
  shorter : length c.rest ≤ length bytes
  joins : (others : List Piece) (tokens : List Placed) →
      ((later : List Placed) → others ≡ pieces_with later → no_version later ≡ true → has_more c.spot c.rest ≡ true → IsAt c.spot c.line c.rest later) →
      c.pieces ++ others ≡ pieces_with tokens → no_version tokens ≡ true → has_more spot (b ∷ bytes) ≡ true → IsAt spot line (b ∷ bytes) tokens

module _ (line : ℕ) (bytes : List ℕ) where
  feed_at : (spot : Spot) (tokens : List Placed) → Lexes true (suc line) bytes tokens → has_more spot (10 ∷ bytes) ≡ true → IsAt spot line (10 ∷ bytes) tokens
  feed_at line_start tokens later more = feed later
  feed_at in_line tokens later more = feed later
  feed_at in_pragma tokens later more = record { numbers = []; rest = 10 ∷ bytes; later = tokens; same = refl; small = refl; ended = refl; tokens_are = refl; lexed = feed later }
  feed_at in_blanks tokens later more = absurd cc

  feed_cut : (spot : Spot) (b : ℕ) → b ≡ 10 → IsGoodCut spot line b bytes (cut [] line_start (suc line) bytes)
  feed_cut spot b is = record {
    shorter = omega arith;
    joins = λ others tokens goes same good more.
        subst (λ x. IsAt spot line (x ∷ bytes) tokens) (sym is) (feed_at spot tokens (goes tokens same good refl) (subst (λ x. has_more spot (x ∷ bytes) ≡ true) is more));
  }

-- A number of a pragma.

plain_is : (o : Option Token) → is_plain o ≡ true → (n : ℕ) × (o ≡ Some (Decimal n plain_number))
plain_is (Some (Decimal n plain_number)) is = (n, refl)
plain_is (Some (Decimal n unsigned_suffix)) is = absurd cc
plain_is (Some (Decimal n long_suffix)) is = absurd cc
plain_is (Some (Decimal n unsigned_long_suffix)) is = absurd cc
plain_is (Some (WordToken word)) is = absurd cc
plain_is (Some (Hex n suffix)) is = absurd cc
plain_is (Some (Mark mark)) is = absurd cc
plain_is (Some (Pragma head)) is = absurd cc
plain_is None is = absurd cc

number_before : (line n : ℕ) (run rest : List ℕ) (later : List Placed) → Spells run (Decimal n plain_number) → InPragma line rest later →
    InPragma line (32 ∷ (run ++ rest)) (placed line (Decimal n plain_number) ∷ later)
number_before line n run rest later (spelled, small) others = record {
  numbers = n ∷ others.numbers;
  rest = others.rest;
  later = others.later;
  same =
      ap (λ x. 32 ∷ (x ++ rest)) (spelled ∙ append-nil (decimal n)) ∙ ap (λ x. 32 ∷ (decimal n ++ x)) others.same
      ∙ ap (λ x. 32 ∷ x) (sym (append_assoc (decimal n) (flat_map (λ n. 32 ∷ decimal n) others.numbers) others.rest));
  small = and_from _ _ (le-leb n 4294967295 small) others.small;
  ended = others.ended;
  tokens_are = ap (λ ts. placed line (Decimal n plain_number) ∷ ts) others.tokens_are;
  lexed = others.lexed;
}

module _ (line : ℕ) (bytes : List ℕ) where
  number_cut : (spot : Spot) (b : ℕ) → has_number spot b bytes ≡ true →
      IsGoodCut spot line b bytes (cut (piece line (token_of_word (take_while is_word_byte bytes)) ∷ []) in_pragma line (after_while is_word_byte bytes))
  number_cut line_start b has = absurd cc
  number_cut in_line b has = absurd cc
  number_cut in_blanks b has = absurd cc
  number_cut in_pragma b has =
      let run = take_while is_word_byte bytes in
      let rest = after_while is_word_byte bytes in
      let (space, plain) = and_parts (b == 32) (is_plain (token_of_word run)) has in
      let (n, read) = plain_is (token_of_word run) plain in
      record {
        shorter = drop_shorter (length run) bytes;
        joins = λ others tokens goes same good more. number_joins n b run rest others tokens (eqb-true b 32 space) read
            (run_of is_word_byte bytes).same goes (ap (λ o. piece line o ∷ others) (sym read) ∙ same) good;
      }
    where
      number_joins : (n b : ℕ) (run rest : List ℕ) (others : List Piece) (tokens : List Placed) → b ≡ 32 → token_of_word run ≡ Some (Decimal n plain_number) → bytes ≡ run ++ rest →
          ((later : List Placed) → others ≡ pieces_with later → no_version later ≡ true → has_more in_pragma rest ≡ true → InPragma line rest later) →
          piece line (Some (Decimal n plain_number)) ∷ others ≡ pieces_with tokens → no_version tokens ≡ true → InPragma line (b ∷ bytes) tokens
      number_joins n b run rest others tokens space read split goes same good =
          let first = first_of_tokens line (Some (Decimal n plain_number)) others tokens same good in
          let is : Decimal n plain_number ≡ first.token = token_same _ _ first.is in
          let spells = (word_spelled run (Decimal n plain_number) read).spells in
          let here = number_before line n run rest first.later spells (goes first.later first.after first.others_allowed refl) in
          let tokens_are : placed line (Decimal n plain_number) ∷ first.later ≡ tokens = ap (λ t. placed line t ∷ first.later) is ∙ sym first.same in
          let bytes_are : 32 ∷ (run ++ rest) ≡ b ∷ bytes = ap (λ x. 32 ∷ x) (sym split) ∙ ap (λ x. x ∷ bytes) (sym space) in
          subst (λ x. InPragma line x tokens) bytes_are (subst (λ ts. InPragma line (32 ∷ (run ++ rest)) ts) tokens_are here)
        where
          token_same : (s t : Token) → Some s ≡ Some t → s ≡ t
          token_same s t is = cc

-- A blank.

blank_cut : (spot : Spot) (line b : ℕ) (bytes : List ℕ) → is_blank b ≡ true → IsGoodCut spot line b bytes (cut_blank spot line bytes)
blank_cut spot line b bytes is =
    let rest = after_while is_blank bytes in
    if-cases (IsGoodCut spot line b bytes) (not (is_of_pragma spot))
    (λ free. record { shorter = omega arith; joins = λ others tokens goes same good more. blank_at spot tokens free (goes tokens same good refl) })
    (λ _. if-cases (IsGoodCut spot line b bytes) (is_line_end rest)
    (λ _. record { shorter = drop_shorter (length (take_while is_blank bytes)) bytes; joins = λ others tokens goes same good more. absurd (no_stray line others tokens same good) })
    (λ some. record { shorter = omega arith; joins = λ others tokens goes same good more. absurd (goes tokens same good (ap not some)) }))
  where
    blank_at : (spot : Spot) (tokens : List Placed) → not (is_of_pragma spot) ≡ true → Lexes false line bytes tokens → IsAt spot line (b ∷ bytes) tokens
    blank_at line_start tokens free later = blank is later
    blank_at in_line tokens free later = blank is later
    blank_at in_pragma tokens free later = absurd cc
    blank_at in_blanks tokens free later = absurd cc

-- Tokens.

-- a piece that is spelled by the first bytes
module _ (spot : Spot) (line b : ℕ) (bytes : List ℕ) where
  token_cut : (o : Option Token) (spelling rest : List ℕ) → ((read : Token) → o ≡ Some read → Spells spelling read × (ends_before read rest ≡ true)) →
      b ∷ bytes ≡ spelling ++ rest → length rest ≤ length bytes → IsGoodCut spot line b bytes (cut (piece line (allowed_at spot o) ∷ []) in_line line rest)
  token_cut o spelling rest spells split shorter = record { shorter = shorter; joins = joined }
    where
      joined : (others : List Piece) (tokens : List Placed) →
          ((later : List Placed) → others ≡ pieces_with later → no_version later ≡ true → has_more in_line rest ≡ true → Lexes false line rest later) →
          piece line (allowed_at spot o) ∷ others ≡ pieces_with tokens → no_version tokens ≡ true → has_more spot (b ∷ bytes) ≡ true → IsAt spot line (b ∷ bytes) tokens
      joined others tokens goes same good more =
          let free = not_of_pragma spot line o others tokens same good in
          let first = first_of_tokens line (allowed_at spot o) others tokens same good in
          let is : o ≡ Some first.token = sym (allowed_free spot o free) ∙ first.is in
          let (spelled, ended) = spells first.token is in
          let later = goes first.later first.after first.others_allowed refl in
          free_at spot free (λ fresh. subst (Lexes fresh line (b ∷ bytes)) (sym first.same) (token first.token spelling rest spelled ended split later))

  word_cut : is_word_byte b ≡ true →
      IsGoodCut spot line b bytes (cut (piece line (allowed_at spot (token_of_word (take_while is_word_byte (b ∷ bytes)))) ∷ []) in_line line
      (after_while is_word_byte (b ∷ bytes)))
  word_cut is =
      let run = take_while is_word_byte (b ∷ bytes) in
      let rest = after_while is_word_byte (b ∷ bytes) in
      let split = run_of is_word_byte (b ∷ bytes) in
      token_cut (token_of_word run) run rest
      (λ read found. let word = word_spelled run read found in (word.spells, word_ends_before read rest word.kind ∙ split.ended)) split.same
      (after_shorter is_word_byte b bytes is)

-- The words of a pragma.

module _ (bytes : List ℕ) (found : FoundHead) where
  head_if_found : (head : Head) (o : Option (List ℕ)) (otherwise : Option FoundHead) → after (pragma_words head) bytes ≡ o →
      (otherwise ≡ Some found → bytes ≡ pragma_words found.head ++ found.rest) → head_if head o otherwise ≡ Some found → bytes ≡ pragma_words found.head ++ found.rest
  head_if_found head None otherwise begins later = later
  head_if_found head (Some rest) otherwise begins later =
      if-cases (λ o. o ≡ Some found → bytes ≡ pragma_words found.head ++ found.rest) (is_word_end rest)
      (λ _ is. let same : record { head = head; rest = rest } ≡ found = found_same _ _ is in after-is (pragma_words head) bytes rest begins ∙ ap (λ f. pragma_words f.head ++ f.rest) same)
      (λ _. later)
    where
      found_same : (s t : FoundHead) → Some s ≡ Some t → s ≡ t
      found_same s t is = cc

  head_in_found : (heads : List Head) → head_in heads bytes ≡ Some found → bytes ≡ pragma_words found.head ++ found.rest
  head_in_found [] is = absurd cc
  head_in_found (head ∷ heads) is =
      head_if_found head (after (pragma_words head) bytes) (head_in heads bytes) refl (head_in_found heads) is

head_shorter : (head : Head) (b : ℕ) (bytes rest : List ℕ) → b ∷ bytes ≡ pragma_words head ++ rest → length rest ≤ length bytes
head_shorter version_line b bytes rest same = omega (arith, ap length same)
head_shorter stack_line b bytes rest same = omega (arith, ap length same)
head_shorter place_line b bytes rest same = omega (arith, ap length same)
head_shorter depth_line b bytes rest same = omega (arith, ap length same)

-- a pragma after the version line has only its words before its numbers
record IsNumbered (head : Head) : Type 0 where
  words : pragma_words head ≡ head_bytes head
  numbers : (ns : List ℕ) → list_all (λ n. nat_le n 4294967295) ns ≡ true → are_pragma_numbers head ns ≡ true

numbered : (head : Head) → is_no_version (Pragma head) ≡ true → IsNumbered head
numbered version_line good = absurd cc
numbered stack_line good = record { words = refl; numbers = λ ns small. small }
numbered place_line good = record { words = refl; numbers = λ ns small. small }
numbered depth_line good = record { words = refl; numbers = λ ns small. small }

pub line_ends : (head : Head) (rest : List ℕ) → is_line_end rest ≡ true → ends_before (Pragma head) rest ≡ true
line_ends head [] ended = refl
line_ends head (b ∷ rest) ended = ended

pragma_lexes : (head : Head) {line : ℕ} {bytes rest : List ℕ} {tokens later : List Placed} → is_no_version (Pragma head) ≡ true → bytes ≡ pragma_words head ++ rest →
    InPragma line rest later → tokens ≡ placed line (Pragma head) ∷ later → Lexes true line bytes tokens
pragma_lexes head {line} {bytes} {rest} good same after_head tokens_are =
    let form = numbered head good in
    let numbers = after_head.numbers in
    let spelled = flat_map (λ n. 32 ∷ decimal n) numbers in
    pragma head numbers after_head.rest (form.numbers numbers after_head.small) (line_ends head after_head.rest after_head.ended)
    (same ∙ ap (λ x. x ++ rest) form.words ∙ ap (λ x. head_bytes head ++ x) after_head.same ∙ sym (append_assoc (head_bytes head) spelled after_head.rest))
    after_head.lexed (tokens_are ∙ ap (λ ts. placed line (Pragma head) ∷ ts) after_head.tokens_are)

module _ (line b : ℕ) (bytes : List ℕ) (found : FoundHead) (same_bytes : b ∷ bytes ≡ pragma_words found.head ++ found.rest) where
  head_joins : (others : List Piece) (tokens : List Placed) →
      ((later : List Placed) → others ≡ pieces_with later → no_version later ≡ true → true ≡ true → InPragma line found.rest later) →
      piece line (Some (Pragma found.head)) ∷ others ≡ pieces_with tokens → no_version tokens ≡ true → Lexes true line (b ∷ bytes) tokens
  head_joins others tokens goes same good =
      let first = first_of_tokens line (Some (Pragma found.head)) others tokens same good in
      let is : Pragma found.head ≡ first.token = token_same _ _ first.is in
      pragma_lexes found.head (ap is_no_version is ∙ first.allowed) same_bytes (goes first.later first.after first.others_allowed refl)
      (first.same ∙ ap (λ t. placed line t ∷ first.later) (sym is))
    where
      token_same : (s t : Token) → Some s ≡ Some t → s ≡ t
      token_same s t is = cc

  stray_cut : (spot : Spot) → IsGoodCut spot line b bytes (cut (piece line (Some stray) ∷ []) in_line line found.rest)
  stray_cut spot = record {
    shorter = head_shorter found.head b bytes found.rest same_bytes;
    joins = λ others tokens goes same good more. absurd (no_stray line others tokens same good);
  }

  head_cut : (spot : Spot) → IsGoodCut spot line b bytes (cut_head spot line found)
  head_cut line_start = record {
    shorter = head_shorter found.head b bytes found.rest same_bytes;
    joins = λ others tokens goes same good more. head_joins others tokens goes same good;
  }
  head_cut in_line = stray_cut in_line
  head_cut in_pragma = stray_cut in_pragma
  head_cut in_blanks = stray_cut in_blanks

-- Each cut.

module _ (spot : Spot) (line b : ℕ) (bytes : List ℕ) where
  mark_spelled : (mark rest : List ℕ) → is_mark mark ≡ true → ends_before (Mark mark) rest ≡ true → (read : Token) → Some (Mark mark) ≡ Some read → Spells mark read × (ends_before read rest ≡ true)
  mark_spelled mark rest is ended read found =
      let same : Mark mark ≡ read = cc in subst (λ t. Spells mark t × (ends_before t rest ≡ true)) same ((refl, is), ended)

  mark_cut : IsGoodCut spot line b bytes (cut_mark spot line b bytes)
  mark_cut =
      let mark = first_mark b bytes in
      let rest = drop (length mark) (b ∷ bytes) in
      let first = first_mark_is b bytes in
      if-cases (IsGoodCut spot line b bytes) (is_mark mark)
      (λ is. token_cut spot line b bytes (Some (Mark mark)) mark rest (mark_spelled mark rest is first.ended) first.same (first_mark_shorter b bytes))
      (λ _. option-cases (head_of (b ∷ bytes)) (λ o. IsGoodCut spot line b bytes (elim o [ Some found ↦ cut_head spot line found | None ↦ cut (piece line None ∷ []) in_line line bytes ]))
      (λ found is. head_cut line b bytes found (head_in_found (b ∷ bytes) found (version_line ∷ stack_line ∷ place_line ∷ depth_line ∷ []) is) spot)
      (λ _. record { shorter = omega arith; joins = λ others tokens goes same good more. absurd (no_none line others tokens same good) }))

  first_good : IsGoodCut spot line b bytes (first_cut spot line b bytes)
  first_good =
      if-cases (IsGoodCut spot line b bytes) (b == 10) (λ is. feed_cut line bytes spot b (eqb-true b 10 is))
      (λ _. if-cases (IsGoodCut spot line b bytes) (has_number spot b bytes) (λ has. number_cut line bytes spot b has)
      (λ _. if-cases (IsGoodCut spot line b bytes) (is_blank b) (λ is. blank_cut spot line b bytes is)
      (λ _. if-cases (IsGoodCut spot line b bytes) (is_word_byte b) (λ is. word_cut spot line b bytes is) (λ _. mark_cut))))

no_bytes_at : (spot : Spot) (line : ℕ) (tokens : List Placed) → has_more spot [] ≡ true → [] ≡ pieces_with tokens → IsAt spot line [] tokens
no_bytes_at line_start line [] more same = ends
no_bytes_at in_line line [] more same = ends
no_bytes_at in_pragma line [] more same = record { numbers = []; rest = []; later = []; same = refl; small = refl; ended = refl; tokens_are = refl; lexed = ends }
no_bytes_at in_blanks line [] more same = absurd cc
no_bytes_at spot line (t ∷ tokens) more same = absurd cc

-- bytes whose pieces are tokens are these tokens
pub cuts_lex : (more : ℕ) (spot : Spot) (line : ℕ) (bytes : List ℕ) (tokens : List Placed) → length bytes ≤ more → has_more spot bytes ≡ true →
    pieces_from more spot line bytes ≡ pieces_with tokens → no_version tokens ≡ true → IsAt spot line bytes tokens
cuts_lex zero spot line [] tokens enough some same good = no_bytes_at spot line tokens some same
cuts_lex zero spot line (b ∷ bytes) tokens enough some same good = absurd (omega arith)
cuts_lex (suc more) spot line [] tokens enough some same good = no_bytes_at spot line tokens some same
cuts_lex (suc more) spot line (b ∷ bytes) tokens enough some same good =
    let first = first_cut spot line b bytes in
    let is = first_good spot line b bytes in
    let fits : length first.rest ≤ more = omega (arith, is.shorter, enough) in
    is.joins (pieces_from more first.spot first.line first.rest) tokens (λ later after allowed still. cuts_lex more first.spot first.line first.rest later fits still after allowed) same good some
