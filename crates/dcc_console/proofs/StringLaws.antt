-- Strings that are found and written in pieces.
use Rattle.std.proofs.Common.{◌≡◌, ℕ, ◌+◌, ◌-◌, ◌<◌, ◌≤◌, inl, inr, not, true, false, List, ◌++◌, length, get_or, take, drop, sym, ap, ◌∙◌, arith, subst, take-append-drop, length-drop}
use Rattle.std.proofs.Math.Seq.{take-add}
use Rattle.std.proofs.lemmas.List.{get_or-take, get_or-drop, length-take-le}
use Rattle.std.proofs.lemmas.List.FromFn.{get_or-map-range_with_len, length-map-range_with_len}
use Rattle.std.proofs.lemmas.List.Sums.{prefix_len_is, prefix_len-le-length}
use Rattle.std.proofs.lemmas.Grind.{same_number_lists}
use Rattle.std.proofs.lemmas.Bool.{cases_lt}
use Rattle.std.proofs.lemmas.Bool.Decides.{nat_tests}
use Rattle.std.specs.List.{prefix_len}
use Rattle.std.specs.Prelude.{Option, Some, None}
use Rattle.memchr.specs.Find.{IsFirstByte, is_byte}
use Rattle.dcc_io.specs.Told.{append_told, AppendsProperPrefix}
use Rattle.dcc_io.proofs.ToldLemmas.{append_told-append, AppendsProperPrefix-after, AppendsProperPrefix-longer}
use Rattle.dcc_console.specs.Strings.{byte_in, is_no_end, string_room, string_in}

-- whether a byte ends a string
pub other_byte : (byte : ℕ) → (byte ≡ 0x24 → ⊥) → is_no_end byte ≡ true
other_byte byte other = grind (arith, nat_tests)

module _ (memory : List ℕ) (segment start : ℕ) where
  length-room : length (string_room memory segment start) ≡ 65536
  unfolding string_room
  length-room = length-map-range_with_len (λ k. byte_in memory segment (start + k)) 0 65536

  get_or-room : (k : ℕ) → k < 65536 → get_or (string_room memory segment start) k 0 ≡ byte_in memory segment (start + k)
  unfolding string_room
  get_or-room k lt = get_or-map-range_with_len (λ k. byte_in memory segment (start + k)) 0 65536 k k 0 lt (omega arith)

  length-string : length (string_in memory segment start) ≡ prefix_len is_no_end (string_room memory segment start)
  unfolding string_in
  length-string = length-take-le _ (string_room memory segment start) (prefix_len-le-length is_no_end (string_room memory segment start))

  get_or-string : (k : ℕ) → k < length (string_in memory segment start) → get_or (string_in memory segment start) k 0 ≡ byte_in memory segment (start + k)
  unfolding string_in
  get_or-string k lt =
      let le = prefix_len-le-length is_no_end (string_room memory segment start) in
      get_or-take _ (string_room memory segment start) k 0 (omega (arith, length-string)) ∙ get_or-room k (omega (arith, length-string, length-room))

  -- none of the first k bytes ends the string
  abbrev pub NoneEnds : ℕ → Type 0
  NoneEnds k = (j : ℕ) → j < k → is_no_end (byte_in memory segment (start + j)) ≡ true

  -- the string's length is known by the first byte that ends it
  pub length-string-is : (k : ℕ) → k ≤ 65536 → NoneEnds k
      → (k < 65536 → is_no_end (byte_in memory segment (start + k)) ≡ false) → k ≡ length (string_in memory segment start)
  length-string-is k le none ends =
      let all = length-room in
      sym (length-string
      ∙ prefix_len_is is_no_end (string_room memory segment start) k 0 (omega arith)
      (λ j lt. ap is_no_end (get_or-room j (omega arith)) ∙ none j lt)
      (λ lt. ap is_no_end (get_or-room k (omega arith)) ∙ ends (omega arith)))

  -- a piece of memory that stands behind the first k bytes
  abbrev pub Follows : ℕ → List ℕ → Type 0
  Follows k piece = (j : ℕ) → j < length piece → get_or piece j 0 ≡ byte_in memory segment (start + k + j)

  -- so many of its bytes end no string
  none_more : (k n : ℕ) → (piece : List ℕ) → n ≤ length piece → Follows k piece → ((j : ℕ) → j < n → is_no_end (get_or piece j 0) ≡ true)
      → NoneEnds k → NoneEnds (k + n)
  none_more k n piece le bytes others none j lt = elim (cases_lt j k) [
    | inl less ↦ none j less
    | inr more ↦
        let here = ap is_no_end (bytes (j - k) (omega arith)) in
        let at : start + k + (j - k) ≡ start + j = omega arith in
        ap (λ a. is_no_end (byte_in memory segment a)) (sym at) ∙ sym here ∙ others (j - k) (omega arith)
  ]

  -- a search of the piece that finds no end
  pub none_found : (k : ℕ) (piece : List ℕ) → Follows k piece → IsFirstByte (is_byte 0x24) piece None → NoneEnds k → NoneEnds (k + length piece)
  none_found k piece bytes found none =
      none_more k (length piece) piece (omega arith) bytes
      (λ j lt. other_byte (get_or piece j 0) (λ is. found j (omega arith) lt (ap (is_byte 0x24) is))) none

  -- a search of the piece that finds an end tells the string's length
  pub end_found : (k at : ℕ) (piece : List ℕ) → k + length piece ≤ 65536 → Follows k piece → IsFirstByte (is_byte 0x24) piece (Some at)
      → NoneEnds k → k + at ≡ length (string_in memory segment start)
  end_found k at piece within bytes found none =
      let first = found.0 in
      length-string-is (k + at) (omega (arith, first.high))
      (none_more k at piece (omega (arith, first.high)) bytes
      (λ j lt. other_byte (get_or piece j 0) (λ is. first.before j (omega arith) lt (ap (is_byte 0x24) is))) none)
      (λ lt. ap (λ a. is_no_end (byte_in memory segment a)) (omega arith) ∙ sym (ap is_no_end (bytes at first.high)) ∙ ap not found.1)

  -- a piece of memory is the part of the string that stands there
  pub piece_is : (k : ℕ) (piece : List ℕ) → k + length piece ≤ length (string_in memory segment start)
      → Follows k piece → piece ≡ take (length piece) (drop k (string_in memory segment start))
  piece_is k piece within bytes =
      let string = string_in memory segment start in
      let size : length (take (length piece) (drop k string)) ≡ length piece = length-take-le (length piece) (drop k string) (omega (arith, length-drop k string)) in
      same_number_lists piece (take (length piece) (drop k string)) (sym size)
      (λ j lt. bytes j lt ∙ sym (get_or-take (length piece) (drop k string) j 0 lt ∙ get_or-drop k string j 0 ∙ get_or-string (k + j) (omega arith)
      ∙ ap (byte_in memory segment) (omega arith)))

-- a piece is written behind those before it
pub piece_written : (first before now : Option (List ℕ)) (string piece : List ℕ) (k : ℕ) → before ≡ append_told first (take k string)
    → piece ≡ take (length piece) (drop k string) → now ≡ append_told before piece
    → now ≡ append_told first (take (k + length piece) string)
piece_written first before now string piece k so_far is wrote =
    wrote ∙ ap (λ (t : Option (List ℕ)). append_told t piece) so_far ∙ append_told-append first (take k string) piece
    ∙ ap (append_told first) (ap (λ xs. take k string ++ xs) is ∙ sym (take-add k (length piece) string))

-- a part of a piece is a part of the string
pub part_written : (first before now : Option (List ℕ)) (string piece : List ℕ) (k : ℕ) → before ≡ append_told first (take k string)
    → piece ≡ take (length piece) (drop k string) → AppendsProperPrefix before now piece
    → AppendsProperPrefix first now string
part_written first before now string piece k so_far is part =
    let up_to : take k string ++ piece ≡ take (k + length piece) string =
    ap (λ xs. take k string ++ xs) is ∙ sym (take-add k (length piece) string) in
    subst (AppendsProperPrefix first now)
    (ap (λ xs. xs ++ drop (k + length piece) string) up_to ∙ take-append-drop (k + length piece) string)
    (AppendsProperPrefix-longer first now (take k string ++ piece) (drop (k + length piece) string)
    (AppendsProperPrefix-after first before now (take k string) piece so_far part))
