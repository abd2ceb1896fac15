-- Pieces that ascend, joined one after another: what is joined so far are the extents of the pieces so far.
use Rattle.std.proofs.Common.{◌≡◌, ◌⊎◌, inl, inr, ◌<◌, ℕ, ◌+◌, ℤ, pos, ◌+ℤ◌, ◌≤ℤ◌, ◌<ℤ◌, Bool, true, false, List, [], ◌∷◌, ◌++◌, take, length, get_or, AllPairs, Contains, Option, Some, None, refl, sym, ap, ◌∙◌, subst, arith}
use Rattle.std.specs.Prelude.{int_lt, if◌then◌else◌}
use Rattle.std.specs.Int.{int_max}
use Rattle.std.proofs.lemmas.Int.{ints, clamps, by_lt_z}
use Rattle.std.proofs.lemmas.List.{get_or_append_left, get_or_push, get_or_default, get_or-take, length-take-le, take_more, length_push}
use Rattle.std.proofs.lemmas.List.Elements.{Contains-get_or, Contains-append_left, Contains-push, Contains-push_cases}
use Rattle.std.proofs.lemmas.List.Quantifiers.{all_pairs_push}
use Rattle.dcc_frames.specs.declared.bytes.Bytes.{Bytes}
use Rattle.dcc_frames.specs.declared.bytes.Piece.{Piece}
use Rattle.dcc_frames.proofs.Flat.{none-in}
use Rattle.dcc_frames.specs.Extents.{IsCrossedIn, IsExtentIn, LiesIn, IsHeld, HasUserIn, AreExtents, AreAscending, user_of, extent_with, with_last, joined_to}

-- Lists.

module _ {A : Type 0} (R : A → A → Type 0) (xs : List A) (y : A) (pairs : AllPairs R (xs ++ y ∷ [])) where
  pub pairs-front : AllPairs R xs
  pairs-front i j d less inside =
      let long = length_push xs y in
      subst (λ b. R (get_or xs i d) b) (get_or_append_left xs (y ∷ []) d j inside)
      (subst (λ a. R a (get_or (xs ++ y ∷ []) j d)) (get_or_append_left xs (y ∷ []) d i (omega (arith, less, inside)))
      (pairs i j d less (omega (arith, inside, long))))

  pub pairs-last : (x : A) → Contains xs x → R x y
  pairs-last x among =
      let long = length_push xs y in
      subst (λ b. R x b) (get_or_push xs y x (length xs) refl)
      (subst (λ a. R a (get_or (xs ++ y ∷ []) (length xs) x)) (get_or_append_left xs (y ∷ []) x among.0 among.1
      ∙ among.2)
      (pairs among.0 (length xs) x among.1 (omega (arith, long))))

-- One more piece, which begins no earlier than the others.

module _ (pieces : List Piece) (piece : Piece) (some : piece.bytes.first <ℤ piece.bytes.end) where
  more : List Piece
  more = pieces ++ piece ∷ []

  crossed-more : (offset : ℤ) → IsCrossedIn pieces offset → IsCrossedIn more offset
  unfolding more
  crossed-more offset c = record {
    piece = c.piece;
    among = Contains-append_left pieces (piece ∷ []) c.piece c.among;
    before = c.before;
    after = c.after;
  }

  -- what is crossed then was crossed before, or the piece crosses it
  crossed-cases :
      (offset : ℤ) (P : Type 0) → (IsCrossedIn pieces offset → P)
      → (piece.bytes.first <ℤ offset → offset <ℤ piece.bytes.end → P) → IsCrossedIn more offset → P
  unfolding more
  crossed-cases offset P old new c = elim (Contains-push_cases pieces piece c.piece c.among) [
    | inl among ↦ old (record { piece = c.piece; among = among; before = c.before; after = c.after })
    | inr same ↦
        new (subst (λ (p : Piece). p.bytes.first <ℤ offset) (sym same) c.before)
        (subst (λ (p : Piece). offset <ℤ p.bytes.end) (sym same) c.after)
  ]

  -- an extent that ends before the piece stays one
  extent-kept : (extent : Bytes) → IsExtentIn pieces extent → extent.end ≤ℤ piece.bytes.first → IsExtentIn more extent
  unfolding more
  extent-kept extent is before = record {
    piece = is.piece;
    among = Contains-append_left pieces (piece ∷ []) is.piece is.among;
    begins = is.begins;
    ends = is.ends;
    joined = λ offset low high. crossed-more offset (is.joined offset low high);
    apart_before =
        crossed-cases extent.first ⊥ is.apart_before
        (λ low high. let ends = is.ends in absurd (omega (arith, ints, low, ends, before)));
    apart_after = crossed-cases extent.end ⊥ is.apart_after (λ low high. absurd (omega (arith, ints, low, before)));
  }

  held-more : (extents after : List Piece) → ((extent : Piece) → Contains extents extent → Contains after extent)
      → (other : Piece)
      → IsHeld extents other → IsHeld after other
  held-more extents after kept other h = record {
    extent = h.extent;
    among = kept h.extent h.among;
    lies = h.lies;
    user
        = h.user;
  }

  user-more : (extent : Bytes) (at : ℕ) → HasUserIn pieces extent at → HasUserIn more extent at
  unfolding more
  user-more extent at u = record {
    piece = u.piece;
    among = Contains-append_left pieces (piece ∷ []) u.piece u.among;
    lies = u.lies;
    user_is = u.user_is;
  }

  -- The piece begins an extent: the others end before it.
  module _ (extents : List Piece) (are : AreExtents pieces extents)
      (ended : (other : Piece) → Contains pieces other → other.bytes.end ≤ℤ piece.bytes.first)
      (apart : (extent : Piece) → Contains extents extent → extent.bytes.end ≤ℤ piece.bytes.first) where
    is-new : IsExtentIn more piece.bytes
    unfolding more
    is-new = record {
      piece = piece;
      among = Contains-push pieces piece;
      begins = refl;
      ends = some;
      joined = λ offset low high. record {
        piece = piece;
        among = Contains-push pieces piece;
        before = low;
        after =
            high;
      };
      apart_before =
          crossed-cases piece.bytes.first ⊥
          (λ c. let le = ended c.piece c.among in let after = c.after in absurd (omega (arith, ints, le, after)))
          (λ low high. absurd (omega (arith, ints, low)));
      apart_after =
          crossed-cases piece.bytes.end ⊥
          (λ c. let le = ended c.piece c.among in let after = c.after in absurd (omega (arith, ints, le, after, some)))
          (λ low high. absurd (omega (arith, ints, high)));
    }

    pub extents-begun : AreExtents (pieces ++ piece ∷ []) (extents ++ piece ∷ [])
    unfolding more
    extents-begun = record {
      each = λ extent among. elim (Contains-push_cases extents piece extent among) [
        | inl old ↦ extent-kept extent.bytes (are.each extent old) (apart extent old)
        | inr same ↦ subst (λ (p : Piece). IsExtentIn (pieces ++ piece ∷ []) p.bytes) same is-new
      ];
      ascending =
          all_pairs_push (λ (a b : Piece). a.bytes.end ≤ℤ b.bytes.first) extents piece are.ascending
          (λ k d inside. apart (get_or extents k d) (Contains-get_or extents k d inside));
      every = λ other among. elim (Contains-push_cases pieces piece other among) [
        | inl old ↦
            held-more extents (extents ++ piece ∷ []) (λ extent c. Contains-append_left extents (piece
            ∷ []) extent c) other
            (are.every other old)
        | inr same ↦ subst (IsHeld (extents ++ piece ∷ [])) same (record {
          extent = piece;
          among = Contains-push extents piece;
          lies = record { from = omega (arith, ints); to = omega (arith, ints) };
          user = λ at is. (at, is);
        })
      ];
      used = λ extent among at is. elim (Contains-push_cases extents piece extent among) [
        | inl old ↦ user-more extent.bytes at (are.used extent old at is)
        | inr same ↦ record {
          piece = piece;
          among = Contains-push pieces piece;
          lies = subst (λ (p : Piece). LiesIn piece.bytes p.bytes) same
              (record { from = omega (arith, ints); to = omega (arith, ints) });
          user_is = subst (λ (p : Piece). p.user ≡ Some at) (sym same) is;
        }
      ];
    }

  -- The piece overlaps the last extent, and begins no earlier.
  module _ (extents : List Piece) (last : Piece) (are : AreExtents pieces (extents ++ last ∷ []))
      (later : (other : Piece) → Contains pieces other → other.bytes.first ≤ℤ piece.bytes.first)
      (overlaps : piece.bytes.first <ℤ last.bytes.end) where
    last-extent : IsExtentIn pieces last.bytes
    last-extent = are.each last (Contains-push extents last)

    earlier : (extent : Piece) → Contains extents extent → extent.bytes.end ≤ℤ last.bytes.first
    earlier extent among = pairs-last (λ (a b : Piece). a.bytes.end ≤ℤ b.bytes.first) extents last are.ascending extent
        among

    begins-later : last.bytes.first ≤ℤ piece.bytes.first
    begins-later =
        let is = last-extent in
        let le = later is.piece is.among in
        let begins = is.begins in
        subst (λ first. first ≤ℤ piece.bytes.first) begins le

    -- every piece ends where the last extent does, or before
    within : (other : Piece) → Contains pieces other → other.bytes.end ≤ℤ last.bytes.end
    within other among =
        let held = are.every other among in
        let to = held.lies.to in
        elim (Contains-push_cases extents last held.extent held.among) [
          | inl old ↦
              (let before = earlier held.extent old in let ends = last-extent.ends in omega (
                arith,
                ints,
                to,
                before,
                ends,
              ))
          | inr same ↦ subst (λ (p : Piece). other.bytes.end ≤ℤ p.bytes.end) (sym same) to
        ]

    wide : Piece
    wide = extent_with last piece

    reach : ℤ
    reach = int_max last.bytes.end piece.bytes.end

    wide-extent : IsExtentIn more wide.bytes
    unfolding more wide reach
    wide-extent =
        let is = last-extent in
        record {
          piece = is.piece;
          among = Contains-append_left pieces (piece ∷ []) is.piece is.among;
          begins = is.begins;
          ends = let ends = is.ends in omega (arith, ints, clamps, ends);
          joined = λ offset low high.
              by_lt_z offset last.bytes.end (λ inner. crossed-more offset (is.joined offset low inner))
              (λ outer. record {
                piece = piece;
                among = Contains-push pieces piece;
                before = omega (arith, ints, overlaps, outer);
                after = omega (arith, ints, clamps, outer, high);
              });
          apart_before =
              crossed-cases last.bytes.first ⊥ is.apart_before
              (λ low high. let le = begins-later in absurd (omega (arith, ints, low, le)));
          apart_after =
              crossed-cases reach ⊥
              (λ c. let le = within c.piece c.among in let after = c.after in absurd
              (omega (arith, ints, clamps, le, after)))
              (λ low high. absurd (omega (arith, ints, clamps, high)));
        }

    -- what lies in the last extent lies in the wide one
    lies-wider : (bytes : Bytes) → LiesIn bytes last.bytes → LiesIn bytes wide.bytes
    unfolding wide
    lies-wider bytes l = record { from = l.from; to = let to = l.to in omega (arith, ints, clamps, to) }

    piece-lies : LiesIn piece.bytes wide.bytes
    unfolding wide
    piece-lies = record { from = begins-later; to = omega (arith, ints, clamps) }

    first-user : (a b : Option ℕ) (at : ℕ) → a ≡ Some at → (other : ℕ) × (user_of a b ≡ Some other)
    first-user a b at is = (at, ap (λ u. user_of u b) is)

    second-user : (a b : Option ℕ) (at : ℕ) → b ≡ Some at → (other : ℕ) × (user_of a b ≡ Some other)
    second-user None b at is = (at, is)
    second-user (Some other) b at is = (other, refl)

    user-cases : (a b : Option ℕ) (at : ℕ) → user_of a b ≡ Some at → (a ≡ Some at) ⊎ (b ≡ Some at)
    user-cases None b at is = inr is
    user-cases (Some other) b at is = inl is

    wide-user : (at : ℕ) → wide.user ≡ Some at → HasUserIn more wide.bytes at
    unfolding more wide
    wide-user at is = elim (user-cases last.user piece.user at is) [
      | inl old ↦
          (let u = are.used last (Contains-push extents last) at old in
          record {
            piece = u.piece;
            among = Contains-append_left pieces (piece ∷ []) u.piece u.among;
            lies = lies-wider u.piece.bytes u.lies;
            user_is = u.user_is;
          })
      | inr new ↦ record { piece = piece; among = Contains-push pieces piece; lies = piece-lies; user_is = new }
    ]

    held-wider : (other : Piece) → IsHeld (extents ++ last ∷ []) other → IsHeld (extents ++ wide ∷ []) other
    unfolding wide
    held-wider other h = elim (Contains-push_cases extents last h.extent h.among) [
      | inl old ↦ record {
        extent = h.extent;
        among = Contains-append_left extents (wide ∷ []) h.extent old;
        lies = h.lies;
        user = h.user;
      }
      | inr same ↦
          (let lies : LiesIn other.bytes last.bytes = subst (λ (p : Piece). LiesIn other.bytes p.bytes)
          (sym same) h.lies in
          record {
            extent = wide;
            among = Contains-push extents wide;
            lies = lies-wider other.bytes lies;
            user = λ at is.
                (let u = h.user at is in
                first-user last.user piece.user u.0 (subst (λ (p : Piece). p.user ≡ Some u.0) (sym same) u.1));
          })
    ]

    pub extents-widened : AreExtents (pieces ++ piece ∷ []) (extents ++ extent_with last piece ∷ [])
    unfolding more wide
    extents-widened = record {
      each = λ extent among. elim (Contains-push_cases extents wide extent among) [
        | inl old ↦
            extent-kept extent.bytes (are.each extent (Contains-append_left extents (last ∷ []) extent old))
            (let before = earlier extent old in let le = begins-later in omega (arith, ints, before, le))
        | inr same ↦ subst (λ (p : Piece). IsExtentIn (pieces ++ piece ∷ []) p.bytes) same wide-extent
      ];
      ascending =
          all_pairs_push (λ (a b : Piece). a.bytes.end ≤ℤ b.bytes.first) extents wide
          (pairs-front (λ (a b : Piece). a.bytes.end ≤ℤ b.bytes.first) extents last are.ascending)
          (λ k d inside. earlier (get_or extents k d) (Contains-get_or extents k d inside));
      every = λ other among. elim (Contains-push_cases pieces piece other among) [
        | inl old ↦ held-wider other (are.every other old)
        | inr same ↦ subst (IsHeld (extents ++ wide ∷ [])) same (record {
          extent = wide;
          among = Contains-push extents wide;
          lies = piece-lies;
          user = λ at is. second-user last.user piece.user at is;
        })
      ];
      used = λ extent among at is. elim (Contains-push_cases extents wide extent among) [
        | inl old ↦ user-more extent.bytes at (are.used extent (Contains-append_left extents (last
            ∷ []) extent old) at is)
        | inr same ↦
            subst (λ (p : Piece). HasUserIn (pieces ++ piece ∷ []) p.bytes at) same
            (wide-user at (subst (λ (p : Piece). p.user ≡ Some at) (sym same) is))
      ];
    }

-- One after another.

pub extents-none : AreExtents [] []
extents-none = record {
  each = λ extent among. absurd (none-in extent among);
  ascending = λ i j d less inside. absurd (omega (arith, inside));
  every = λ piece among. absurd (none-in piece among);
  used = λ extent among at is. absurd (none-in extent among);
}

module _ (pieces : List Piece) (piece : Piece) (some : piece.bytes.first <ℤ piece.bytes.end)
    (later : (other : Piece) → Contains pieces other → other.bytes.first ≤ℤ piece.bytes.first) where
  no-pieces : AreExtents pieces [] → (other : Piece) → ¬ Contains pieces other
  no-pieces are other among = let held = are.every other among in none-in held.extent held.among

  by-overlap :
      (extents : List Piece) (last : Piece) → AreExtents pieces (extents ++ last ∷ []) → (b : Bool)
      → int_lt piece.bytes.first last.bytes.end ≡ b
      → AreExtents (pieces ++ piece ∷ []) (joined_to extents (Some last) piece)
  by-overlap extents last are true is =
      subst (λ b. AreExtents (pieces ++ piece ∷ [])
      (if b then extents ++ extent_with last piece ∷ [] else (extents ++ last ∷ []) ++ piece ∷ [])) (sym is)
      (extents-widened pieces piece some extents last are later (grind (arith, ints, is)))
  by-overlap extents last are false is =
      let past : last.bytes.end ≤ℤ piece.bytes.first = grind (arith, ints, is) in
      let ends : (extent : Piece) → Contains (extents ++ last ∷ []) extent
      → extent.bytes.end ≤ℤ piece.bytes.first = λ extent among.
      elim (Contains-push_cases extents last extent among) [
        | inl old ↦
            (let before = pairs-last (λ (a b : Piece). a.bytes.end ≤ℤ b.bytes.first) extents last are.ascending extent
            old in
            let wide = (are.each last (Contains-push extents last)).ends in
            omega (arith, ints, before, wide, past))
        | inr same ↦ subst (λ (p : Piece). p.bytes.end ≤ℤ piece.bytes.first) same past
      ] in
      subst (λ b. AreExtents (pieces ++ piece ∷ [])
      (if b then extents ++ extent_with last piece ∷ [] else (extents ++ last ∷ []) ++ piece ∷ [])) (sym is)
      (extents-begun pieces piece some (extents ++ last ∷ []) are (λ other among.
      (let held = are.every other among in
      let end = ends held.extent held.among in
      let to = held.lies.to in
      omega (arith, ints, end, to))) ends)

  pub extents-joined :
      (extents : List Piece) (last : Option Piece) → (last ≡ None → extents ≡ [])
      → AreExtents pieces (with_last extents last)
      → AreExtents (pieces ++ piece ∷ []) (joined_to extents last piece)
  extents-joined extents None none are =
      let is = none refl in
      subst (λ l. AreExtents (pieces ++ piece ∷ []) (l ++ piece ∷ [])) (sym is)
      (let empty : AreExtents pieces [] = subst (AreExtents pieces) is are in
      extents-begun pieces piece some [] empty (λ other among. absurd (no-pieces empty other among))
      (λ extent among. absurd (none-in extent among)))
  extents-joined extents (Some last) none are = by-overlap extents last are (int_lt piece.bytes.first last.bytes.end)
      refl

-- the next of pieces that ascend
module _ (pieces : List Piece) (asc : AreAscending pieces) (i : ℕ) (d : Piece) (inside : i < length pieces) where
  later-than : (other : Piece) → Contains (take i pieces) other → other.bytes.first ≤ℤ (get_or pieces i d).bytes.first
  later-than other among =
      let k = among.0 in
      let short = length-take-le i pieces (omega (arith, inside)) in
      let less : k < i = (let in_front = among.1 in omega (arith, short, in_front)) in
      let read : get_or pieces k other ≡ other = sym (get_or-take i pieces k other less) ∙ among.2 in
      subst (λ (p : Piece). other.bytes.first ≤ℤ p.bytes.first) (get_or_default pieces i other d inside)
      (subst (λ (p : Piece). p.bytes.first ≤ℤ (get_or pieces i other).bytes.first) read
      (asc.order k i other less inside))

  pub extents-more :
      (extents : List Piece) (last : Option Piece) → (last ≡ None → extents ≡ [])
      → AreExtents (take i pieces) (with_last extents last)
      → AreExtents (take (i + 1) pieces) (joined_to extents last (get_or pieces i d))
  extents-more extents last none are =
      subst (λ l. AreExtents l (joined_to extents last (get_or pieces i d))) (sym (take_more pieces i d inside))
      (extents-joined (take i pieces) (get_or pieces i d) (asc.some i d inside) later-than extents last none are)

-- one of the extents has these bytes
pub record IsAmong (extents : List Piece) (bytes : Bytes) : Type 0 where
  pub extent : Piece
  pub among : Contains extents extent
  pub bytes_are : extent.bytes ≡ bytes

same-bytes : (a b : Bytes) → a.first ≡ b.first → a.end ≡ b.end → a ≡ b
same-bytes a b first end = λ j. record { first = first j; end = end j }

-- two extents with bytes in common are one
pub one-extent :
    (pieces : List Piece) (a b common : Bytes) → IsExtentIn pieces a → IsExtentIn pieces b → common.first <ℤ common.end
    → LiesIn common a → LiesIn common b → a ≡ b
one-extent pieces a b common r s some in_a in_b =
    let from_a = in_a.from in
    let to_a = in_a.to in
    let from_b = in_b.from in
    let to_b = in_b.to in
    let ends_a = r.ends in
    let ends_b = s.ends in
    let no_later : a.first ≤ℤ b.first =
    by_lt_z b.first a.first
    (λ less. absurd (r.apart_before (s.joined a.first less (omega (arith, ints, from_a, some, to_b)))))
    (λ le. le) in
    let no_earlier : b.first ≤ℤ a.first =
    by_lt_z a.first b.first
    (λ less. absurd (s.apart_before (r.joined b.first less (omega (arith, ints, from_b, some, to_a)))))
    (λ le. le) in
    let first : a.first ≡ b.first = omega (arith, ints, no_later, no_earlier) in
    let no_shorter : b.end ≤ℤ a.end =
    by_lt_z a.end b.end (λ less. absurd (r.apart_after (s.joined a.end (omega (arith, ints, ends_a, first)) less)))
    (λ le. le) in
    let no_longer : a.end ≤ℤ b.end =
    by_lt_z b.end a.end (λ less. absurd (s.apart_after (r.joined b.end (omega (arith, ints, ends_b, first)) less)))
    (λ le. le) in
    same-bytes a b first (omega (arith, ints, no_shorter, no_longer))

-- each extent of the pieces is among those that are joined
pub extent-among :
    (pieces extents : List Piece) → AreExtents pieces extents
    → ((piece : Piece) → Contains pieces piece → piece.bytes.first <ℤ piece.bytes.end)
    → (bytes : Bytes) → IsExtentIn pieces bytes → IsAmong extents bytes
extent-among pieces extents are some bytes is =
    let held = are.every is.piece is.among in
    let byte : Bytes = record { first = bytes.first; end = bytes.first +ℤ pos 1 } in
    let from = held.lies.from in
    let to = held.lies.to in
    let has_bytes = some is.piece is.among in
    let begins = is.begins in
    let ends = is.ends in
    record {
      extent = held.extent;
      among = held.among;
      bytes_are =
          one-extent pieces held.extent.bytes bytes byte (are.each held.extent held.among) is (omega (arith, ints))
          (record { from = omega (arith, ints, from, begins); to = omega (arith, ints, begins, has_bytes, to) })
          (record { from = omega (arith, ints); to = omega (arith, ints, ends) });
    }
