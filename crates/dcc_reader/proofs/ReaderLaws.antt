-- Laws of readers.
use Rattle.std.proofs.Common.{◌≡◌, ℕ, suc, ◌+◌, List, [], ◌∷◌, length, take, drop, refl, ap, ◌∙◌, add-one, Option, Some, None, true}
use Rattle.std.specs.Prelude.{is_some, option_map}
use Rattle.dcc_c.specs.declared.syntax.Base.{Base}
use Rattle.dcc_c.specs.declared.syntax.CType.{CType}
use Rattle.dcc_c.specs.Kinds as kinds
use Rattle.dcc_c.specs.Pieces as pieces
use Rattle.dcc_c.specs.Reading as reading
use Rattle.dcc_lex.specs.PiecesViews.{pieces_of}
use Rattle.dcc_reader.specs.OffenceViews.{offence_of}
use Rattle.dcc_reader.specs.ReaderViews.{reader_of}
use Rattle.dcc_reader.specs.declared.reader.Reader.{Reader}

one_taken : (left : List pieces.Piece) → is_some (reading.first_token left) ≡ true → length (take 1 left) ≡ 1
one_taken [] seen = absurd cc
one_taken (p ∷ left) seen = refl

abbrev follower : List pieces.Piece → ℕ → Option kinds.Offence → ℕ → reading.Reader
follower left at stop depth = record { left = left; at = at; stop = stop; depth = depth }

-- the reader after the next piece
pub after_next : (r s : Reader) → is_some (reading.next_token (reader_of r)) ≡ true → pieces_of s.left ≡ drop 1 (pieces_of r.left) →
    s.left.at ≡ r.left.at + length (take 1 (pieces_of r.left)) → s.stop ≡ r.stop → s.depth ≡ r.depth → reader_of s ≡ reading.skip (reader_of r)
after_next r s seen left at stop depth =
    let next : s.left.at ≡ suc r.left.at = at ∙ ap (λ n. r.left.at + n) (one_taken (pieces_of r.left) (first_seen (reader_of r) seen)) ∙ add-one r.left.at in
    ap (λ l. follower l s.left.at (option_map offence_of s.stop) s.depth) left
    ∙ ap (λ n. follower (drop 1 (pieces_of r.left)) n (option_map offence_of s.stop) s.depth) next
    ∙ ap (λ o. follower (drop 1 (pieces_of r.left)) (suc r.left.at) (option_map offence_of o) s.depth) stop
    ∙ ap (follower (drop 1 (pieces_of r.left)) (suc r.left.at) (option_map offence_of r.stop)) depth
  where
    seen_at : (left : _) (at : ℕ) (stop : _) (depth : ℕ) → is_some (reading.next_token (record { left = left; at = at; stop = stop; depth = depth })) ≡ true →
        is_some (reading.first_token left) ≡ true
    seen_at left at (Some o) depth seen = absurd cc
    seen_at left at None depth seen = seen

    first_seen : (r : reading.Reader) → is_some (reading.next_token r) ≡ true → is_some (reading.first_token r.left) ≡ true
    first_seen r seen = seen_at r.left r.at r.stop r.depth seen

-- what a type is read from
abbrev pub type_after : reading.Got (Option Base) → reading.Got (Option CType)
type_after base = elim base.value [ Some b ↦ reading.with_star b base.following | None ↦ reading.got None base.following ]
