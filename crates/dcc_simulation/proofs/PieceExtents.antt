-- Pieces and their extents: a piece with a byte of an extent lies in it, two extents with a byte are one, and about
-- each piece there is an extent, as far as a refutation needs it.
use Rattle.std.proofs.Common.{◌≡◌, ℕ, zero, suc, ◌+◌, ℤ, pos, ◌+ℤ◌, ◌≤ℤ◌, ◌<ℤ◌, refl, ap₂, arith}
use Rattle.std.specs.Prelude.{neg_ℤ}
use Rattle.std.proofs.lemmas.Int.{ints, by_lt_z}
use Rattle.dcc_machine.specs.declared.image.Image.{Image}
use Rattle.dcc_prog.specs.declared.procedure.Layout.{Layout}
use Rattle.dcc_prog.specs.Frame.{Span, IsPiece, IsCrossed, IsExtentOfPieces}
use Rattle.dcc_stack.proofs.SlotPlaces.{Has}

-- the bytes lie in others
abbrev pub LiesIn : Span → Span → Type 0
LiesIn inner outer = (outer.first ≤ℤ inner.first) × (inner.end ≤ℤ outer.end)

module _ (image : Image) (layout : Layout) (entry : ℕ) where
  abbrev IsExtent : Span → Type 0
  IsExtent = IsExtentOfPieces image layout entry

  abbrev IsPieceHere : Span → Type 0
  IsPieceHere = IsPiece image layout entry

  abbrev Crossed : ℤ → Type 0
  Crossed = IsCrossed image layout entry

  pub piece-inside : (extent piece : Span) (k : ℤ) → IsExtent extent → IsPieceHere piece → Has extent k → Has piece k
      → LiesIn piece extent
  piece-inside extent piece k is a in_extent in_piece = (
    by_lt_z piece.first extent.first
        (λ before. absurd (is.apart_before (record {
          span = piece;
          piece = a;
          before = before;
          after = omega (arith, ints, in_extent.0, in_piece.1);
        }))) (λ le. le),
    by_lt_z extent.end piece.end
        (λ after. absurd (is.apart_after (record {
          span = piece;
          piece = a;
          before = omega (arith, ints, in_extent.1, in_piece.0);
          after = after;
        }))) (λ le. le),
  )

  -- two extents with a byte

  firsts : (extent other : Span) (k : ℤ) → IsExtent extent → IsExtent other → Has extent k → Has other k
      → other.first ≤ℤ extent.first
  firsts extent other k is is' here there =
      by_lt_z extent.first other.first
      (λ less. absurd (is'.apart_before (is.joined other.first less (omega (arith, ints, here.1, there.0))))) (λ le. le)

  ends : (extent other : Span) (k : ℤ) → IsExtent extent → IsExtent other → Has extent k → Has other k
      → other.end ≤ℤ extent.end
  ends extent other k is is' here there =
      by_lt_z extent.end other.end
      (λ less. absurd (is.apart_after (is'.joined extent.end (omega (arith, ints, here.1, there.0)) less))) (λ le. le)

  pub extents-same : (extent other : Span) (k : ℤ) → IsExtent extent → IsExtent other → Has extent k → Has other k
      → extent ≡ other
  extents-same extent other k is is' here there =
      let first : extent.first ≡ other.first =
      omega (arith, ints, firsts extent other k is is' here there, firsts other extent k is' is there here) in
      let end : extent.end ≡ other.end =
      omega (arith, ints, ends extent other k is is' here there, ends other extent k is' is there here) in
      ap₂ (λ a b. record { first = a; end = b }) first end

  -- The extent about a piece, where all pieces lie in bounds.
  module _ (most : ℕ) (low : (span : Span) → IsPieceHere span → neg_ℤ (pos 32768) ≤ℤ span.first)
      (high : (span : Span) → IsPieceHere span → span.end ≤ℤ pos most)
      (piece : Span) (is : IsPieceHere piece) (some : piece.first <ℤ piece.end) where
    -- an extent about the piece begins where a piece does
    abbrev Begins : Span → Type 0
    Begins start =
        IsPieceHere start × (start.first ≤ℤ piece.first)
        × ((offset : ℤ) → start.first <ℤ offset → offset ≤ℤ piece.first → Crossed offset)

    begins : (n : ℕ) (start : Span) → start.first ≤ℤ (neg_ℤ (pos 32768) +ℤ pos n) → Begins start
        → ((first : Span) → Begins first → ¬ Crossed first.first → ⊥) → ⊥
    begins zero start near is_start goal =
        goal start is_start (λ c.
        let least = low c.span c.piece in let before = c.before in omega (arith, ints, near, least, before))
    begins (suc n) start near is_start goal =
        goal start is_start (λ c.
        let before = c.before in
        begins n c.span (omega (arith, ints, near, before)) (
          c.piece,
          (omega (arith, ints, before, is_start.1)),
          λ offset from to. by_lt_z start.first offset (λ less. is_start.2 offset less to)
              (λ le. record {
                span = c.span;
                piece = c.piece;
                before = from;
                after = omega (arith, ints, le, c.after);
              }),
        ) goal)

    abbrev Ends : ℤ → Type 0
    Ends end =
        (piece.end ≤ℤ end) × ((offset : ℤ) → piece.end ≤ℤ offset → offset <ℤ end → Crossed offset)

    closes : (n : ℕ) (end : ℤ) → pos most ≤ℤ (end +ℤ pos n) → Ends end
        → ((last : ℤ) → Ends last → ¬ Crossed last → ⊥) → ⊥
    closes zero end far is_end goal =
        goal end is_end (λ c.
        let most' = high c.span c.piece in let after = c.after in omega (arith, ints, far, most', after))
    closes (suc n) end far is_end goal =
        goal end is_end (λ c.
        let after = c.after in
        closes n c.span.end (omega (arith, ints, far, after)) (
          (omega (arith, ints, after, is_end.0)),
          λ offset from to. by_lt_z offset end (λ less. is_end.1 offset from less)
              (λ le. record { span = c.span; piece = c.piece; before = omega (arith, ints, le, c.before); after = to }),
        ) goal)

    extent-from : (start : Span) (end : ℤ) → Begins start → Ends end → ¬ Crossed start.first → ¬ Crossed end
        → IsExtent (record { first = start.first; end = end })
    extent-from start end is_start is_end no_before no_after = record {
      span = start;
      piece = is_start.0;
      begins = refl;
      ends = omega (arith, ints, is_start.1, some, is_end.0);
      joined = λ offset from to. by_lt_z piece.first offset
          (λ within. by_lt_z offset piece.end
          (λ inside. record { span = piece; piece = is; before = within; after = inside })
          (λ le. is_end.1 offset le to))
          (λ le. is_start.2 offset from le);
      apart_before = no_before;
      apart_after = no_after;
    }

    pub extent-about : ((extent : Span) → IsExtent extent → LiesIn piece extent → ⊥) → ⊥
    extent-about goal =
        let least = low piece is in let greatest = high piece is in
        begins (most + 32768) piece (omega (arith, ints, some, greatest)) (
          is,
          (omega (arith, ints)),
          λ offset from to. absurd (omega (arith, ints, from, to)),
        ) (λ start is_start no_before.
        closes (most + 32768) piece.end (omega (arith, ints, some, least)) (
          (omega (arith, ints)),
          λ offset from to. absurd (omega (arith, ints, from, to)),
        ) (λ end is_end no_after.
        goal (record { first = start.first; end = end }) (extent-from start end is_start is_end no_before no_after)
        (is_start.1, is_end.0)))
