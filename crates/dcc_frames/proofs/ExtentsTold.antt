-- The extents of the pieces are just those of the definitions.
use Rattle.std.proofs.Common.{◌≡◌, ℕ, ℤ, pos, ◌+ℤ◌, ◌≤ℤ◌, ◌<ℤ◌, true, List, All, AllPairs, Contains, Option, arith}
use Rattle.std.specs.List.Sorted.{IsPermutation}
use Rattle.std.proofs.lemmas.Int.{ints}
use Rattle.std.proofs.lemmas.List.Elements.{Contains-get_or}
use Rattle.std.proofs.lemmas.List.Sorted.{Contains-permutation, IsPermutation-sym}
use Rattle.dcc_num.specs.declared.Width.{Width}
use Rattle.dcc_num.specs.declared.Width.TheVariants.{Byte, Word}
use Rattle.dcc_machine.specs.declared.image.Image.{Image}
use Rattle.dcc_prog.specs.declared.procedure.Layout.{Layout}
use Rattle.dcc_machine.specs.Access.{bytes_in}
use Rattle.dcc_prog.specs.Frame.{Span, direct, offset_in_frame, pushed, popped, passed, IsUsed, moved, accessed, IsPiece, used, argument, IsCrossed, IsExtentOfPieces}
use Rattle.dcc_frames.specs.declared.bytes.Bytes.{Bytes}
use Rattle.dcc_frames.specs.declared.bytes.Piece.{Piece}
use Rattle.dcc_frames.specs.declared.steps.Step.{Step}
use Rattle.dcc_frames.specs.declared.body.Body.{Body}
use Rattle.dcc_frames.specs.Bytes.{as_span, as_bytes}
use Rattle.dcc_frames.specs.Inside.{has_words}
use Rattle.dcc_frames.specs.Pieces.{pieces_of}
use Rattle.dcc_frames.specs.Extents.{IsCrossedIn, IsExtentIn, AreExtents, AreAscending}
use Rattle.dcc_frames.specs.Body.{IsBody, HasCounts}
use Rattle.dcc_frames.proofs.PieceLaws.{piece-told, piece-tells}
use Rattle.dcc_frames.proofs.ExtentLaws.{IsAmong, extent-among}

-- a piece has bytes
access-some : (width : Width) (first : ℤ) → first <ℤ (first +ℤ pos (bytes_in width))
access-some Byte first = omega (arith, ints)
access-some Word first = omega (arith, ints)

pub used-some :
    (image : Image) (layout : Layout) (entry at : ℕ) (span : Span) → IsUsed image layout entry at span
    → span.first <ℤ span.end
used-some image layout entry at _ (moved (pushed stands unsaved has)) = omega (arith, ints)
used-some image layout entry at _ (moved (popped stands unsaved has)) = omega (arith, ints)
used-some image layout entry at _ (IsUsed.passed (passed stands has arguments less fits)) = omega (arith, ints)
used-some image layout entry at _ (accessed (direct {op} {width} {ea} framed stands operand no_index)) =
    access-some width (offset_in_frame ea)

pub piece-some :
    (image : Image) (layout : Layout) (entry : ℕ) (span : Span) → IsPiece image layout entry span
    → span.first <ℤ span.end
piece-some image layout entry span (used {at} node uses) = used-some image layout entry at span uses
piece-some image layout entry _ (argument arguments less) = omega (arith, ints)

module _ (image : Image) (layout : Layout) (body : Body) (is : IsBody image layout body) (counts : ℕ → Option ℕ)
    (has : HasCounts image layout counts)
    (enough : All (λ (step : Step). has_words counts body.framed step ≡ true) body.steps.items)
    (sorted : List Piece) (permuted : IsPermutation (pieces_of body counts) sorted) where
  pub in-sorted : (piece : Piece) → Contains (pieces_of body counts) piece → Contains sorted piece
  in-sorted piece among = Contains-permutation (pieces_of body counts) sorted piece permuted among

  pub from-sorted : (piece : Piece) → Contains sorted piece → Contains (pieces_of body counts) piece
  from-sorted piece among =
      Contains-permutation sorted (pieces_of body counts) piece
      (IsPermutation-sym (pieces_of body counts) sorted permuted) among

  pub sorted-tells : (piece : Piece) → Contains sorted piece → IsPiece image layout body.entry (as_span piece.bytes)
  sorted-tells piece among = piece-tells image layout body is counts has enough piece (from-sorted piece among)

  pub sorted-some : (piece : Piece) → Contains sorted piece → piece.bytes.first <ℤ piece.bytes.end
  sorted-some piece among = piece-some image layout body.entry (as_span piece.bytes) (sorted-tells piece among)

  pub sorted-ascend : AllPairs (λ (a b : Piece). a.bytes.first ≤ℤ b.bytes.first) sorted → AreAscending sorted
  sorted-ascend order = record {
    order = order;
    some = λ k d inside. sorted-some _ (Contains-get_or sorted k d inside);
  }

  crossed-told : (offset : ℤ) → IsCrossed image layout body.entry offset → IsCrossedIn sorted offset
  crossed-told offset c =
      let told = piece-told image layout body is counts has c.span c.piece in
      record {
        piece = record { bytes = as_bytes c.span; user = told.0 };
        among = in-sorted _ told.1;
        before = c.before;
        after = c.after;
      }

  crossed-tells : (offset : ℤ) → IsCrossedIn sorted offset → IsCrossed image layout body.entry offset
  crossed-tells offset c = record {
    span = as_span c.piece.bytes;
    piece = sorted-tells c.piece c.among;
    before = c.before;
    after = c.after;
  }

  pub extent-tells : (extent : Bytes) → IsExtentIn sorted extent
      → IsExtentOfPieces image layout body.entry (as_span extent)
  extent-tells extent r = record {
    span = as_span r.piece.bytes;
    piece = sorted-tells r.piece r.among;
    begins = r.begins;
    ends = r.ends;
    joined = λ offset low high. crossed-tells offset (r.joined offset low high);
    apart_before = λ c. r.apart_before (crossed-told extent.first c);
    apart_after = λ c. r.apart_after (crossed-told extent.end c);
  }

  extent-in : (span : Span) → IsExtentOfPieces image layout body.entry span → IsExtentIn sorted (as_bytes span)
  extent-in span r =
      let told = piece-told image layout body is counts has r.span r.piece in
      record {
        piece = record { bytes = as_bytes r.span; user = told.0 };
        among = in-sorted _ told.1;
        begins = r.begins;
        ends = r.ends;
        joined = λ offset low high. crossed-told offset (r.joined offset low high);
        apart_before = λ c. r.apart_before (crossed-tells span.first c);
        apart_after = λ c. r.apart_after (crossed-tells span.end c);
      }

  pub extent-told :
      (extents : List Piece) → AreExtents sorted extents → (span : Span) → IsExtentOfPieces image layout body.entry span
      → IsAmong extents (as_bytes span)
  extent-told extents are span r = extent-among sorted extents are sorted-some (as_bytes span) (extent-in span r)
