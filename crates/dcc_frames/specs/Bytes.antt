-- Bytes of a frame, by the offsets of the first one and after the last.
use Rattle.std.specs.Prelude.{ℤ, pos, neg_ℤ, ◌+ℤ◌, ◌≤ℤ◌, ◌<ℤ◌, int_le, Bool, ◌&&◌}
use Rattle.dcc_prog.specs.Frame.{Span}
use Rattle.dcc_frames.specs.declared.bytes.Bytes.{Bytes}

-- bytes as a span of the definitions, and a span as bytes
abbrev pub as_span : Bytes → Span
as_span bytes = record { first = bytes.first; end = bytes.end }

abbrev pub as_bytes : Span → Bytes
as_bytes span = record { first = span.first; end = span.end }

-- the bytes are at most two
abbrev pub is_small : Bytes → Bool
is_small bytes = int_le bytes.end (bytes.first +ℤ pos 2)

-- the bytes lie from one offset on and before another
abbrev pub is_between : Bytes → ℤ → ℤ → Bool
is_between bytes low high = int_le low bytes.first && int_le bytes.end high

-- bytes within what a displacement reaches; there is one at least
pub record IsReached (bytes : Bytes) : Type 0 where
  pub low : neg_ℤ (pos 32768) ≤ℤ bytes.first
  pub some : bytes.first <ℤ bytes.end
  pub high : bytes.end ≤ℤ pos 32769
