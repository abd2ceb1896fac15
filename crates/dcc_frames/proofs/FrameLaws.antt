-- The frame of one procedure is that of the definitions, and no construct stands in it.
use Rattle.std.proofs.Common.{◌≡◌, ◌≤◌, ◌<◌, ℕ, ℤ, pos, neg_ℤ, ◌-ℤ◌, ◌≤ℤ◌, ◌<ℤ◌, Bool, true, false, not, cond, ◌||◌, List, map, take, length, get_or, All, AllPairs, Contains, Option, Some, None, refl, sym, ap, ◌∙◌, subst, arith}
use Rattle.std.specs.List.Sorted.{IsPermutation}
use Rattle.std.proofs.lemmas.Int.{ints}
use Rattle.std.proofs.lemmas.List.{get_or-map, get_or-take, length-map, length-take-le}
use Rattle.std.proofs.lemmas.List.Elements.{All-contains, All-map, All-take, Contains-get_or}
use Rattle.dcc_machine.specs.declared.image.Image.{Image}
use Rattle.dcc_prog.specs.declared.procedure.Layout.{Layout}
use Rattle.dcc_prog.specs.declared.frame.Cell.{Cell}
use Rattle.dcc_prog.specs.declared.refusal.FrameFault.{FrameFault}
use Rattle.dcc_prog.specs.declared.refusal.FrameFault.TheVariants.{LongExtent}
use Rattle.dcc_prog.specs.Trail.{IsNode}
use Rattle.dcc_prog.specs.FrameForm.{is_framed}
use Rattle.dcc_prog.specs.Frame.{Span, IsDirectAccess, IsMovedWord, pushed, popped, IsPassedWord, passed, own_bytes, IsUsed, moved, accessed, IsPiece, used, argument, IsCell, IsLongExtent, IsExposureStart, by_instruction, by_extent, HasExposedLocal, HasExposedArguments, StartsExposure, LacksAddresses, HasBadAccess, access_outside, start_outside, no_addresses, long_without_addresses}
use Rattle.dcc_prog.specs.Frame as frame
use Rattle.dcc_prog.specs.Limit.{HasMany}
use Rattle.dcc_prog.specs.Analysed.{bytes_of}
use Rattle.dcc_prog.proofs.FrameLaws.{arguments-once}
use Rattle.dcc_prog.proofs.Counting as counting
use Rattle.dcc_frames.specs.declared.bytes.Bytes.{Bytes}
use Rattle.dcc_frames.specs.declared.bytes.Piece.{Piece}
use Rattle.dcc_frames.specs.declared.steps.Step.{Step}
use Rattle.dcc_frames.specs.declared.body.Body.{Body}
use Rattle.dcc_frames.specs.Bytes.{as_span, as_bytes, is_small}
use Rattle.dcc_frames.specs.Used.{start_of}
use Rattle.dcc_frames.specs.Inside.{byte_from, is_allowed, has_words}
use Rattle.dcc_frames.specs.Pieces.{pieces_of}
use Rattle.dcc_frames.specs.Extents.{LiesIn, AreExtents}
use Rattle.dcc_frames.specs.CellLists.{cell_of, cells_from, long_user}
use Rattle.dcc_frames.specs.Starts.{starts_of, IsNear, IsLocalBy, no_local, local, IsArgumentBy, no_argument, from_argument}
use Rattle.dcc_frames.specs.Ready.{lacks_addresses}
use Rattle.dcc_frames.specs.Body.{IsStep, IsBody, HasCounts}
use Rattle.dcc_frames.proofs.Told.{start-told, start-tells}
use Rattle.dcc_frames.proofs.StepLists.{at-node, is-step}
use Rattle.dcc_frames.proofs.PieceLaws.{used-told, used-tells}
use Rattle.dcc_frames.proofs.ExtentLaws.{one-extent}
use Rattle.dcc_frames.proofs.ExtentsTold.{used-some, in-sorted, from-sorted, sorted-tells, extent-tells, extent-told}
use Rattle.dcc_frames.proofs.FrameTold.{map-in, small-told, small-tells, long-told, long-tells, cell-bytes, HasExtent, cell-extent, extent-cell, cells-ascend, IsStart, of_step, of_extent, start-of-step, start-of-extent}
use Rattle.dcc_frames.proofs.FrameTold as told
use Rattle.dcc_frames.proofs.AccessTold.{LiesInside, in_arguments, in_locals, inside-told, lacks-told, lacks-tells, access-inside, start-inside, no-access-outside, no-start-outside, no-start-lacking}

-- what lies inside a frame lies near its base
near-inside :
    (args height : ℕ) (bytes : Bytes) → args ≤ 32 → height ≤ 32766 → bytes.first <ℤ bytes.end
    → LiesInside args height bytes
    → IsNear bytes.first
near-inside args height bytes few small some (in_arguments low high) =
    record { low = omega (arith, ints, low); high = omega (arith, ints, high, some, few) }
near-inside args height bytes few small some (in_locals low high) =
    record { low = omega (arith, ints, low, small); high = omega (arith, ints, high, some) }

-- a frame has no more bytes of its own than its height
own-bound : (framed : Bool) (height : ℤ) → cond framed (height -ℤ pos 2) height ≤ℤ height
own-bound true height = omega (arith, ints)
own-bound false height = omega (arith, ints)

module _ (image : Image) (layout : Layout) (body : Body) (is : IsBody image layout body) (counts : ℕ → Option ℕ)
    (has : HasCounts image layout counts) (delta : ℕ) (delta_is : delta ≡ layout.delta)
    (allowed : All (λ (step : Step). is_allowed body.framed body.args (lacks_addresses delta body.framed) step ≡
    true) body.steps.items)
    (enough : All (λ (step : Step). has_words counts body.framed step ≡ true) body.steps.items)
    (sorted : List Piece) (permuted : IsPermutation (pieces_of body counts) sorted)
    (extents : List Piece) (are : AreExtents sorted extents) where
  -- Offsets are near.

  start-near : (step : Step) → Contains body.steps.items step → (start : ℤ)
      → start_of step.op step.height ≡ Some start → IsNear start
  start-near step among start e =
      let s = is-step image layout body.entry body.steps.items is.steps step among in
      near-inside body.args step.height (byte_from start) is.few s.small (omega (arith, ints))
      (inside-told body.args step.height (byte_from start)
      (start-inside image layout body is delta delta_is allowed step among start e).1)

  used-near :
      (step : Step) → Contains body.steps.items step → IsStep image layout body.entry step → (span : Span)
      → IsUsed image layout body.entry step.at span → IsNear span.first
  used-near step among s _ (moved (pushed {a} {height} stands unsaved given)) =
      let same = s.one height given in let small = s.small in
      record { low = omega (arith, ints, same, small); high = omega (arith, ints, same) }
  used-near step among s _ (moved (popped {a} {height} stands unsaved given)) =
      let same = s.one height given in let small = s.small in
      record { low = omega (arith, ints, same, small); high = omega (arith, ints, same) }
  used-near step among s _ (IsUsed.passed (passed {target} {count} {number} {height} stands given arguments less
      fits)) =
      let same = s.one height given in let small = s.small in
      let own = own-bound (is_framed image layout body.entry) height in
      record { low = omega (arith, ints, same, small); high = omega (arith, ints, fits, own) }
  used-near step among s span (accessed access) =
      near-inside body.args step.height (as_bytes span) is.few s.small
      (used-some image layout body.entry step.at span (accessed access))
      (inside-told body.args step.height (as_bytes span)
      (access-inside image layout body is delta delta_is allowed step among s span access))

  piece-near : (span : Span) → IsPiece image layout body.entry span → IsNear span.first
  piece-near span (used {at} node uses) =
      at-node image layout body.entry body.steps.items is.steps
      (λ at. IsUsed image layout body.entry at span → IsNear span.first)
      (λ step among s u. used-near step among s span u) at node uses
  piece-near _ (argument {count} {number} arguments less) =
      let same = arguments-once arguments is.arguments in
      let few = is.few in
      record { low = omega (arith, ints); high = omega (arith, ints, less, same, few) }

  extent-near : (extent : Piece) → Contains extents extent → IsNear extent.bytes.first
  extent-near extent among =
      let r = are.each extent among in
      subst IsNear r.begins
      (piece-near (as_span r.piece.bytes) (sorted-tells image layout body is counts has enough sorted permuted
      r.piece r.among))

  near-case : (start : ℤ) → IsStart body.steps.items extents start → IsNear start
  near-case start (of_step {step} among e) = start-near step among start e
  near-case start (of_extent {extent} among long first) = subst IsNear first (extent-near extent among)

  pub starts-near : All IsNear (starts_of body.steps.items extents)
  starts-near = λ k d inside.
      (let starts = starts_of body.steps.items extents in
      near-case (get_or starts k d) (told.start-told body.steps.items extents (get_or starts k d)
      (Contains-get_or starts k d inside)))

  -- Cells.

  is-cell : (extent : Piece) → Contains extents extent → is_small extent.bytes ≡ true
      → IsCell image layout body.entry (bytes_of (cell_of extent.bytes))
  is-cell extent among small =
      let r = are.each extent among in
      subst (IsCell image layout body.entry) (sym (cell-bytes extent.bytes r.ends small))
      (record {
        extent = extent-tells image layout body is counts has enough sorted permuted extent.bytes r;
        small = small-told extent.bytes small;
      })

  pub cells-are : All (λ (cell : Cell). IsCell image layout body.entry (bytes_of cell)) (cells_from extents)
  cells-are = λ k d inside.
      (let cells = cells_from extents in
      let h = cell-extent extents (get_or cells k d) (Contains-get_or cells k d inside) in
      subst (λ (c : Cell). IsCell image layout body.entry (bytes_of c)) h.cell_is (is-cell h.extent h.among h.small))

  pub every-cell : (span : Span) → IsCell image layout body.entry span
      → Contains (map bytes_of (cells_from extents)) span
  every-cell span c =
      let r = extent-told image layout body is counts has enough sorted permuted extents are span c.extent in
      let small : is_small r.extent.bytes ≡ true =
      ap is_small r.bytes_are ∙ small-tells (as_bytes span) c.small in
      subst (Contains (map bytes_of (cells_from extents)))
      (cell-bytes r.extent.bytes (are.each r.extent r.among).ends small ∙ ap as_span r.bytes_are)
      (map-in bytes_of (cells_from extents) (cell_of r.extent.bytes) (extent-cell extents r.extent r.among small))

  pub cells-ordered : AllPairs (λ (a b : Cell). a.first <ℤ b.first) (cells_from extents)
  cells-ordered =
      cells-ascend extents (λ i j d less inside.
      (let ends = (are.each (get_or extents i d) (Contains-get_or extents i d (omega (arith, less, inside)))).ends in
      let apart = are.ascending i j d less inside in
      omega (arith, ints, ends, apart)))

  -- Exposed bytes.

  exposure-told : (start : ℤ) → IsExposureStart image layout body.entry start
      → Contains (starts_of body.steps.items extents) start
  exposure-told start (by_instruction {at} node starts) =
      at-node image layout body.entry body.steps.items is.steps
      (λ at. StartsExposure image layout body.entry at start → Contains (starts_of body.steps.items extents) start)
      (λ step among s e. start-of-step body.steps.items extents start step among
      (start-told image layout body.entry step s start e))
      at node starts
  exposure-told _ (by_extent {extent} long) =
      let r = extent-told image layout body is counts has enough sorted permuted extents are extent long.is_extent in
      let wide : is_small r.extent.bytes ≡ false = ap is_small r.bytes_are ∙ long-tells (as_bytes extent) long.long in
      subst (Contains (starts_of body.steps.items extents)) (ap (λ (b : Bytes). b.first) r.bytes_are)
      (start-of-extent body.steps.items extents r.extent r.among wide)

  is-long : (extent : Piece) → Contains extents extent → is_small extent.bytes ≡ false
      → IsLongExtent image layout body.entry (as_span extent.bytes)
  is-long extent among wide = record {
    is_extent = extent-tells image layout body is counts has enough sorted permuted extent.bytes (are.each extent
        among);
    long = long-told extent.bytes wide;
  }

  exposure-case : (start : ℤ) → IsStart body.steps.items extents start → IsExposureStart image layout body.entry start
  exposure-case start (of_step {step} among e) =
      let s = is-step image layout body.entry body.steps.items is.steps step among in
      by_instruction s.node (start-tells image layout body.entry step s start e)
  exposure-case start (of_extent {extent} among wide first) =
      subst (IsExposureStart image layout body.entry) first (by_extent (is-long extent among wide))

  exposure-tells : (start : ℤ) → Contains (starts_of body.steps.items extents) start
      → IsExposureStart image layout body.entry start
  exposure-tells start among = exposure-case start (told.start-told body.steps.items extents start among)

  of-starts : (P : ℤ → Type 0) → All P (starts_of body.steps.items extents) → (start : ℤ)
      → IsExposureStart image layout body.entry start → P start
  of-starts P all start e = All-contains P (starts_of body.steps.items extents) start all (exposure-told start e)

  pub local-told : (count : ℕ) → IsLocalBy (starts_of body.steps.items extents) count
      → HasExposedLocal image layout body.entry count
  local-told _ (no_local all) = frame.no_local (of-starts (λ s. pos 0 ≤ℤ s) all)
  local-told _ (local {count} some there all) =
      frame.local some (exposure-tells (neg_ℤ (pos count)) there) (of-starts (λ s. neg_ℤ (pos count) ≤ℤ s) all)

  pub argument-told : (least : Option ℕ) → IsArgumentBy (starts_of body.steps.items extents) least
      → HasExposedArguments image layout body.entry least
  argument-told _ (no_argument all) = frame.no_argument (of-starts (λ s. s <ℤ pos 4) all)
  argument-told _ (from_argument {least} four there all) =
      frame.from_argument four (exposure-tells (pos least) there) (of-starts (λ s. pos 4 ≤ℤ s → pos least ≤ℤ s) all)

  -- Long extents.

  user-case :
      (lacks small : Bool) (user : Option ℕ) (at : ℕ) → cond (not lacks || small) None user ≡ Some at
      → (lacks ≡ true) × (small ≡ false) × (user ≡ Some at)
  user-case true true user at e = absurd (cc)
  user-case true false user at e = (refl, refl, e)
  user-case false small user at e = absurd (cc)

  pub extent-refused :
      (extent : Piece) (at : ℕ) → Contains extents extent → long_user (lacks_addresses delta body.framed) extent
      ≡ Some at
      → IsNode image layout body.entry at × HasBadAccess image layout body.entry at LongExtent
  extent-refused extent at among e =
      let u = user-case (lacks_addresses delta body.framed) (is_small extent.bytes) extent.user at e in
      let h = are.used extent among at u.2 in
      let t = used-tells image layout body is counts has enough h.piece at
      (from-sorted image layout body is counts has enough sorted permuted h.piece h.among) h.user_is in (
        t.0,
        long_without_addresses (lacks-told image layout body is delta delta_is u.0) t.1 (is-long extent among u.1)
            h.lies.from h.lies.to,
      )

  module _ (none : All (λ (extent : Piece). long_user (lacks_addresses delta body.framed) extent ≡ None) extents) where
    no-long-extent :
        (at : ℕ) → IsNode image layout body.entry at → (span extent : Span) → LacksAddresses image layout body.entry
        → IsUsed image layout body.entry at span → IsLongExtent image layout body.entry extent
        → extent.first ≤ℤ span.first
        → ¬ (span.end ≤ℤ extent.end)
    no-long-extent at node span extent lacks uses long low high =
        let piece : Piece = record { bytes = as_bytes span; user = Some at } in
        let there = in-sorted image layout body is counts has enough sorted permuted piece
        (used-told image layout body is counts has at span node uses) in
        let held = are.every piece there in
        let user = held.user at refl in
        let r = extent-told image layout body is counts has enough sorted permuted extents are extent long.is_extent in
        let same : held.extent.bytes ≡ r.extent.bytes =
        one-extent sorted held.extent.bytes r.extent.bytes (as_bytes span) (are.each held.extent held.among)
        (are.each r.extent r.among)
        (used-some image layout body.entry at span uses) held.lies
        (subst (λ (b : Bytes). LiesIn (as_bytes span) b) (sym r.bytes_are) (record { from = low; to = high })) in
        let wide : is_small held.extent.bytes ≡ false =
        ap is_small same ∙ ap is_small r.bytes_are ∙ long-tells (as_bytes extent) long.long in
        let told : long_user (lacks_addresses delta body.framed) held.extent ≡ Some user.0 =
        ap (λ b. cond (not b || is_small held.extent.bytes) None held.extent.user)
        (lacks-tells image layout body is delta delta_is lacks)
        ∙ ap (λ b. cond b None held.extent.user) wide
        ∙ user.1 in
        let untold = All-contains (λ (extent : Piece). long_user (lacks_addresses delta body.framed) extent
        ≡ None) extents
        held.extent none held.among in
        let bad : None ≡ Some user.0 = sym untold ∙ told in
        absurd (cc)

    pub no-bad-access :
        {cause : FrameFault} (at : ℕ) → IsNode image layout body.entry at
        → ¬ HasBadAccess image layout body.entry at cause
    no-bad-access at node (access_outside {span} {height} access given out) =
        no-access-outside image layout body is delta delta_is allowed at node span height access given out
    no-bad-access at node (start_outside {start} {height} starts given out) =
        no-start-outside image layout body is delta delta_is allowed at node start height starts given out
    no-bad-access at node (no_addresses {start} lacks starts) =
        no-start-lacking image layout body is delta delta_is allowed at node start starts lacks
    no-bad-access at node (long_without_addresses {span} {extent} lacks uses long low high) =
        no-long-extent at node span extent lacks uses long low high

  -- Many cells.

  pub few-cells : length (cells_from extents) ≤ 512 → ¬ HasMany (IsCell image layout body.entry) 513
  few-cells few many =
      let le = counting.few (IsCell image layout body.entry) (map bytes_of (cells_from extents)) 513 every-cell many in
      let long = length-map (cells_from extents) bytes_of in
      absurd (omega (arith, le, few, long))

  pub many-cells : 512 < length (cells_from extents) → HasMany (IsCell image layout body.entry) 513
  many-cells more =
      let cells = cells_from extents in
      let spans = map bytes_of cells in
      let long = length-map cells bytes_of in
      let short : length (take 513 spans) ≡ 513 = length-take-le 513 spans (omega (arith, more, long)) in
      let none : Cell = record { first = pos 0; size = 1 } in
      let read : (i : ℕ) (d : Span) → i < 513 → get_or (take 513 spans) i d ≡ bytes_of (get_or cells i none) = λ i
      d less.
      get_or-take 513 spans i d less ∙ get_or-map bytes_of cells i none d (omega (arith, less, more)) in
      record {
        values = take 513 spans;
        hold = All-take (IsCell image layout body.entry) 513 spans
            (All-map (IsCell image layout body.entry) bytes_of cells cells-are);
        distinct = λ i j d less inside same.
            (let first =
            ap (λ (s : Span). s.first) (sym (read i d (omega (arith, less, inside, short))) ∙ same
            ∙ read j d (omega (arith, inside, short))) in
            let apart = cells-ordered i j none less (omega (arith, inside, short, more)) in
            absurd (omega (arith, ints, first, apart)));
        count_is = short;
      }
