-- The answer for one procedure, and those for all.
use Rattle.std.proofs.Common.{◌≡◌, ◌≤◌, ℕ, ◌≤ℤ◌, ◌<ℤ◌, map, Bool, true, List, length, All, AllPairs, Contains, Option, None, sym, ap, ◌∙◌, subst, arith}
use Rattle.std.specs.List.Sorted.{IsPermutation}
use Rattle.dcc_machine.specs.declared.image.Image.{Image}
use Rattle.dcc_prog.specs.declared.procedure.Layout.{Layout}
use Rattle.dcc_prog.specs.declared.frame.Cell.{Cell}
use Rattle.dcc_prog.specs.declared.frame.Frame.{Frame}
use Rattle.dcc_prog.specs.declared.refusal.ConstructKind.{ConstructKind}
use Rattle.dcc_prog.specs.declared.refusal.ConstructKind.TheVariants.{FrameAccess, ArgumentsShort}
use Rattle.dcc_prog.specs.declared.refusal.FrameFault.TheVariants.{LongExtent}
use Rattle.dcc_prog.specs.declared.refusal.LimitName.TheVariants.{Procedures, Instructions, Total, Cells, Entries, Arguments}
use Rattle.dcc_prog.specs.declared.refusal.Refusal.{Refusal}
use Rattle.dcc_prog.specs.declared.refusal.Refusal.TheVariants.{Construct, Limit, Memory}
use Rattle.dcc_prog.specs.Trail.{IsNode}
use Rattle.dcc_prog.specs.Construct.{IsAtFrame, bad_access, short_call, IsOfFrames}
use Rattle.dcc_prog.specs.Frame.{HasArguments, IsCell, HasBadAccess}
use Rattle.dcc_prog.specs.Limit.{cells}
use Rattle.dcc_prog.specs.Analysed.{bytes_of}
use Rattle.dcc_prog.specs.Refused.{IsRefusedByFrames, construct, limit, no_memory}
use Rattle.dcc_prog.proofs.FrameLaws.{arguments-once}
use Rattle.dcc_frames.specs.declared.bytes.Piece.{Piece}
use Rattle.dcc_frames.specs.declared.steps.Step.{Step}
use Rattle.dcc_frames.specs.declared.body.Body.{Body}
use Rattle.dcc_frames.specs.Inside.{is_allowed, fault_in, has_words, IsToldOf, told}
use Rattle.dcc_frames.specs.Pieces.{pieces_of}
use Rattle.dcc_frames.specs.Extents.{AreExtents, AreAscending}
use Rattle.dcc_frames.specs.CellLists.{cells_from, long_user, IsOverfull, IsToldOfExtents}
use Rattle.dcc_frames.specs.CellLists as lists
use Rattle.dcc_frames.specs.Starts.{starts_of, IsNear, IsLocalBy, IsArgumentBy}
use Rattle.dcc_frames.specs.Ready.{IsReady, IsFrameAt, lacks_addresses}
use Rattle.dcc_frames.proofs.StepLists.{is-step}
use Rattle.dcc_frames.proofs.ExtentsTold.{sorted-ascend}
use Rattle.dcc_frames.proofs.AccessTold.{access-refused, call-refused, no-short-call}
use Rattle.dcc_frames.proofs.FrameLaws.{starts-near, cells-are, every-cell, cells-ordered, local-told, argument-told, extent-refused, no-bad-access, few-cells, many-cells}

-- the accesses and the calls of a body are let through, and its pieces are put in order
pub record AreSorted (body : Body) (counts : ℕ → Option ℕ) (lacks : Bool) (sorted : List Piece) : Type 0 where
  pub allowed : All (λ (step : Step). is_allowed body.framed body.args lacks step ≡ true) body.steps.items
  pub enough : All (λ (step : Step). has_words counts body.framed step ≡ true) body.steps.items
  pub permuted : IsPermutation (pieces_of body counts) sorted
  pub order : AllPairs (λ (a b : Piece). a.bytes.first ≤ℤ b.bytes.first) sorted

pub are-sorted :
    (body : Body) (counts : ℕ → Option ℕ) (lacks : Bool) (pieces sorted : List Piece)
    → All (λ (step : Step). is_allowed body.framed body.args lacks step ≡ true) body.steps.items
    → All (λ (step : Step). has_words counts body.framed step ≡ true) body.steps.items
    → pieces ≡ pieces_of body counts → IsPermutation pieces sorted
    → AllPairs (λ (a b : Piece). a.bytes.first ≤ℤ b.bytes.first) sorted → AreSorted body counts lacks sorted
are-sorted body counts lacks pieces sorted allowed enough pieces_are permuted order = record {
  allowed = allowed;
  enough = enough;
  permuted = subst (λ l. IsPermutation l sorted) pieces_are permuted;
  order = order;
}

module _ (image : Image) (layout : Layout) (body : Body) (counts : ℕ → Option ℕ) (delta : ℕ)
    (ready : IsReady image layout body counts delta) (lacks : Bool)
    (lacks_is : lacks ≡ lacks_addresses delta body.framed) where
  at-frame : (kind : ConstructKind) (at : ℕ) → IsNode image layout body.entry at → IsAtFrame image layout body.entry at kind
      → IsOfFrames kind image layout at
  at-frame kind at node stands =
      record { entry = body.entry; is_entry = ready.is_body.is_entry; node = node; stands = stands }

  pub accesses-refused :
      (refusal : Refusal) → IsToldOf body.steps.items
      (λ (step : Step). is_allowed body.framed body.args lacks step)
      (λ (step : Step). FrameAccess (fault_in body.framed body.args lacks step)) refusal
      → IsRefusedByFrames image layout refusal
  accesses-refused _ (told {step} among bad) =
      let s = is-step image layout body.entry body.steps.items ready.is_body.steps step among in
      construct (at-frame (FrameAccess (fault_in body.framed body.args lacks step)) step.at s.node
      (bad_access (subst (λ l. HasBadAccess image layout body.entry step.at (fault_in body.framed body.args l step))
      (sym lacks_is)
      (access-refused image layout body ready.is_body delta ready.delta_is step s
      (ap (λ l. is_allowed body.framed body.args l step) (sym lacks_is) ∙ bad)))))

  pub calls-refused :
      (refusal : Refusal) → IsToldOf body.steps.items (λ (step : Step). has_words counts body.framed step)
      (λ (step : Step). ArgumentsShort) refusal
      → IsRefusedByFrames image layout refusal
  calls-refused _ (told {step} among bad) =
      let s = is-step image layout body.entry body.steps.items ready.is_body.steps step among in
      construct (at-frame ArgumentsShort step.at s.node
      (short_call (call-refused image layout body ready.is_body counts ready.has_counts step s bad)))

  module _ (sorted : List Piece) (s : AreSorted body counts lacks sorted) where
    allowed' : All (λ (step : Step). is_allowed body.framed body.args (lacks_addresses delta body.framed) step ≡
        true) body.steps.items
    allowed' = subst (λ l. All (λ (step : Step). is_allowed body.framed body.args l step ≡ true) body.steps.items)
        lacks_is s.allowed

    enough : All (λ (step : Step). has_words counts body.framed step ≡ true) body.steps.items
    enough = s.enough

    permuted' : IsPermutation (pieces_of body counts) sorted
    permuted' = s.permuted

    are-ascending : AreAscending sorted
    are-ascending = sorted-ascend image layout body ready.is_body counts ready.has_counts enough sorted permuted' s.order

    -- extents that are made of what the code has read
    module _ (read extents : List Piece) (same : read ≡ sorted) (joined : AreAscending read
        → AreExtents read extents) where
      are : AreExtents sorted extents
      are = subst (λ l. AreExtents l extents) same (joined (subst AreAscending (sym same) are-ascending))

      pub extents-refused : (refusal : Refusal) → IsToldOfExtents lacks extents refusal
          → IsRefusedByFrames image layout refusal
      extents-refused _ (lists.told {extent} {at} among user) =
          let r = extent-refused image layout body ready.is_body counts ready.has_counts delta ready.delta_is allowed'
          enough sorted permuted' extents are
          extent at among (ap (λ l. long_user l extent) (sym lacks_is) ∙ user) in
          construct (at-frame (FrameAccess LongExtent) at r.0 (bad_access r.1))

      pub cells-refused : (refusal : Refusal) → IsOverfull (cells_from extents) refusal
          → IsRefusedByFrames image layout refusal
      cells-refused (Limit Cells count) h =
          subst (λ n. IsRefusedByFrames image layout (Limit Cells n)) (sym h.0)
          (limit (cells ready.is_body.is_entry
          (many-cells image layout body ready.is_body counts ready.has_counts delta ready.delta_is allowed' enough
          sorted permuted' extents are h.1)))
      cells-refused (Limit Procedures count) h = absurd h
      cells-refused (Limit Instructions count) h = absurd h
      cells-refused (Limit Total count) h = absurd h
      cells-refused (Limit Entries count) h = absurd h
      cells-refused (Limit Arguments count) h = absurd h
      cells-refused Memory h = no_memory
      cells-refused (Construct kind at) h = absurd h

      module _ (none : All (λ (extent : Piece). long_user lacks extent ≡ None) extents) (frame : Frame)
          (framed_is : frame.framed ≡ body.framed) (args_are : frame.args ≡ body.args)
          (cells_are : frame.cells.items ≡ cells_from extents)
          (few : length frame.cells.items ≤ 512)
          (starts : All IsNear (starts_of body.steps.items extents)
          → IsLocalBy (starts_of body.steps.items extents) frame.exposed.local)
          (starts' : All IsNear (starts_of body.steps.items extents)
          → IsArgumentBy (starts_of body.steps.items extents) frame.exposed.arg) where
        none' : All (λ (extent : Piece). long_user (lacks_addresses delta body.framed) extent ≡ None) extents
        none' = subst (λ l. All (λ (extent : Piece). long_user l extent ≡ None) extents) lacks_is none

        near : All IsNear (starts_of body.steps.items extents)
        near = starts-near image layout body ready.is_body counts ready.has_counts delta ready.delta_is allowed'
            enough sorted permuted' extents are

        none-at : (kind : ConstructKind) (at : ℕ) → IsNode image layout body.entry at → ¬ IsAtFrame image layout body.entry at kind
        none-at _ at node (bad_access bad) =
            no-bad-access image layout body ready.is_body counts ready.has_counts delta ready.delta_is allowed'
            enough sorted permuted' extents are
            none' at node bad
        none-at _ at node (short_call short) =
            no-short-call image layout body ready.is_body counts ready.has_counts enough at node short

        pub frame-told : IsFrameAt image layout body.entry frame
        frame-told =
            let is = ready.is_body in
            let has = ready.has_counts in
            record {
              framed = framed_is ∙ is.framed;
              arguments = subst (HasArguments image layout body.entry) (sym args_are) is.arguments;
              cells =
                  subst (All (λ (cell : Cell). IsCell image layout body.entry (bytes_of cell))) (sym cells_are)
                  (cells-are image layout body is counts has delta ready.delta_is allowed' enough sorted permuted'
                  extents are);
              ascending =
                  subst (AllPairs (λ (a b : Cell). a.first <ℤ b.first)) (sym cells_are)
                  (cells-ordered image layout body is counts has delta ready.delta_is allowed' enough sorted
                  permuted' extents are);
              every = λ span c.
                  subst (λ l. Contains (map bytes_of l) span) (sym cells_are)
                  (every-cell image layout body is counts has delta ready.delta_is allowed' enough sorted permuted'
                  extents are span c);
              local =
                  local-told image layout body is counts has delta ready.delta_is allowed' enough sorted permuted'
                  extents are
                  frame.exposed.local (starts near);
              argument =
                  argument-told image layout body is counts has delta ready.delta_is allowed' enough sorted
                  permuted' extents are
                  frame.exposed.arg (starts' near);
              clean = none-at;
              few_cells =
                  few-cells image layout body is counts has delta ready.delta_is allowed' enough sorted permuted'
                  extents are
                  (let same = ap length cells_are in omega (arith, same, few));
              few_arguments = λ count given.
                  (let same = arguments-once given is.arguments in
                  let most = is.few in omega (arith, same, most));
            }
