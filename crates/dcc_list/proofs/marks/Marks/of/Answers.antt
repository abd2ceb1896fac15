use Rattle.std.proofs.Common.{◌≡◌, ◌||◌, ℕ, List, Bool, false, length, take, drop, ◌++◌, slice_index_or, ap, ◌∙◌}
use Rattle.std.specs.List.{list_any}
use Rattle.dcc_prog.specs.declared.procedure.Proc.{Proc}
use Rattle.dcc_list.specs.Listed.{is_among, has_node, jumps_to, offsets_from}
use Rattle.dcc_list.proofs.MarkLaws.{unmarked, refilled}
use Rattle.dcc_list.proofs.marks.Marks.of.Goals as goal

pub returns-clause-marks : goal.returns-clause-marks
returns-clause-marks c prelude run ends =
    let offsets : List ℕ = offsets_from c.args.image.now.ip prelude in
    let size = c.in_ok-listed.listed.len in
    let items = c.in_ok-listed.listed.items in
    let first = c.mark_prelude.new.marks in
    let second = c.mark_procs.new.marks in
    let first_size : length first ≡ size = c.mark_prelude.auto.marks ∙ c.as_mut_slice.ensures.len in
    let second_size : length second ≡ size = c.mark_procs.auto.marks ∙ c.as_mut_slice-2.ensures.len in
    let third_size : length c.mark_targets.new.marks ≡ c.in_ok-targets.targets.len = c.mark_targets.auto.marks ∙ c.as_mut_slice-3.ensures.len in
    let at_first : (at : ℕ) → slice_index_or c.as_mut_slice.result.now at false ≡ false = λ at.
    ap (λ (m : List Bool). slice_index_or m at false) (c.as_mut_slice.ensures.value ∙ c.in_ok-listed.ensures) ∙ unmarked 65536 at in
    let at_start : (at : ℕ) → slice_index_or c.as_mut_slice-3.result.now at false ≡ false = λ at.
    ap (λ (m : List Bool). slice_index_or m at false) (c.as_mut_slice-3.ensures.value ∙ c.in_ok-targets.ensures) ∙ unmarked 65536 at in
    let of_prelude : (at : ℕ) → slice_index_or first at false ≡ is_among at offsets = λ at.
    c.mark_prelude.ensures prelude run ends at ∙ ap (λ b. b || is_among at offsets) (at_first at) in
    let between : c.as_mut_slice-2.result.now ≡ first = c.as_mut_slice-2.ensures.value ∙ refilled first items size first_size in
    record {
      listed = λ at.
          ap (λ (m : List Bool). slice_index_or m at false) (refilled second (take size (first ++ drop (length first) items)) size second_size)
          ∙ c.mark_procs.ensures at
          ∙ ap (λ (m : List Bool). slice_index_or m at false || list_any (has_node at) c.deref.result.now) between
          ∙ ap (λ b. b || list_any (has_node at) c.deref.result.now) (of_prelude at)
          ∙ ap (λ (ps : List Proc). is_among at offsets || list_any (has_node at) ps) c.deref.ensures.value;
      targets = λ at.
          ap (λ (m : List Bool). slice_index_or m at false) (refilled c.mark_targets.new.marks c.in_ok-targets.targets.items c.in_ok-targets.targets.len third_size)
          ∙ c.mark_targets.ensures at
          ∙ ap (λ b. b || list_any (jumps_to at) c.deref-2.result.now) (at_start at)
          ∙ ap (λ (ps : List Proc). list_any (jumps_to at) ps) c.deref-2.ensures.value;
    }
