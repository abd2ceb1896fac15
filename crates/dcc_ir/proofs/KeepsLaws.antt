-- Laws of what passes keep: a program keeps itself, and one pass after another keeps what both keep.
use Rattle.std.proofs.Common.{◌≡◌, ◌≢◌, ℕ, true, [], refl, sym, ◌∙◌}
use Rattle.dcc_run.proofs.VisitLaws.{visits_kept_refl, visits_kept_trans}
use Rattle.dcc_ir.specs.Tree.{Program}
use Rattle.dcc_ir.specs.Run.{inner_system, first_state, block_mark, graph_at}
use Rattle.dcc_ir.specs.Flow.{graph_or_none, flow_at, Reached, IsContraction}
use Rattle.dcc_ir.specs.Keeps.{has_block, calls_at, KeepsCalls, Keeps}
use Rattle.dcc_ir.proofs.PathLaws.{IsFlow, reached_has}
use Rattle.dcc_ir.proofs.FlowLaws.{contraction_refl, contraction_trans, reached_still}
use Rattle.dcc_ir.proofs.GraphLaws.{flow_of-flow}
use Rattle.dcc_ir.proofs.StandLaws.{Holds, holds_still, first_holds, mark_known}

pub flow_law : (p : Program) (entry : ℕ) → IsFlow (flow_at p entry)
flow_law p entry = flow_of-flow (graph_or_none (graph_at p.graphs entry))

-- a program keeps itself
pub keeps_refl : (p : Program) → Keeps p p
keeps_refl p = record {
  entries = refl;
  runs = λ fill input small bytes. visits_kept_refl (has_block p) (inner_system p fill) block_mark (Holds p) (holds_still p fill) (mark_known p) (first_state p fill input) (first_holds p fill input);
  flow = λ entry. contraction_refl (flow_at p entry) (flow_law p entry);
  calls = λ entry. record {
    same = λ a r h. refl;
    kept = λ a r n. reached_has (flow_at p entry) (flow_law p entry) a r;
    after = λ a b r n e. (flow_law p entry).head a b e;
  };
}

-- The calls of a block stay through two passes.
module _ (p q r : Program) (entry : ℕ) (flow : IsContraction (flow_at p entry) (flow_at q entry)) (first : KeepsCalls p q entry) (second : KeepsCalls q r entry) (fewer : (a : ℕ) → (flow_at r entry).has a ≡ true → (flow_at q entry).has a ≡ true) where
  still : (a : ℕ) → Reached (flow_at p entry) a → (flow_at q entry).has a ≡ true → Reached (flow_at q entry) a
  still = reached_still (flow_at p entry) (flow_at q entry) (flow_law p entry) (flow_law q entry) flow

  -- a block that holds a call holds one after the first pass
  holds_call : (a : ℕ) → Reached (flow_at p entry) a → calls_at p entry a ≢ [] → calls_at q entry a ≢ []
  holds_call a reached n e = n (sym (first.same a reached (first.kept a reached n)) ∙ e)

  calls_trans : KeepsCalls p r entry
  calls_trans = record {
    same = λ a reached h.
        let there = fewer a h in
        second.same a (still a reached there) h ∙ first.same a reached there;
    kept = λ a reached n.
        second.kept a (still a reached (first.kept a reached n)) (holds_call a reached n);
    after = λ a b reached n e.
        let there = still a reached (first.kept a reached n) in
        let goes = (flow.edges a b there (first.after a b reached n e)).1 ([], e) in
        second.after a b there (holds_call a reached n) goes;
  }

-- what two passes keep one after another
pub keeps_trans : (p q r : Program) → Keeps p q → Keeps q r → Keeps p r
keeps_trans p q r first second = record {
  entries = second.entries ∙ first.entries;
  runs = λ fill input small bytes. visits_kept_trans (has_block q) (has_block r) (λ place h. (second.flow place.entry).blocks place.at h)
      (inner_system p fill) block_mark (first_state p fill input) (inner_system q fill) block_mark (first_state q fill input) (inner_system r fill) block_mark (first_state r fill input)
      (first.runs fill input small bytes) (second.runs fill input small bytes);
  flow = λ entry. contraction_trans (flow_at p entry) (flow_at q entry) (flow_at r entry) (flow_law p entry) (flow_law q entry) (flow_law r entry) (first.flow entry) (second.flow entry);
  calls = λ entry. calls_trans p q r entry (first.flow entry) (first.calls entry) (second.calls entry) (second.flow entry).blocks;
}
