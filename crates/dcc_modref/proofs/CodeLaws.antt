-- States of the code and of the graph.
use Rattle.std.proofs.Common.{◌≡◌, ℕ, zero, suc, ◌+◌, ◌<◌, ◌≤◌, Bool, true, false, ◌||◌, inl, inr, List, [], ◌∷◌, ◌++◌, length, get_or, slice_set, map, replicate, refl, sym, ap, ◌∙◌, subst, true≢false, arith}
use Rattle.std.specs.Prelude.{◌↔◌, ◌⊎◌, Option, Some, None, All, option_map}
use Rattle.std.proofs.lemmas.Bool.{cases_eq, cases_lt, and_parts, and_from}
use Rattle.std.proofs.lemmas.List.{map-set, get_or-map, get_or_read, get_or_past}
use Rattle.dcc_ir.specs.declared.syntax.Loc.{Loc}
use Rattle.dcc_ir.specs.Flow.{targets}
use Rattle.dcc_ir.specs.Live.{is_among, block_in}
use Rattle.dcc_ir.specs.declared.syntax.Block.{Block as BlockOf}
use Rattle.dcc_ir.specs.Views.{block_of}
use Rattle.dcc_ir.specs.Run.{no_block}
use Rattle.dcc_ir.specs.WellFormed.{IsGraph}
use Rattle.dcc_ir.specs.Tree.{Block, Graph}
use Rattle.std.proofs.lemmas.List.Elements.{All-get_or, All-contains}
use Rattle.dcc_flow.specs.Edges.{successors_of}
use Rattle.dcc_flow.proofs.RowLaws.{length_successors, successors_within}
use Rattle.dcc_sums.specs.Points.{begin_of, Site, Executes, Ends, Nowhere, site_of, is_return}
use Rattle.dcc_modref.specs.declared.state.State.{State as StateOf}
use Rattle.dcc_modref.specs.States.{State, state_of, at_entry, after_all}
use Rattle.dcc_modref.specs.Losses.{GraphLoses}
use Rattle.dcc_modref.specs.Tables.{States, states_of, first_states, Flows, IsMet, AreMet, HasFlowed, AreClosed, AreOf}
use Rattle.dcc_modref.specs.Tables.{AreFlowing, words_of, left_in}
use Rattle.dcc_modref.specs.Flowing.{met, flowed, all_flowed, any_new, HasTurned, is_lost, loses_at, Answers}
use Rattle.dcc_modref.proofs.MetLaws.{met_entry, met_all, last_of, site_end}
use Rattle.dcc_modref.proofs.TrailLaws.{after_end, Comes, comes_along}
use Rattle.dcc_modref.proofs.FlowLaws.{within_itself}
use Rattle.dcc_modref.proofs.TurnLaws.{some_is, none_is, turned}

-- Reads and writes.

pub state_read : (items : List (Option StateOf)) (b : ℕ) (old : Option StateOf) → b < length items → old ≡ get_or items b old → option_map state_of old ≡ get_or (states_of items) b None
state_read items b old inside read = ap (option_map state_of) (get_or_read items b old inside read None) ∙ sym (get_or-map (option_map state_of) items b None None inside)

pub put_flowed : (items : List (Option StateOf)) (b : ℕ) (old new : Option StateOf) (s : State) → b < length items → old ≡ get_or items b old
    → option_map state_of new ≡ met (option_map state_of old) s → states_of (slice_set items b new) ≡ flowed (states_of items) b s
put_flowed items b old new s inside read e =
    map-set (option_map state_of) items b new ∙ ap (slice_set (states_of items) b) (e ∙ ap (λ x. met x s) (state_read items b old inside read))

pub or_on : (a b c : Bool) → ((a || b) || c) ≡ (a || (b || c))
or_on true b c = refl
or_on false b c = refl

more_none : (n : ℕ) → replicate n None ++ None ∷ [] ≡ replicate {A = Option State} (suc n) None
more_none zero = refl
more_none (suc n) = ap (λ l. None ∷ l) (more_none n)

pub more_first : (n : ℕ) → 1 ≤ n → first_states n ++ None ∷ [] ≡ first_states (n + 1)
more_first zero less = absurd (omega (arith, less))
more_first (suc n) less =
    let next : suc (suc n) ≡ suc n + 1 = omega arith in
    ap (λ l. Some at_entry ∷ l) (more_none n) ∙ ap first_states next

pub targets_below : (graph : Graph) → IsGraph graph → (at : ℕ) → at < length graph.blocks → All (λ k. k < length graph.blocks) (targets (block_in graph at).exit)
targets_below graph good at inside =
    subst (All (λ k. k < length graph.blocks)) (get_or-map (λ (b : Block). targets b.exit) graph.blocks at no_block [] inside)
    (subst (λ n. All (λ k. k < n) (get_or (successors_of graph) at [])) (length_successors graph)
    (All-get_or (λ row. All (λ place. place < length (successors_of graph)) row) (successors_of graph) at [] (omega (arith, inside, length_successors graph)) (successors_within graph good)))

pub block_here : (blocks : List BlockOf) (at : ℕ) (block : BlockOf) → at < length blocks → block ≡ get_or blocks at block → block_of block ≡ get_or (map block_of blocks) at no_block
block_here blocks at block inside read = ap block_of read ∙ sym (get_or-map block_of blocks at block no_block inside)

-- One turn after another.

module _ (changed : ℕ → Bool) (graph : Graph) (location : Loc) where
  turned_then : (a b c : States) (n m : Bool) (P Q R : ℕ → Type 0) → ((k : ℕ) → R k → P k ⊎ Q k) → HasTurned changed graph location a b n P → HasTurned changed graph location b c m Q
      → HasTurned changed graph location a c (n || m) R
  turned_then a b c n m P Q R either one other = record {
    less = λ e. by n m refl refl e;
    same = λ e. let f = none n m e in other.same f.1 ∙ one.same f.0;
    flowed = λ e k there. let f = none n m e in elim (either k there) [
      | inl p ↦ one.flowed f.0 k p
      | inr q ↦ subst (λ s. HasFlowed changed graph location s k) (one.same f.0) (other.flowed f.1 k q)
    ];
  }
    where
      none : (n m : Bool) → (n || m) ≡ false → (n ≡ false) × (m ≡ false)
      none true m e = absurd (true≢false e)
      none false m e = (refl, e)

      left : States → ℕ
      left = left_in (words_of location graph)

      by : (x y : Bool) → n ≡ x → m ≡ y → (n || m) ≡ true → left c < left a
      by true true f g e = let x = one.less f in let y = other.less g in omega (arith, x, y)
      by true false f g e = let x = one.less f in subst (λ z. left z < left a) (sym (other.same g)) x
      by false true f g e = let y = other.less g in subst (λ z. left c < left z) (one.same f) y
      by false false f g e = absurd (true≢false (sym e ∙ ap (λ x. x || m) f ∙ g))

  pub turned_both : (a b c : States) (n m : Bool) (at : ℕ) → HasTurned changed graph location a b n (λ k. k < at) → HasTurned changed graph location b c m (λ k. k ≡ at)
      → HasTurned changed graph location a c (n || m) (λ k. k < at + 1)
  turned_both a b c n m at = turned_then a b c n m (λ k. k < at) (λ k. k ≡ at) (λ k. k < at + 1) (λ k below. elim (cases_eq k at) [
    | inl is ↦ inr is
    | inr o ↦ inl (omega (arith, below, o))
  ])

  -- where it isn't told which blocks had a turn
  pub turned_on : (a b c : States) (n m : Bool) → HasTurned changed graph location a b n (λ k. ⊥) → HasTurned changed graph location b c m (λ k. ⊥)
      → HasTurned changed graph location a c (n || m) (λ k. ⊥)
  turned_on a b c n m = turned_then a b c n m (λ k. ⊥) (λ k. ⊥) (λ k. ⊥) (λ k none. absurd none)

  pub turned_some : (a b : States) (n : Bool) (at : ℕ) → HasTurned changed graph location a b n (λ k. k ≡ at) → HasTurned changed graph location a b n (λ k. ⊥)
  turned_some a b n at one = record { less = one.less; same = one.same; flowed = λ e k none. absurd none }

  pub unturned : (a : States) → HasTurned changed graph location a a false (λ k. ⊥)
  unturned a = record { less = λ e. absurd (true≢false (sym e)); same = λ e. refl; flowed = λ e k none. absurd none }

  pub none_turned : (a : States) → HasTurned changed graph location a a false (λ k. k < 0)
  none_turned a = record { less = λ e. absurd (true≢false (sym e)); same = λ e. refl; flowed = λ e k below. absurd (omega (arith, below)) }

  -- The begin.

  first_none : (n k : ℕ) → get_or (replicate {A = Option State} n None) k None ≡ None
  first_none zero k = refl
  first_none (suc n) zero = refl
  first_none (suc n) (suc k) = first_none n k

  pub first_flowing : 0 < length graph.blocks → AreFlowing changed graph location (first_states (length graph.blocks))
  first_flowing some = record {
    count = size (length graph.blocks) some;
    met = by_met (length graph.blocks);
    known = by_known (length graph.blocks);
    entered = by_entered (length graph.blocks) some;
  }
    where
      len : (n : ℕ) → length (replicate {A = Option State} n None) ≡ n
      len zero = refl
      len (suc n) = ap suc (len n)

      size : (n : ℕ) → 0 < n → length (first_states n) ≡ n
      size zero less = absurd (omega (arith, less))
      size (suc n) less = ap suc (len n)

      by_met : (n : ℕ) → AreMet changed graph location (first_states n)
      by_met zero k s e = none_is s e
      by_met (suc n) zero s e = subst (IsMet changed graph location (begin_of 0)) (some_is at_entry s e) (met_entry changed graph location)
      by_met (suc n) (suc k) s e = none_is s (sym (first_none n k) ∙ e)

      by_known : (n : ℕ) → AreOf (words_of location graph) (first_states n)
      by_known zero k s word e among = none_is s e
      by_known (suc n) zero s word e among = absurd (true≢false (sym (ap (λ (u : State). is_among u.saved word) (some_is at_entry s e) ∙ among)))
      by_known (suc n) (suc k) s word e among = none_is s (sym (first_none n k) ∙ e)

      by_entered : (n : ℕ) → 0 < n → Flows at_entry (first_states n) 0
      by_entered zero less = absurd (omega (arith, less))
      by_entered (suc n) less = record { state = at_entry; there = refl; within = within_itself at_entry }

  -- A turn of a block as the code takes it.

  pub turn_reached : IsGraph graph → (begins : States) (at : ℕ) (state : State) → at < length graph.blocks → AreFlowing changed graph location begins
      → Some state ≡ option_map (after_all changed graph.pushed location (block_in graph at).stmts) (get_or begins at None)
      → let tos = targets (block_in graph at).exit in
      AreFlowing changed graph location (all_flowed begins state tos) × HasTurned changed graph location begins (all_flowed begins state tos) (any_new begins state tos) (λ k. k ≡ at)
  turn_reached good begins at state inside going e = by (get_or begins at None) refl e
    where
      tos : List ℕ
      tos = targets (block_in graph at).exit

      Turns : State → Type 0
      Turns t = AreFlowing changed graph location (all_flowed begins t tos) × HasTurned changed graph location begins (all_flowed begins t tos) (any_new begins t tos) (λ k. k ≡ at)

      by : (x : Option State) → get_or begins at None ≡ x → Some state ≡ option_map (after_all changed graph.pushed location (block_in graph at).stmts) x → Turns state
      by None there e = none_is state (sym e)
      by (Some s) there e =
          subst Turns (some_is (after_all changed graph.pushed location (block_in graph at).stmts s) state (sym e))
          (turned changed graph location begins at s going there (λ k c. All-contains (λ k. k < length graph.blocks) tos k (targets_below graph good at inside) c))

  -- The end.

  pub answered : (begins : States) → AreFlowing changed graph location begins → ((k : ℕ) → k < length graph.blocks → HasFlowed changed graph location begins k)
      → (b : Bool) → Answers changed graph location begins b (length graph.blocks) → (b ≡ true) ↔ GraphLoses changed graph location
  answered begins going all b answers = (loses, told_of)
    where
      past : (k : ℕ) (s : State) → get_or begins k None ≡ Some s → k < length graph.blocks
      past k s e = elim (cases_lt k (length graph.blocks)) [
        | inl less ↦ less
        | inr more ↦ let n = going.count in none_is s (sym (get_or_past begins k None (omega (arith, more, n))) ∙ e)
      ]

      closed : AreClosed changed graph location begins
      closed = record { entered = going.entered; flowed = λ k s e. all k (past k s e) s e }

      loses : b ≡ true → GraphLoses changed graph location
      loses e =
          let found = answers.some e in
          let k = found.0 in
          let parts = and_parts (is_return (Ends (block_in graph k).exit)) (is_lost (option_map (after_all changed graph.pushed location (block_in graph k).stmts) (get_or begins k None))) found.1 in
          by k (get_or begins k None) refl parts.0 parts.1
        where
          by : (k : ℕ) (x : Option State) → get_or begins k None ≡ x → is_return (Ends (block_in graph k).exit) ≡ true
              → is_lost (option_map (after_all changed graph.pushed location (block_in graph k).stmts) x) ≡ true → GraphLoses changed graph location
          by k None there ret lost = absurd (true≢false (sym lost))
          by k (Some s) there ret lost =
              let met = met_all changed graph location k s (going.met k s there) in
              let trail = met.lost lost in
              record {
                passed = trail.0;
                at = last_of changed graph location k;
                trail = trail.1;
                returns = ap is_return (site_end (block_in graph k).stmts (block_in graph k).exit) ∙ ret;
                loses = trail.2;
              }

      told_of : GraphLoses changed graph location → b ≡ true
      told_of lost = by b refl
        where
          comes : Comes changed graph location begins closed lost.passed lost.at
          comes = comes_along changed graph location begins closed lost.trail

          at_end : (site : Site) → site_of graph lost.at ≡ site → is_return site ≡ true → loses_at changed graph location begins lost.at.block ≡ true
          at_end (Executes stmt) e r = absurd (true≢false (sym r))
          at_end Nowhere e r = absurd (true≢false (sym r))
          at_end (Ends end) e r =
              let block = block_in graph lost.at.block in
              let is = after_end changed graph.pushed location lost.at.done block.stmts block.exit end comes.begin e in
              and_from (is_return (Ends block.exit)) (is_lost (option_map (after_all changed graph.pushed location block.stmts) (get_or begins lost.at.block None)))
              (ap (λ x. is_return (Ends x)) (sym is.0) ∙ r)
              (ap (λ x. is_lost (option_map (after_all changed graph.pushed location block.stmts) x)) comes.there ∙ ap (λ (s : State). s.lost) (sym is.1) ∙ comes.tells.lost lost.loses)

          by : (x : Bool) → b ≡ x → b ≡ true
          by true e = e
          by false e = absurd (true≢false (sym (at_end (site_of graph lost.at) refl lost.returns) ∙ answers.none e lost.at.block (past lost.at.block comes.begin comes.there)))
