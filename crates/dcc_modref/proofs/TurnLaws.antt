-- A turn of a block: what it keeps, that it leaves less where something is new, and the block's state has flowed on where
-- nothing is.
use Rattle.std.proofs.Common.{◌≡◌, ℕ, ◌<◌, ◌≤◌, Bool, true, false, inl, inr, List, [], ◌∷◌, length, get_or, slice_set, refl, sym, ap, ◌∙◌, subst, true≢false, arith, Contains}
use Rattle.std.specs.Prelude.{Option, Some, None, All}
use Rattle.std.proofs.lemmas.Bool.{cases_eq, or_cases}
use Rattle.std.proofs.lemmas.List.{length-set, get_or-set_same, get_or-set_other, set-get_or}
use Rattle.std.proofs.lemmas.List.Elements.{All-nil, All-cons}
use Rattle.dcc_ir.specs.declared.syntax.Loc.{Loc}
use Rattle.dcc_ir.specs.Flow.{targets}
use Rattle.dcc_ir.specs.Live.{is_among, block_in}
use Rattle.dcc_ir.specs.Tree.{Graph}
use Rattle.dcc_ir.proofs.LocationLaws.{Contains-here, Contains-later}
use Rattle.dcc_sums.specs.Points.{begin_of}
use Rattle.dcc_modref.specs.States.{State, at_entry, joined, after_all}
use Rattle.dcc_modref.specs.Tables.{States, IsWithin, Flows, IsMet, AreFlowing, words_of, left_in}
use Rattle.dcc_modref.specs.Flowing.{met as met', is_new, flowed, all_flowed, any_new, HasTurned}
use Rattle.dcc_modref.proofs.MetLaws.{met_target, met_joined, saved_known}
use Rattle.dcc_modref.proofs.FlowLaws.{within_both, within_joined, known_same, or_none, flowed_less, less_saved}

pub some_is : {A : Type 0} (x y : A) → Some x ≡ Some y → x ≡ y
some_is {A} x y e = ap the e
  where
    the : Option A → A
    the (Some z) = z
    the None = x

pub none_is : {A P : Type 0} (x : A) → None ≡ Some x → P
none_is {A} x e = absurd (true≢false (sym (ap is_some e)))
  where
    is_some : Option A → Bool
    is_some (Some y) = true
    is_some None = false

same_there : (begins : States) (b : ℕ) (s : State) (x : Option State) → get_or begins b None ≡ x → is_new x s ≡ false → (slice_set begins b (met' x s) ≡ begins) × Flows s begins b
same_there begins b s None e n = absurd (true≢false n)
same_there begins b s (Some known) e n =
    let k = known_same known s n in
    (ap (λ z. slice_set begins b (Some z)) k.0 ∙ ap (slice_set begins b) (sym e) ∙ set-get_or begins b None, record { state = known; there = e; within = k.1 })

-- nothing new: the states stay, and have what flows
all_same : (begins : States) (s : State) (blocks : List ℕ) → any_new begins s blocks ≡ false → (all_flowed begins s blocks ≡ begins) × All (Flows s begins) blocks
all_same begins s [] e = (refl, All-nil (Flows s begins))
all_same begins s (b ∷ blocks) e =
    let two = or_none (is_new (get_or begins b None) s) (any_new (flowed begins b s) s blocks) e in
    let one = same_there begins b s (get_or begins b None) refl two.0 in
    let rest = all_same begins s blocks (sym (ap (λ z. any_new z s blocks) one.0) ∙ two.1) in
    (ap (λ z. all_flowed z s blocks) one.0 ∙ rest.0, All-cons (Flows s begins) b blocks one.1 rest.1)

module _ (changed : ℕ → Bool) (graph : Graph) (location : Loc) where
  abbrev Going : States → Type 0
  Going = AreFlowing changed graph location

  abbrev words : List Loc
  words = words_of location graph

  -- one state flows to one block
  flows_to : (begins : States) (b : ℕ) (s : State) → Going begins → b < length begins → IsMet changed graph location (begin_of b) s
      → ((word : Loc) → is_among s.saved word ≡ true → is_among words word ≡ true) → Going (flowed begins b s)
  flows_to begins b s going inside met of = record {
    count = length-set begins b new ∙ going.count;
    met = λ k t e. elim (cases_eq k b) [
      | inl is ↦ subst (λ n. IsMet changed graph location (begin_of n) t) (sym is) (here_met (get_or begins b None) refl t (sym (get_or-set_same begins b new None inside) ∙ ap (λ n. get_or (slice_set begins b new) n None) (sym is) ∙ e))
      | inr o ↦ going.met k t (sym (get_or-set_other begins b k new None o) ∙ e)
    ];
    known = λ k t word e among. elim (cases_eq k b) [
      | inl is ↦ here_known (get_or begins b None) refl t (sym (get_or-set_same begins b new None inside) ∙ ap (λ n. get_or (slice_set begins b new) n None) (sym is) ∙ e) word among
      | inr o ↦ going.known k t word (sym (get_or-set_other begins b k new None o) ∙ e) among
    ];
    entered = elim (cases_eq 0 b) [
      | inl is ↦ here_entered (get_or begins b None) (ap (λ n. get_or begins n None) (sym is)) (ap (λ n. get_or (slice_set begins b new) n None) is ∙ get_or-set_same begins b new None inside)
      | inr o ↦ record { state = going.entered.state; there = get_or-set_other begins b 0 new None o ∙ going.entered.there; within = going.entered.within }
    ];
  }
    where
      new : Option State
      new = met' (get_or begins b None) s

      here_met : (x : Option State) → get_or begins b None ≡ x → (t : State) → met' x s ≡ Some t → IsMet changed graph location (begin_of b) t
      here_met None e t is = subst (IsMet changed graph location (begin_of b)) (some_is s t is) met
      here_met (Some known) e t is = subst (IsMet changed graph location (begin_of b)) (some_is (joined known s) t is) (met_joined changed graph location (begin_of b) known s (going.met b known e) met)

      here_known : (x : Option State) → get_or begins b None ≡ x → (t : State) → met' x s ≡ Some t → (word : Loc) → is_among t.saved word ≡ true → is_among words word ≡ true
      here_known None e t is word among = of word (ap (λ (u : State). is_among u.saved word) (some_is s t is) ∙ among)
      here_known (Some known) e t is word among =
          going.known b known word e (less_saved words known s word (ap (λ (u : State). is_among u.saved word) (some_is (joined known s) t is) ∙ among))

      here_entered : (x : Option State) → x ≡ get_or begins 0 None → get_or (slice_set begins b new) 0 None ≡ met' x s → Flows at_entry (slice_set begins b new) 0
      here_entered None e at = none_is going.entered.state (e ∙ going.entered.there)
      here_entered (Some known) e at = record {
        state = joined known s;
        there = at;
        within = within_both at_entry known (joined known s) (subst (IsWithin at_entry) (sym (some_is known going.entered.state (e ∙ going.entered.there))) going.entered.within) (within_joined known s);
      }

  -- a state flows to all blocks of the list
  all_flow : (begins : States) (s : State) (blocks : List ℕ) → Going begins → ((b : ℕ) → Contains blocks b → (b < length begins) × IsMet changed graph location (begin_of b) s)
      → ((word : Loc) → is_among s.saved word ≡ true → is_among words word ≡ true)
      → Going (all_flowed begins s blocks) × (left_in words (all_flowed begins s blocks) ≤ left_in words begins)
      × (any_new begins s blocks ≡ true → left_in words (all_flowed begins s blocks) < left_in words begins)
  all_flow begins s [] going each of = (going, omega arith, λ e. absurd (true≢false (sym e)))
  all_flow begins s (b ∷ blocks) going each of =
      let one = each b (Contains-here b blocks) in
      let next = flowed begins b s in
      let less = flowed_less words begins b s one.0 going.known in
      let rest = all_flow next s blocks (flows_to begins b s going one.0 one.1 of)
      (λ k c. let x = each k (Contains-later b blocks k c) in let size = length-set begins b (met' (get_or begins b None) s) in (omega (arith, x.0, size), x.1)) of in
      let all = rest.1 in
      let first = less.0 in (
        rest.0,
        omega (arith, all, first),
        λ e. elim (or_cases (is_new (get_or begins b None) s) (any_new next s blocks) e) [
          | inl n ↦ let fewer = less.1 n in omega (arith, all, fewer)
          | inr n ↦ let fewer = rest.2 n in omega (arith, fewer, first)
        ],
      )

  -- A turn of a block that is reached.
  pub turned : (begins : States) (b : ℕ) (s : State) → Going begins → get_or begins b None ≡ Some s
      → ((k : ℕ) → Contains (targets (block_in graph b).exit) k → k < length graph.blocks)
      → let t = after_all changed graph.pushed location (block_in graph b).stmts s in
      let tos = targets (block_in graph b).exit in
      Going (all_flowed begins t tos) × HasTurned changed graph location begins (all_flowed begins t tos) (any_new begins t tos) (λ k. k ≡ b)
  turned begins b s going there below =
      let t = after_all changed graph.pushed location (block_in graph b).stmts s in
      let tos = targets (block_in graph b).exit in
      let all = all_flow begins t tos going (λ k c. let x = below k c in let n = going.count in (omega (arith, x, n), met_target changed graph location b k s (going.met b s there) c))
      (saved_known changed graph location b s (λ word e. going.known b s word there e)) in (
        all.0,
        record {
          less = all.2;
          same = λ e. (all_same begins t tos e).0;
          flowed = λ e k is u at.
              subst (λ n. All (Flows (after_all changed graph.pushed location (block_in graph n).stmts u) begins) (targets (block_in graph n).exit)) (sym is)
              (subst (λ v. All (Flows (after_all changed graph.pushed location (block_in graph b).stmts v) begins) tos) (some_is s u (sym there ∙ ap (λ n. get_or begins n None) (sym is) ∙ at)) (all_same begins t tos e).1);
        },
      )

  -- A turn of one that isn't.
  pub not_turned : (begins : States) (b : ℕ) → get_or begins b None ≡ None → HasTurned changed graph location begins begins false (λ k. k ≡ b)
  not_turned begins b none = record {
    less = λ e. absurd (true≢false (sym e));
    same = λ e. refl;
    flowed = λ e k is u at. none_is u (sym none ∙ ap (λ n. get_or begins n None) (sym is) ∙ at);
  }
