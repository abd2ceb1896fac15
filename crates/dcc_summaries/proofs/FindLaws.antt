-- While what is wanted is followed: what is told of is wanted, and what of it has been followed has told all that follows.
use Rattle.std.proofs.Common.{◌≡◌, ℕ, ◌+◌, ◌<◌, Bool, true, inl, inr, List, [], ◌∷◌, ◌++◌, length, map, flat_map, sym, ap, ◌∙◌, subst, true≢false, arith, Contains}
use Rattle.std.specs.Prelude.{◌⊎◌, ◌↔◌}
use Rattle.std.proofs.lemmas.List.Elements.{Contains-append_left}
use Rattle.dcc_ir.specs.declared.syntax.Loc.{Loc}
use Rattle.dcc_ir.specs.Tree.{Program}
use Rattle.dcc_ir.specs.Run.{graph_at}
use Rattle.dcc_ir.specs.Flow.{graph_or_none}
use Rattle.dcc_ir.specs.WellFormed.{IsProgram}
use Rattle.dcc_ir.proofs.LocationLaws.{Contains-none, contains_among}
use Rattle.dcc_demand.specs.Changes.{Changes}
use Rattle.dcc_demand.specs.Wanted.{Wanted}
use Rattle.dcc_sums.specs.Points.{Site, Executes, Ends, Nowhere}
use Rattle.dcc_sums.specs.Instance.{used_by, used_at_end, action_at, procedures_of}
use Rattle.dcc_sums.proofs.SiteLaws.{contained_map, wanted_used}
use Rattle.dcc_summaries.specs.declared.points.Point.{Point}
use Rattle.dcc_summaries.specs.declared.table.Want.{Want}
use Rattle.dcc_summaries.specs.Points.{position_of, site_in, used_at, all_points}
use Rattle.dcc_summaries.specs.Ways.{lists_in, ArePreds, all_calls, all_returns}
use Rattle.dcc_summaries.specs.Setting.{setting_of}
use Rattle.dcc_summaries.specs.declared.follow.Setting.{Setting as SettingOf}
use Rattle.dcc_summaries.specs.declared.demand.Demand.{Demand as DemandOf}
use Rattle.dcc_ir.specs.Views.{program_of}
use Rattle.dcc_summaries.specs.Pending.{NoneWait, IsTaken}
use Rattle.dcc_summaries.specs.Demands.{Demand, demand_of, no_demand, with_wants, want_at, wants_at, seeds}
use Rattle.dcc_summaries.specs.Follow.{changed_in, followers, Setting}
use Rattle.dcc_summaries.proofs.ListLaws.{from_map, in_flat, from_flat}
use Rattle.dcc_summaries.proofs.PointLaws.{all_are, is_one}
use Rattle.dcc_summaries.proofs.PendingLaws.{total, Waits, none_waits, nowhere, taken_less, taken_waited, waits_on, waited}
use Rattle.dcc_summaries.proofs.KnownLaws.{left, HasWanted, all_wanted}
use Rattle.dcc_summaries.proofs.SoundLaws.{mentioned, mentioned_at, makes_at, setting, entry_of, site_here, IsGood}
use Rattle.dcc_summaries.proofs.SoundLaws.{followers_wanted}
use Rattle.dcc_summaries.proofs.CompleteLaws.{all_told}

-- what is used at a site
used_tells : (pushed : ℕ) (site : Site) (l : Loc) → Contains (used_at site) l → (action_at pushed site).uses l ≡ true
used_tells pushed (Executes stmt) l c = contains_among (used_by stmt) l c
used_tells pushed (Ends exit) l c = contains_among (used_at_end exit) l c
used_tells pushed Nowhere l c = absurd (Contains-none l c)

-- all that can be wanted
abbrev pub universe : Program → List Want
universe p = flat_map (λ at. wants_at at (mentioned p)) (all_points p)

module _ (p : Program) (good : IsProgram p) (changed : ℕ → Loc → Bool) (tells : (i : ℕ) (l : Loc) → (changed i l ≡ true) ↔ Changes (procedures_of p) i l) (preds : List (List (List ℕ))) (are : ArePreds p preds) where
  abbrev s : Setting
  s = setting p good changed tells preds are

  seed_good : (x : Want) → Contains (seeds p (all_points p)) x → IsGood p good x
  seed_good x c =
      let found = from_flat (λ at. wants_at at (used_at (site_in p at))) (all_points p) x c in
      let at = found.0 in
      let is = all_are p at found.1 in
      let used = from_map (want_at at) (used_at (site_in p at)) x found.2 in
      let entry = entry_of p good at.graph in
      let pushed = (graph_or_none (graph_at p.graphs entry)).pushed in
      subst (IsGood p good) used.2 (
        is,
        wanted_used p entry (position_of at) (site_in p at) (site_here p good at is.graph) used.0 (used_tells pushed (site_in p at) used.0 used.1),
        in_flat (λ q. mentioned_at (site_in p q)) (all_points p) at used.0 found.1 (Contains-append_left (used_at (site_in p at)) (makes_at (site_in p at)) used.0 used.1),
      )

  good_within : (x : Want) → IsGood p good x → Contains (universe p) x
  good_within x g = in_flat (λ at. wants_at at (mentioned p)) (all_points p) x.at x (is_one p x.at g.0) (contained_map (want_at x.at) (mentioned p) x.location g.2)

  pub record IsFinding (d : Demand) : Type 0 where
    pub sound : (x : Want) → d.told x ≡ true → IsGood p good x
    pub seeded : (x : Want) → Contains (seeds p (all_points p)) x → d.told x ≡ true
    pub followed : (x : Want) → d.told x ≡ true → Waits d.pending x ⊎ ((y : Want) → Contains (followers s x) y → d.told y ≡ true)
    pub waiting : (x : Want) → Waits d.pending x → d.told x ≡ true

  pub begun : (places : ℕ) → IsFinding (with_wants (no_demand places) (seeds p (all_points p)))
  begun places =
      let has = all_wanted (no_demand places) (seeds p (all_points p)) in
      record {
        sound = λ x t. elim (has.only x t) [
          | inl f ↦ absurd (true≢false (sym f))
          | inr c ↦ seed_good x c
        ];
        seeded = has.there;
        followed = λ x t. elim (has.new x t) [
          | inl f ↦ absurd (true≢false (sym f))
          | inr c ↦ inl c
        ];
        waiting = λ x c. elim (has.known x c) [
          | inl f ↦ absurd (none_waits places x f)
          | inr c' ↦ has.there x c'
        ];
      }

  -- One that waits is followed.
  module _ (d : Demand) (finding : IsFinding d) (rest : List (List Want)) (x : Want) (takes : IsTaken d.pending rest x) where
    abbrev taken : Demand
    taken = record { told = d.told; pending = rest }

    abbrev after : Demand
    after = with_wants taken (followers s x)

    pub next_good : IsGood p good x
    next_good = finding.sound x (finding.waiting x (taken_waited d.pending rest x takes))

    following : HasWanted taken after (followers s x)
    following = all_wanted taken (followers s x)

    pub still_finding : IsFinding after
    still_finding = record {
      sound = λ y t. elim (following.only y t) [
        | inl f ↦ finding.sound y f
        | inr c ↦ followers_wanted p good changed tells preds are x next_good y c
      ];
      seeded = λ y c. following.keeps y (finding.seeded y c);
      followed = λ y t. elim (following.new y t) [
        | inr c ↦ inl c
        | inl f ↦ elim (finding.followed y f) [
          | inr all ↦ inr (λ z c. following.keeps z (all z c))
          | inl c ↦ elim (waits_on d.pending rest x takes y c) [
            | inl c' ↦ inl (following.waits y c')
            | inr e ↦ inr (λ z c'. following.there z (subst (λ w. Contains (followers s w) z) (sym e) c'))
          ]
        ]
      ];
      waiting = λ y c. elim (following.known y c) [
        | inl f ↦ following.keeps y (finding.waiting y (waited d.pending rest x takes y f))
        | inr c' ↦ following.there y c'
      ];
    }

    pub less_left : left (universe p) after + total after.pending < left (universe p) d + total d.pending
    less_left =
        let less = following.less (universe p) (λ y c. good_within y (followers_wanted p good changed tells preds are x next_good y c)) in
        let size = taken_less d.pending rest x takes in
        omega (arith, less, size)

  -- Where none waits, what is told of is just what is wanted.
  pub found_all : (d : Demand) → IsFinding d → NoneWait d.pending → (at : Point) (l : Loc) → at.graph < length p.graphs → (d.told (want_at at l) ≡ true) ↔ Wanted (procedures_of p) (entry_of p good at.graph) (position_of at) l
  found_all d finding none at l inside = (
    λ t. (finding.sound (want_at at l) t).1,
    λ w. all_told p good changed tells preds are d.told (λ x t. (finding.sound x t).0) finding.seeded
        (λ x t. elim (finding.followed x t) [
          | inl c ↦ absurd (nowhere d.pending none x c)
          | inr all ↦ all
        ]) at.graph (position_of at) l inside w,
  )

-- As code keeps it.
module _ (s : SettingOf) where
  abbrev pub program : Program
  program = program_of s.program.now

  abbrev pub change_lists : List (List Bool)
  change_lists = map (λ v. v.items) s.changed.now

  abbrev pub pred_lists : List (List (List ℕ))
  pred_lists = lists_in s.ways.now.preds.items

  abbrev pub Going : DemandOf → Type 0
  Going d = (good : IsProgram program) (tells : (i : ℕ) (l : Loc) → (changed_in change_lists i l ≡ true) ↔ Changes (procedures_of program) i l) (are : ArePreds program pred_lists)
      → IsFinding program good (changed_in change_lists) tells pred_lists are (demand_of d)

  module _ (good : IsProgram program) (tells : (i : ℕ) (l : Loc) → (changed_in change_lists i l ≡ true) ↔ Changes (procedures_of program) i l) (are : ArePreds program pred_lists)
      (points : List Point) (are_all : points ≡ all_points program) (calls : s.ways.now.calls.items ≡ all_calls program points) (returns : s.ways.now.returns.items ≡ all_returns program points) where
    pub setting_same : setting_of s ≡ setting program good (changed_in change_lists) tells pred_lists are
    setting_same =
        let c = calls ∙ ap (all_calls program) are_all in
        let r = returns ∙ ap (all_returns program) are_all in
        λ i. record { program = program; changed = changed_in change_lists; preds = pred_lists; calls = c i; returns = r i }

    -- one that waits was followed
    module _ (before after : DemandOf) (finding : IsFinding program good (changed_in change_lists) tells pred_lists are (demand_of before)) (rest : List (List Want)) (x : Want) (takes : IsTaken (demand_of before).pending rest x)
        (is : demand_of after ≡ with_wants (record { told = (demand_of before).told; pending = rest }) (followers (setting_of s) x)) where
      same : demand_of after ≡ with_wants (record { told = (demand_of before).told; pending = rest }) (followers (setting program good (changed_in change_lists) tells pred_lists are) x)
      same = is ∙ ap (λ z. with_wants (record { told = (demand_of before).told; pending = rest }) (followers z x)) setting_same

      pub going_on : IsFinding program good (changed_in change_lists) tells pred_lists are (demand_of after)
      going_on = subst (IsFinding program good (changed_in change_lists) tells pred_lists are) (sym same)
          (still_finding program good (changed_in change_lists) tells pred_lists are (demand_of before) finding rest x takes)

      pub less : left (universe program) (demand_of after) + total (demand_of after).pending < left (universe program) (demand_of before) + total (demand_of before).pending
      less = subst (λ (d : Demand). left (universe program) d + total d.pending < left (universe program) (demand_of before) + total (demand_of before).pending) (sym same)
          (less_left program good (changed_in change_lists) tells pred_lists are (demand_of before) finding rest x takes)
