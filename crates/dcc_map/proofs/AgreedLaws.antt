-- Two runs compared event by event: what is kept from one event to the next, and what it comes to.
use Rattle.std.proofs.Common.{◌≡◌, ◌≢◌, ℕ, suc, ◌+◌, ◌<◌, ◌≤◌, ◌^◌, List, [], ◌∷◌, ◌++◌, length, Option, Some, None, refl, sym, ap, ◌∙◌, subst, append_assoc, arith, length-append}
use Rattle.std.specs.Prelude.{slice_get}
use Rattle.std.specs.List.{zip}
use Rattle.std.proofs.lemmas.List.{append-nil}
use Rattle.dcc_run.specs.Event.{Event as RunEvent}
use Rattle.dcc_run.specs.Prefix.{IsPrefix}
use Rattle.dcc_run.proofs.PrefixLaws.{prefix_append}
use Rattle.dcc_machine.specs.declared.cpu.Cpu.{Cpu}
use Rattle.dcc_c.specs.Tree.{Tree}
use Rattle.dcc_step.specs.Stepped.{machine as machines}
use Rattle.dcc_crun.specs.Stepped.{texts}
use Rattle.dcc_map.specs.declared.event.Event.{Event}
use Rattle.dcc_map.specs.declared.machine_side.MachineSide.{MachineSide}
use Rattle.dcc_map.specs.declared.tally.Tally.{Tally}
use Rattle.dcc_map.specs.declared.text_side.TextSide.{TextSide}
use Rattle.dcc_map.specs.Placed.{Placed, events_of}
use Rattle.dcc_map.specs.Comparison.{IsLongestCommon, both_places}
use Rattle.dcc_map.specs.Compared.{address_of, line_of}
use Rattle.dcc_map.specs.Side.{Coming, Leaves, machine_side, text_side, event_of}
use Rattle.dcc_map.specs.Agreed.{Tallies, beside, Lists, AreWhole, HaveCommon, Differs}
use Rattle.dcc_map.proofs.CommonLaws.{common_first, common_second, common_differ, events-append, length-events, zip-append, length-zip}

-- what is no event is none
pub no_event : (o : Option Event) → ((event : Event) → o ≡ Some event → ⊥) → o ≡ None
no_event None no_some = refl
no_event (Some event) no_some = absurd (no_some event refl)

module _ (cpu : Cpu) (tree : Tree) (lists : Lists) where
  -- at the beginning
  pub common_whole : (m : MachineSide) (t : TextSide) (tally : Tally) → AreWhole cpu tree m t tally lists → HaveCommon cpu tree m t tally lists 0
  common_whole m t tally whole = record {
    of_machine = [];
    of_text = [];
    same = refl;
    long = refl;
    machine_rest = lists.machine;
    text_rest = lists.text;
    machine_is = refl;
    text_is = refl;
    machine = whole.machine;
    text = whole.text;
    tallies = whole.tallies;
  }

  module _ (m : MachineSide) (t : TextSide) (tally : Tally) (count : ℕ) (c : HaveCommon cpu tree m t tally lists count) where
    as_long : length c.of_machine ≡ length c.of_text
    as_long =
        sym (length-events c.of_machine) ∙ ap (λ (l : List RunEvent). length l) c.same ∙ length-events c.of_text

    -- so many events are counted
    pub common_few : length lists.machine < 2 ^ 63 → (count < 2 ^ 63) × (length (zip c.of_machine c.of_text) < 2 ^ 63)
    common_few few =
        let whole : length lists.machine ≡ length c.of_machine + length c.machine_rest =
        ap (λ (l : List Placed). length l) c.machine_is ∙ length-append c.of_machine c.machine_rest in
        let both = length-zip c.of_machine c.of_text as_long in
        (omega (arith, few, whole, c.long), omega (arith, few, whole, both))

    -- one event more
    pub common_next : (mn : MachineSide) (tn : TextSide) (now : Tally) (first second : Event)
        → Leaves machines address_of cpu (machine_side mn) mn.at c.machine_rest lists.machine_end (Some first)
        → Leaves texts line_of tree (text_side tn) tn.line c.text_rest lists.text_end (Some second)
        → event_of first ≡ event_of second
        → Tallies (zip c.of_machine c.of_text ++ beside tn.line mn.at first ∷ []) now
        → HaveCommon cpu tree mn tn now lists (count + 1)
    common_next mn tn now first second of_m of_t same tallies =
        let a : Placed = record { at = mn.at; event = event_of first } in
        let b : Placed = record { at = tn.line; event = event_of second } in
        let b_is : record { at = tn.line; event = event_of first } ≡ b = ap (λ (e : RunEvent). record { at = tn.line; event = e }) same in
        record {
          of_machine = c.of_machine ++ a ∷ [];
          of_text = c.of_text ++ b ∷ [];
          same =
              events-append c.of_machine (a ∷ []) ∙ ap (λ l. l ++ event_of first ∷ []) c.same
              ∙ ap (λ (e : RunEvent). events_of c.of_text ++ e ∷ []) same ∙ sym (events-append c.of_text (b ∷ []));
          long = length-append c.of_machine (a ∷ []) ∙ ap (λ n. n + 1) c.long;
          machine_rest = of_m.0;
          text_rest = of_t.0;
          machine_is = c.machine_is ∙ ap (λ l. c.of_machine ++ l) of_m.1 ∙ sym (append_assoc c.of_machine (a ∷ []) of_m.0);
          text_is = c.text_is ∙ ap (λ l. c.of_text ++ l) of_t.1 ∙ sym (append_assoc c.of_text (b ∷ []) of_t.0);
          machine = of_m.2;
          text = of_t.2;
          tallies =
              subst (λ (l : List (Placed × Placed)). Tallies l now) (sym (zip-append c.of_machine c.of_text a b as_long))
              (subst (λ (p : Placed). Tallies (zip c.of_machine c.of_text ++ (a, p) ∷ []) now) b_is tallies);
        }

    -- the events of the machine and of the text, by those that both begin with
    machine_events : events_of lists.machine ≡ events_of c.of_machine ++ events_of c.machine_rest
    machine_events = ap events_of c.machine_is ∙ events-append c.of_machine c.machine_rest

    text_events : events_of lists.text ≡ events_of c.of_machine ++ events_of c.text_rest
    text_events =
        ap events_of c.text_is ∙ events-append c.of_text c.text_rest
        ∙ ap (λ l. l ++ events_of c.text_rest) (sym c.same)

    -- no further event of the machine
    pub machine_ends : (mn : MachineSide) → Leaves machines address_of cpu (machine_side mn) mn.at c.machine_rest lists.machine_end None
        → Differs cpu tree mn t tally lists None
    machine_ends mn left =
        let all : events_of lists.machine ≡ events_of c.of_machine =
        machine_events ∙ ap (λ l. events_of c.of_machine ++ events_of l) left.0 ∙ append-nil (events_of c.of_machine) in
        record {
          of_machine = c.of_machine;
          of_text = c.of_text;
          same = c.same;
          machine_rest = c.machine_rest;
          text_rest = c.text_rest;
          machine_is = c.machine_is;
          text_is = c.text_is;
          longest =
              subst (λ (l : List RunEvent). IsLongestCommon (events_of c.of_machine) l (events_of lists.text)) (sym all)
              (common_first (events_of c.of_machine) (events_of lists.text) (record { rest = events_of c.text_rest; joins = text_events }));
          differs_is = sym (ap (λ (l : List Placed). both_places (slice_get l 0) (slice_get c.text_rest 0)) left.0);
          machine_left = [];
          text_left = c.text_rest;
          machine = left.1;
          text = c.text;
          tallies = c.tallies;
        }

    -- no further event of the text
    pub text_ends : (mn : MachineSide) (tn : TextSide) (first : Event)
        → Leaves machines address_of cpu (machine_side mn) mn.at c.machine_rest lists.machine_end (Some first)
        → Leaves texts line_of tree (text_side tn) tn.line c.text_rest lists.text_end None
        → Differs cpu tree mn tn tally lists None
    text_ends mn tn first of_m left =
        let all : events_of lists.text ≡ events_of c.of_machine =
        text_events ∙ ap (λ l. events_of c.of_machine ++ events_of l) left.0 ∙ append-nil (events_of c.of_machine) in
        record {
          of_machine = c.of_machine;
          of_text = c.of_text;
          same = c.same;
          machine_rest = c.machine_rest;
          text_rest = c.text_rest;
          machine_is = c.machine_is;
          text_is = c.text_is;
          longest =
              subst (λ (l : List RunEvent). IsLongestCommon (events_of c.of_machine) (events_of lists.machine) l) (sym all)
              (common_second (events_of lists.machine) (events_of c.of_machine) (record { rest = events_of c.machine_rest; joins = machine_events }));
          differs_is = no_text (slice_get c.machine_rest 0) ∙ sym (ap (λ (l : List Placed). both_places (slice_get c.machine_rest 0) (slice_get l 0)) left.0);
          machine_left = of_m.0;
          text_left = [];
          machine = of_m.2;
          text = left.1;
          tallies = c.tallies;
        }
      where
        no_text : (o : Option Placed) → None ≡ both_places o None
        no_text None = refl
        no_text (Some p) = refl

    -- other events
    pub events_differ : (mn : MachineSide) (tn : TextSide) (first second : Event)
        → Leaves machines address_of cpu (machine_side mn) mn.at c.machine_rest lists.machine_end (Some first)
        → Leaves texts line_of tree (text_side tn) tn.line c.text_rest lists.text_end (Some second)
        → event_of first ≢ event_of second
        → Differs cpu tree mn tn tally lists (Some (tn.line, mn.at))
    events_differ mn tn first second of_m of_t other =
        let of_machine = machine_events ∙ ap (λ l. events_of c.of_machine ++ events_of l) of_m.1 in
        let of_text = text_events ∙ ap (λ l. events_of c.of_machine ++ events_of l) of_t.1 in
        record {
          of_machine = c.of_machine;
          of_text = c.of_text;
          same = c.same;
          machine_rest = c.machine_rest;
          text_rest = c.text_rest;
          machine_is = c.machine_is;
          text_is = c.text_is;
          longest =
              subst (λ (l : List RunEvent). IsLongestCommon (events_of c.of_machine) l (events_of lists.text)) (sym of_machine)
              (subst (λ (l : List RunEvent). IsLongestCommon (events_of c.of_machine) (events_of c.of_machine ++ event_of first ∷ events_of of_m.0) l) (sym of_text)
              (common_differ (events_of c.of_machine) (event_of first) (event_of second) (events_of of_m.0) (events_of of_t.0) other));
          differs_is =
              sym (ap (λ (l : List Placed). both_places (slice_get l 0) (slice_get c.text_rest 0)) of_m.1
              ∙ ap (λ (l : List Placed). both_places (Some (record { at = mn.at; event = event_of first })) (slice_get l 0)) of_t.1);
          machine_left = of_m.0;
          text_left = of_t.0;
          machine = of_m.2;
          text = of_t.2;
          tallies = c.tallies;
        }
