-- Two runs that are compared event by event.
use Rattle.std.specs.Prelude.{◌≡◌, ◌^◌, ◌<◌, ℕ, List, [], ◌∷◌, ◌++◌, length, map, All, slice_get, Option}
use Rattle.std.specs.Option.{unwrap_or}
use Rattle.std.specs.List.{zip}
use Rattle.std.specs.declared.cmp.Ordering.{Ordering}
use Rattle.std.specs.Ordering.{nat_cmp, ordering_then}
use Rattle.std.specs.BTreeMap.{get, values}
use Rattle.dcc_run.specs.End.{End as RunEnd}
use Rattle.dcc_run.specs.Event.{written_by}
use Rattle.dcc_machine.specs.declared.cpu.Cpu.{Cpu}
use Rattle.dcc_c.specs.Tree.{Tree}
use Rattle.dcc_step.specs.Stepped.{machine as machines}
use Rattle.dcc_crun.specs.Stepped.{texts}
use Rattle.dcc_map.specs.declared.event.Event.{Event}
use Rattle.dcc_map.specs.declared.machine_side.MachineSide.{MachineSide}
use Rattle.dcc_map.specs.declared.tally.Tally.{Tally}
use Rattle.dcc_map.specs.declared.text_side.TextSide.{TextSide}
use Rattle.dcc_map.specs.Placed.{Placed, events_of}
use Rattle.dcc_map.specs.Comparison.{count_beside, both_places, IsLongestCommon}
use Rattle.dcc_map.specs.Compared.{address_of, line_of}
use Rattle.dcc_map.specs.Side.{Coming, machine_side, text_side, event_of}

-- the order of lines with addresses
abbrev pub site_cmp : ℕ × ℕ → ℕ × ℕ → Ordering
site_cmp first second = ordering_then (nat_cmp first.0 second.0) (nat_cmp first.1 second.1)

-- the machine's events of those beside each other
abbrev pub machine_half : List (Placed × Placed) → List Placed
machine_half both = map (λ events. events.0) both

-- the tally has the bytes that are written in these events, and how often each line and each address stand beside each
-- other in them
pub record Tallies (both : List (Placed × Placed)) (tally : Tally) : Type 0 where
  pub bytes : tally.bytes ≡ length (written_by (events_of (machine_half both)))
  pub some : All (λ count. 0 < count) (values tally.counts)
  pub counts : (line at : ℕ) → unwrap_or (get site_cmp tally.counts (line, at)) 0 ≡ count_beside line at both

-- an event of the machine and one of the text, with their places
abbrev pub beside : ℕ → ℕ → Event → Placed × Placed
beside line at event =
    (record { at = at; event = event_of event }, record { at = line; event = event_of event })

-- the lists of events of both runs, and how these end
pub record Lists : Type 0 where
  pub machine : List Placed
  pub text : List Placed
  pub machine_end : RunEnd
  pub text_end : RunEnd

-- the sides are at the beginning of these lists, which are not too long to be counted
pub record AreWhole (cpu : Cpu) (tree : Tree) (machine_now : MachineSide) (text_now : TextSide) (tally : Tally)
    (lists : Lists) : Type 0 where
  pub machine : Coming machines address_of cpu (machine_side machine_now) lists.machine lists.machine_end
  pub text : Coming texts line_of tree (text_side text_now) lists.text lists.text_end
  pub tallies : Tallies [] tally
  pub few : length lists.machine < 2 ^ 63

-- Both lists begin with the same events, so many, which are counted; and the sides are at what follows.
pub record HaveCommon (cpu : Cpu) (tree : Tree) (machine_now : MachineSide) (text_now : TextSide) (tally : Tally)
    (lists : Lists) (count : ℕ) : Type 0 where
  pub of_machine : List Placed
  pub of_text : List Placed
  pub same : events_of of_machine ≡ events_of of_text
  pub long : length of_machine ≡ count
  pub machine_rest : List Placed
  pub text_rest : List Placed
  pub machine_is : lists.machine ≡ of_machine ++ machine_rest
  pub text_is : lists.text ≡ of_text ++ text_rest
  pub machine : Coming machines address_of cpu (machine_side machine_now) machine_rest lists.machine_end
  pub text : Coming texts line_of tree (text_side text_now) text_rest lists.text_end
  pub tallies : Tallies (zip of_machine of_text) tally

-- What both lists begin with is counted, as far as they agree; the answer has the places of the first events that
-- differ, where there are such; and the sides are at something that follows.
pub record Differs (cpu : Cpu) (tree : Tree) (machine_now : MachineSide) (text_now : TextSide) (tally : Tally)
    (lists : Lists) (differs : Option (ℕ × ℕ)) : Type 0 where
  pub of_machine : List Placed
  pub of_text : List Placed
  pub same : events_of of_machine ≡ events_of of_text
  pub machine_rest : List Placed
  pub text_rest : List Placed
  pub machine_is : lists.machine ≡ of_machine ++ machine_rest
  pub text_is : lists.text ≡ of_text ++ text_rest
  pub longest : IsLongestCommon (events_of of_machine) (events_of lists.machine) (events_of lists.text)
  pub differs_is : differs ≡ both_places (slice_get machine_rest 0) (slice_get text_rest 0)
  pub machine_left : List Placed
  pub text_left : List Placed
  pub machine : Coming machines address_of cpu (machine_side machine_now) machine_left lists.machine_end
  pub text : Coming texts line_of tree (text_side text_now) text_left lists.text_end
  pub tallies : Tallies (zip of_machine of_text) tally
