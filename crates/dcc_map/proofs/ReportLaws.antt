-- From what two runs have in common to the report, and laws of reports.
use Rattle.std.proofs.Common.{◌≡◌, ◌≢◌, ◌⊎◌, inl, inr, ℕ, suc, ◌+◌, ◌<◌, ◌≤◌, List, [], ◌∷◌, ◌++◌, length, map, take, Option, Some, None, refl, sym, ap, ◌∙◌, subst, arith, length-append}
use Rattle.std.specs.Prelude.{slice_get}
use Rattle.std.specs.List.{zip}
use Rattle.std.proofs.Math.Seq.{take-append_seam}
use Rattle.std.proofs.lemmas.Option.{slice_get_cases, slice_get_within}
use Rattle.std.proofs.lemmas.List.{append-nil}
use Rattle.dcc_run.specs.End.{End as RunEnd}
use Rattle.dcc_run.specs.Event.{Event as RunEvent, written_by}
use Rattle.dcc_run.specs.Prefix.{IsPrefix, AreComparable}
use Rattle.dcc_run.specs.System.{System, IsLawful, events_after}
use Rattle.dcc_run.specs.Agreement.{KeepsUp}
use Rattle.dcc_run.proofs.PrefixLaws.{prefix_refl, prefix_trans, prefixes_comparable}
use Rattle.dcc_run.proofs.RunLaws.{events_grow}
use Rattle.dcc_machine.specs.declared.cpu.Cpu.{Cpu}
use Rattle.dcc_c.specs.Tree.{Tree}
use Rattle.dcc_map.specs.declared.machine_side.MachineSide.{MachineSide}
use Rattle.dcc_map.specs.declared.report.Pair.{Pair}
use Rattle.dcc_map.specs.declared.report.Report.{Report}
use Rattle.dcc_map.specs.declared.tally.Tally.{Tally}
use Rattle.dcc_map.specs.declared.text_side.TextSide.{TextSide}
use Rattle.dcc_map.specs.Placed.{Placed, events_of}
use Rattle.dcc_map.specs.Comparison.{IsLongestCommon, ArePairs, both_places, end_of, IsReport}
use Rattle.dcc_map.specs.Agreed.{machine_half, Lists, Differs}
use Rattle.dcc_map.proofs.CommonLaws.{length-events, get-after}

halves : (xs ys : List Placed) → length xs ≡ length ys → machine_half (zip xs ys) ≡ xs
halves [] [] same = refl
halves [] (y ∷ ys) same = refl
halves (x ∷ xs) [] same = absurd (omega (arith, same))
halves (x ∷ xs) (y ∷ ys) same = ap (λ l. x ∷ l) (halves xs ys (omega (arith, same)))

-- the report of what both runs have in common
pub reported : (cpu : Cpu) (tree : Tree) (m : MachineSide) (t : TextSide) (tally : Tally) (lists : Lists) (report : Report)
    → (d : Differs cpu tree m t tally lists report.differs) → report.bytes ≡ tally.bytes
    → ArePairs (zip d.of_machine d.of_text) report.pairs.items
    → end_of report.machine ≡ lists.machine_end → end_of report.text ≡ lists.text_end
    → IsReport lists.machine lists.text lists.machine_end lists.text_end report
reported cpu tree m t tally lists report d bytes pairs machine_end text_end =
    let common : List RunEvent = events_of d.of_machine in
    let long : length common ≡ length d.of_machine = length-events d.of_machine in
    let other : length common ≡ length d.of_text = ap (λ (l : List RunEvent). length l) d.same ∙ length-events d.of_text in
    let first : take (length common) lists.machine ≡ d.of_machine =
    ap (λ n. take n lists.machine) long ∙ ap (take (length d.of_machine)) d.machine_is ∙ take-append_seam d.of_machine d.machine_rest in
    let second : take (length common) lists.text ≡ d.of_text =
    ap (λ n. take n lists.text) other ∙ ap (take (length d.of_text)) d.text_is ∙ take-append_seam d.of_text d.text_rest in
    record {
      common = common;
      longest = d.longest;
      bytes = bytes ∙ d.tallies.bytes ∙ ap (λ (l : List Placed). length (written_by (events_of l))) (halves d.of_machine d.of_text (sym long ∙ other));
      pairs =
          subst (λ (l : List Placed). ArePairs (zip l (take (length common) lists.text)) report.pairs.items) (sym first)
          (subst (λ (l : List Placed). ArePairs (zip d.of_machine l) report.pairs.items) (sym second) pairs);
      differs =
          d.differs_is
          ∙ ap (λ o. both_places o (slice_get d.text_rest 0))
          (sym (ap (λ n. slice_get lists.machine n) long ∙ ap (λ (l : List Placed). slice_get l (length d.of_machine)) d.machine_is ∙ get-after d.of_machine d.machine_rest))
          ∙ ap (λ o. both_places (slice_get lists.machine (length common)) o)
          (sym (ap (λ n. slice_get lists.text n) other ∙ ap (λ (l : List Placed). slice_get l (length d.of_text)) d.text_is ∙ get-after d.of_text d.text_rest));
      machine_end = machine_end;
      text_end = text_end;
    }

-- Laws.

some_there : {X : Type 0} (xs : List X) (n : ℕ) → (slice_get xs n ≡ None) ⊎ (n < length xs)
some_there xs n = elim (slice_get_cases xs n).1 [ inl within ↦ inr within.1 | inr past ↦ inl past.1 ]

past_end : {X : Type 0} (xs : List X) (n : ℕ) → slice_get xs n ≡ None → length xs ≤ n
past_end xs n none = elim (slice_get_cases xs n).1 [
  | inl within ↦ absurd (clash (sym within.2 ∙ none))
  | inr past ↦ past.0
]
  where
    clash : {Y : Type 0} {y : Y} → Some y ≡ None → ⊥
    clash e = cc

prefix-length : {A : Type 0} (front whole : List A) → IsPrefix front whole → length front ≤ length whole
prefix-length front whole p =
    let long : length whole ≡ length front + length p.rest = ap (λ l. length l) p.joins ∙ length-append front p.rest in
    omega (arith, long)

no_rest : {A : Type 0} (rest : List A) → length rest ≤ 0 → rest ≡ []
no_rest [] few = refl
no_rest (x ∷ rest) few = absurd (omega (arith, few))

-- a prefix that is no shorter is the whole
whole_prefix : {A : Type 0} (front whole : List A) → IsPrefix front whole → length whole ≤ length front → whole ≡ front
whole_prefix front whole p few =
    let long : length whole ≡ length front + length p.rest = ap (λ l. length l) p.joins ∙ length-append front p.rest in
    let none : length p.rest ≤ 0 = omega (arith, long, few) in
    p.joins ∙ ap (λ l. front ++ l) (no_rest p.rest none) ∙ append-nil front

one_ends : (first second : Option Placed) → both_places first second ≡ None → (first ≡ None) ⊎ (second ≡ None)
one_ends None second is = inl refl
one_ends (Some a) None is = inr refl
one_ends (Some a) (Some b) is = cc

module _ (machine text : List Placed) (machine_end text_end : RunEnd) (report : Report) (r : IsReport machine text machine_end text_end report) where
  -- where no events differ, one list is a prefix of the other
  pub equal_agree : report.differs ≡ None → AreComparable (events_of machine) (events_of text)
  equal_agree none = elim (one_ends (slice_get machine (length r.common)) (slice_get text (length r.common)) (sym r.differs ∙ none)) [
    | inl ends ↦
        let short = past_end machine (length r.common) ends in
        let same : events_of machine ≡ r.common =
        whole_prefix r.common (events_of machine) r.longest.of_first (let long = length-events machine in omega (arith, short, long)) in
        inl (subst (λ (l : List RunEvent). IsPrefix l (events_of text)) (sym same) r.longest.of_second)
    | inr ends ↦
        let short = past_end text (length r.common) ends in
        let same : events_of text ≡ r.common =
        whole_prefix r.common (events_of text) r.longest.of_second (let long = length-events text in omega (arith, short, long)) in
        inr (subst (λ (l : List RunEvent). IsPrefix l (events_of machine)) (sym same) r.longest.of_first)
  ]

  -- where one list is a prefix of the other, no events differ
  pub never_differ : AreComparable (events_of machine) (events_of text) → report.differs ≡ None
  never_differ comparable =
      r.differs ∙ one_missing (slice_get machine (length r.common)) (slice_get text (length r.common)) (ends comparable)
    where
      one_missing : (first second : Option Placed) → (first ≡ None) ⊎ (second ≡ None) → both_places first second ≡ None
      one_missing None second none = refl
      one_missing (Some a) None none = refl
      one_missing (Some a) (Some b) (inl none) = cc
      one_missing (Some a) (Some b) (inr none) = cc

      ends : AreComparable (events_of machine) (events_of text)
          → (slice_get machine (length r.common) ≡ None) ⊎ (slice_get text (length r.common) ≡ None)
      ends (inl front) = elim (some_there machine (length r.common)) [
        | inl none ↦ inl none
        | inr within ↦
            let few = prefix-length (events_of machine) r.common (r.longest.longest (events_of machine) (prefix_refl (events_of machine)) front) in
            let long = length-events machine in
            absurd (omega (arith, within, few, long))
      ]
      ends (inr front) = elim (some_there text (length r.common)) [
        | inl none ↦ inr none
        | inr within ↦
            let few = prefix-length (events_of text) r.common (r.longest.longest (events_of text) front (prefix_refl (events_of text))) in
            let long = length-events text in
            absurd (omega (arith, within, few, long))
      ]

either-way : (m n : ℕ) → (m ≤ n) ⊎ (n ≤ m)
either-way m n = grind arith

-- the events of a run and of one that keeps up with it are comparable, however many steps that one makes
pub events-comparable : {S T : Type 0} (first : System S) (s : S) (n : ℕ) (second : System T) (t : T) (m steps : ℕ)
    → IsLawful second → KeepsUp first s n second t m → AreComparable (events_after first n s) (events_after second steps t)
events-comparable first s n second t m steps lawful keeps = elim (either-way steps m) [
  | inl less ↦ prefixes_comparable keeps.events (events_grow second lawful steps m t less)
  | inr more ↦ inl (prefix_trans keeps.events (events_grow second lawful m steps t more))
]
