-- Marks, one after another.
use Rattle.std.proofs.Common.{◌≡◌, ◌≢◌, ℕ, zero, suc, ◌+◌, ◌<◌, ◌≤◌, ◌==◌, Bool, true, false, ◌||◌, List, [], ◌∷◌, ◌++◌, length, take, drop, slice_set, slice_index_or, replicate, Some, refl, sym, ap, ◌∙◌, subst, arith}
use Rattle.std.proofs.Math.Seq.{take-append_seam}
use Rattle.std.proofs.lemmas.Bool.Decides.{nat_tests}
use Rattle.std.proofs.lemmas.List.{get_or-set_same, get_or-set_other}
use Rattle.dcc_machine.specs.declared.cpu.Cpu.{Cpu}
use Rattle.dcc_machine.specs.declared.instr.Instr.{Instr}
use Rattle.dcc_machine.specs.Table.{instruction_at}
use Rattle.dcc_machine.proofs.TableLaws.{instruction-length}
use Rattle.dcc_prog.specs.Layout.{IsRun, offset_after}
use Rattle.dcc_list.specs.Listed.{is_among, offsets_from}
use Rattle.dcc_list.specs.MarkViews.{IsLeft}

or_true : (a : Bool) → a || true ≡ true
or_true true = refl
or_true false = refl

or_false : (a : Bool) → a || false ≡ a
or_false true = refl
or_false false = refl

pub or_assoc : (a b c : Bool) → (a || b) || c ≡ a || (b || c)
or_assoc true b c = refl
or_assoc false b c = refl

eq_of_test : (a b : ℕ) → a == b ≡ true → a ≡ b
eq_of_test a b h = grind (arith, nat_tests)

apart_of_test : (a b : ℕ) → a == b ≡ false → b ≢ a
apart_of_test a b h e = grind (arith, nat_tests)

-- one mark more
pub set-marked : (marks : List Bool) (i k : ℕ) → i < length marks
    → slice_index_or (slice_set marks i true) k false ≡ slice_index_or marks k false || (i == k)
set-marked marks i k l =
    let P : Bool → Type 0 = λ t. (i == k) ≡ t → slice_index_or (slice_set marks i true) k false ≡ slice_index_or marks k false || t in
    let cases : (t : Bool) → P t = λ t. elim t as P [
      | true ↦ λ e.
          let same : i ≡ k = eq_of_test i k e in
          subst (λ j. slice_index_or (slice_set marks i true) j false ≡ slice_index_or marks j false || true) same
          (get_or-set_same marks i true false l ∙ sym (or_true (slice_index_or marks i false)))
      | false ↦ λ e. get_or-set_other marks i k true false (apart_of_test i k e) ∙ sym (or_false (slice_index_or marks k false))
    ] in
    cases (i == k) refl

-- no mark is there at first
pub unmarked : (n k : ℕ) → slice_index_or (replicate n false) k false ≡ false
unmarked zero k = refl
unmarked (suc n) zero = refl
unmarked (suc n) (suc k) = unmarked n k

-- The prelude -------------------------------------------------------------------------------

pub left-first : (cpu : Cpu) (code : List ℕ) (at start : ℕ) (marks : List Bool) (prelude : List Instr)
    → IsRun cpu code at prelude → offset_after at prelude ≡ start → IsLeft cpu code at start marks marks (offsets_from at prelude)
left-first cpu code at start marks prelude run ends = record { rest = prelude; run = run; ends = ends; marked = λ k. refl }

after-run : (cpu : Cpu) (code : List ℕ) (at : ℕ) (rest : List Instr) → IsRun cpu code at rest → at ≤ offset_after at rest
after-run cpu code at [] run = omega arith
after-run cpu code at (instr ∷ rest) run = let more = after-run cpu code (at + instr.len) rest run.1 in omega (arith, more)

-- where the prelude ends nothing is left
pub left-none : (cpu : Cpu) (code : List ℕ) (at start : ℕ) (now then : List Bool) (offsets : List ℕ) (k : ℕ)
    → IsLeft cpu code at start now then offsets → start ≤ at
    → slice_index_or now k false ≡ slice_index_or then k false || is_among k offsets
left-none cpu code at start now then offsets k left past = cases left.rest left.run left.ends (left.marked k)
  where
    cases : (rest : List Instr) → IsRun cpu code at rest → offset_after at rest ≡ start
        → slice_index_or now k false || is_among k (offsets_from at rest) ≡ slice_index_or then k false || is_among k offsets
        → slice_index_or now k false ≡ slice_index_or then k false || is_among k offsets
    cases [] run ends marked = sym (or_false (slice_index_or now k false)) ∙ marked
    cases (instr ∷ rest) run ends marked =
        let some = (instruction-length cpu at (drop at code) instr (run.0).found).0 in
        let more = after-run cpu code (at + instr.len) rest run.1 in
        absurd (omega (arith, some, more, ends, past))

-- an instruction stands where some of the prelude is left
pub left-stands : (cpu : Cpu) (code : List ℕ) (at start : ℕ) (now then : List Bool) (offsets : List ℕ)
    → IsLeft cpu code at start now then offsets → at < start → (instr : Instr) × (instruction_at cpu at (drop at code) ≡ Some instr)
left-stands cpu code at start now then offsets left before = cases left.rest left.run left.ends
  where
    cases : (rest : List Instr) → IsRun cpu code at rest → offset_after at rest ≡ start → (instr : Instr) × (instruction_at cpu at (drop at code) ≡ Some instr)
    cases [] run ends = absurd (omega (arith, ends, before))
    cases (first ∷ rest) run ends = (first, (run.0).found)

-- one instruction of the prelude is marked
pub left-next : (cpu : Cpu) (code : List ℕ) (at start : ℕ) (now then : List Bool) (offsets : List ℕ) (instr : Instr)
    → IsLeft cpu code at start now then offsets → at < start → at < length now
    → instruction_at cpu at (drop at code) ≡ Some instr
    → IsLeft cpu code (at + instr.len) start (slice_set now at true) then offsets
left-next cpu code at start now then offsets instr left before within found = cases left.rest left.run left.ends left.marked
  where
    cases : (rest : List Instr) → IsRun cpu code at rest → offset_after at rest ≡ start
        → ((k : ℕ) → slice_index_or now k false || is_among k (offsets_from at rest) ≡ slice_index_or then k false || is_among k offsets)
        → IsLeft cpu code (at + instr.len) start (slice_set now at true) then offsets
    cases [] run ends marked = absurd (omega (arith, ends, before))
    cases (first ∷ rest) run ends marked =
        let found_first : instruction_at cpu at (drop at code) ≡ Some first = (run.0).found in
        let same : first ≡ instr = cc in
        record {
          rest = rest;
          run = subst (λ (i : Instr). IsRun cpu code (at + i.len) rest) same run.1;
          ends = subst (λ (i : Instr). offset_after (at + i.len) rest ≡ start) same ends;
          marked = λ k.
              ap (λ b. b || is_among k (offsets_from (at + instr.len) rest)) (set-marked now at k within)
              ∙ or_assoc (slice_index_or now k false) (at == k) (is_among k (offsets_from (at + instr.len) rest))
              ∙ subst (λ (i : Instr). slice_index_or now k false || ((at == k) || is_among k (offsets_from (at + i.len) rest)) ≡ slice_index_or then k false || is_among k offsets) same (marked k);
        }

-- a vector with other items of the same number
pub refilled : (xs items : List Bool) (n : ℕ) → length xs ≡ n → take n (xs ++ drop (length xs) items) ≡ xs
refilled xs items n e = ap (λ k. take k (xs ++ drop (length xs) items)) (sym e) ∙ take-append_seam xs (drop (length xs) items)
