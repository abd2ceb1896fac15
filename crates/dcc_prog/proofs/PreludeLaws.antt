-- Laws of preludes: each code has just one.
use Rattle.std.proofs.Common.{◌≡◌, ℕ, zero, suc, ◌+◌, ◌<◌, ◌≤◌, ◌⊎◌, inl, inr, Bool, true, false, not, ◌&&◌, List, [], ◌∷◌, ◌++◌, length, drop, Some, None, refl, sym, ap, ◌∙◌, subst, arith, length-drop}
use Rattle.std.proofs.lemmas.Bool.{not-true}
use Rattle.dcc_machine.specs.declared.cpu.Cpu.{Cpu}
use Rattle.dcc_machine.specs.declared.instr.Instr.{Instr}
use Rattle.dcc_machine.specs.Table.{instruction_at}
use Rattle.dcc_prog.specs.Layout.{is_prelude_form, may_end_prelude, IsFormAt, IsRun, offset_after, ends_prelude, IsPrelude}
use Rattle.dcc_machine.proofs.TableLaws.{and_left, and_right, and_both, instruction-length}

-- Runs.

-- an instruction of a run lies in the code
pub form-inside : (cpu : Cpu) (code : List ℕ) (at : ℕ) (instr : Instr) → IsFormAt cpu code at instr → (0 < instr.len) × (at + instr.len ≤ length code)
form-inside cpu code at instr is =
    let bounds = instruction-length cpu at (drop at code) instr is.found in
    (bounds.0, omega (arith, bounds.0, bounds.1, length-drop at code))

-- at most one stands at an offset
form-same : (cpu : Cpu) (code : List ℕ) (at : ℕ) (a b : Instr) → IsFormAt cpu code at a → IsFormAt cpu code at b → a ≡ b
form-same cpu code at a b f g = let both = sym f.found ∙ g.found in cc

-- no instruction at the offset may stand in a prelude
abbrev pub NoFormAt : Cpu → List ℕ → ℕ → Type 0
NoFormAt cpu code at = (instr : Instr) → ¬ IsFormAt cpu code at instr

-- one may, or none
form-or_none : (cpu : Cpu) (code : List ℕ) (at : ℕ) → ((instr : Instr) × IsFormAt cpu code at instr) ⊎ NoFormAt cpu code at
form-or_none cpu code at =
    elim (instruction_at cpu at (drop at code)) as (λ o. instruction_at cpu at (drop at code) ≡ o → ((instr : Instr) × IsFormAt cpu code at instr) ⊎ NoFormAt cpu code at) [
      | None ↦ λ e. inr (λ i f. let both = sym e ∙ f.found in cc)
      | Some instr ↦ λ e. elim (is_prelude_form instr.op) as (λ b. is_prelude_form instr.op ≡ b → ((i : Instr) × IsFormAt cpu code at i) ⊎ NoFormAt cpu code at) [
        | true ↦ λ t. inl (instr, record { found = e; form = t })
        | false ↦ λ t. inr (λ i f.
            let both = sym e ∙ f.found in
            let same : instr ≡ i = cc in
            let clash = sym t ∙ ap (λ (k : Instr). is_prelude_form k.op) same ∙ f.form in
            cc)
      ] refl
    ] refl

-- a run that begins in the code ends in it
pub run-inside : (cpu : Cpu) (code : List ℕ) (at : ℕ) (run : List Instr) → at ≤ length code → IsRun cpu code at run → offset_after at run ≤ length code
run-inside cpu code at [] le r = le
run-inside cpu code at (i ∷ rest) le r =
    run-inside cpu code (at + i.len) rest (form-inside cpu code at i r.0).1 r.1

-- a run goes on by a run from its end
pub run-append : (cpu : Cpu) (code : List ℕ) (at : ℕ) (run more : List Instr) → IsRun cpu code at run → IsRun cpu code (offset_after at run) more → IsRun cpu code at (run ++ more)
run-append cpu code at [] more r s = s
run-append cpu code at (i ∷ rest) more r s = (r.0, run-append cpu code (at + i.len) rest more r.1 s)

-- the front of a run is one
pub run-of_append : (cpu : Cpu) (code : List ℕ) (at : ℕ) (run more : List Instr) → IsRun cpu code at (run ++ more) → IsRun cpu code at run
run-of_append cpu code at [] more r = tt
run-of_append cpu code at (i ∷ rest) more r = (r.0, run-of_append cpu code (at + i.len) rest more r.1)

pub offset_after-append : (at : ℕ) (run more : List Instr) → offset_after at (run ++ more) ≡ offset_after (offset_after at run) more
offset_after-append at [] more = refl
offset_after-append at (i ∷ rest) more = offset_after-append (at + i.len) rest more

-- a run is the front of one that can't go on
run-front :
    (cpu : Cpu) (code : List ℕ) (at : ℕ) (run whole : List Instr) → IsRun cpu code at run → IsRun cpu code at whole
    → NoFormAt cpu code (offset_after at whole) → (more : List Instr) × (whole ≡ run ++ more)
run-front cpu code at [] whole r w none = (whole, refl)
run-front cpu code at (i ∷ rest) [] r w none = absurd (none i r.0)
run-front cpu code at (i ∷ rest) (j ∷ others) r w none =
    let same : j ≡ i = form-same cpu code at j i w.0 r.0 in
    let tail_run : IsRun cpu code (at + i.len) others = subst (λ (k : Instr). IsRun cpu code (at + k.len) others) same w.1 in
    let stop : NoFormAt cpu code (offset_after (at + i.len) others) = subst (λ (k : Instr). NoFormAt cpu code (offset_after (at + k.len) others)) same none in
    let tail = run-front cpu code (at + i.len) rest others r.1 tail_run stop in
    (tail.0, let e = tail.1 in cc)

-- runs of one length are the same
run-same : (cpu : Cpu) (code : List ℕ) (at : ℕ) (run other : List Instr) → IsRun cpu code at run → IsRun cpu code at other → length run ≡ length other → run ≡ other
run-same cpu code at [] [] r s e = refl
run-same cpu code at [] (j ∷ others) r s e = absurd (omega arith)
run-same cpu code at (i ∷ rest) [] r s e = absurd (omega arith)
run-same cpu code at (i ∷ rest) (j ∷ others) r s e =
    let same : j ≡ i = form-same cpu code at j i s.0 r.0 in
    let tail_run : IsRun cpu code (at + i.len) others = subst (λ (k : Instr). IsRun cpu code (at + k.len) others) same s.1 in
    let tails : rest ≡ others = run-same cpu code (at + i.len) rest others r.1 tail_run (omega arith) in
    cc

-- a run goes on until it can't
whole-run : (fuel : ℕ) (cpu : Cpu) (code : List ℕ) (at : ℕ) → length code ≤ at + fuel → (run : List Instr) × IsRun cpu code at run × NoFormAt cpu code (offset_after at run)
whole-run zero cpu code at le =
    ([], tt, λ i f. absurd (let b = form-inside cpu code at i f in omega (arith, b.0, b.1)))
whole-run (suc fuel) cpu code at le =
    elim (form-or_none cpu code at) [
      | inr none ↦ ([], tt, none)
      | inl (i, f) ↦
          let b = form-inside cpu code at i f in
          let tail = whole-run fuel cpu code (at + i.len) (omega (arith, b.0)) in
          (i ∷ tail.0, (f, tail.1), tail.2)
    ]

-- Where a prelude ends.

-- a prelude may end after none of them
abbrev pub none_ends : List Instr → Bool
none_ends [] = true
none_ends (i ∷ rest) = not (may_end_prelude i.op) && none_ends rest

pub none_ends-push : (rest : List Instr) (i : Instr) → none_ends rest ≡ true → may_end_prelude i.op ≡ false → none_ends (rest ++ i ∷ []) ≡ true
none_ends-push [] i n h = and_both _ _ (ap not h) refl
none_ends-push (j ∷ rest) i n h =
    and_both _ _ (and_left _ _ n) (none_ends-push rest i (and_right _ _ n) h)

pub ends_prelude-push : (front : List Instr) (i : Instr) → may_end_prelude i.op ≡ true → ends_prelude (front ++ i ∷ []) ≡ true
ends_prelude-push [] i h = h
ends_prelude-push (j ∷ []) i h = h
ends_prelude-push (j ∷ k ∷ front) i h = ends_prelude-push (k ∷ front) i h

ends-tail : (i : Instr) (rest : List Instr) → ends_prelude (i ∷ rest) ≡ true → ends_prelude rest ≡ true
ends-tail i [] h = refl
ends-tail i (j ∷ rest) h = h

-- where a prelude may end after none, none of their fronts ends one
ends-not_front : (i : Instr) (rest more : List Instr) → ends_prelude (i ∷ rest) ≡ true → none_ends (i ∷ rest ++ more) ≡ true → ⊥
ends-not_front i [] more h n =
    let no : may_end_prelude i.op ≡ false = not-true _ (and_left (not (may_end_prelude i.op)) (none_ends more) n) in
    let clash = sym h ∙ no in
    cc
ends-not_front i (j ∷ rest) more h n =
    ends-not_front j rest more h (and_right (not (may_end_prelude i.op)) (none_ends (j ∷ rest ++ more)) n)

ends-within : (front rest other more : List Instr) → front ++ rest ≡ other ++ more → none_ends rest ≡ true → ends_prelude other ≡ true → length other ≤ length front
ends-within [] rest [] more e n h = omega arith
ends-within [] rest (o ∷ other) more e n h =
    absurd (ends-not_front o other more h (subst (λ l. none_ends l ≡ true) e n))
ends-within (f ∷ front) rest [] more e n h = omega arith
ends-within (f ∷ front) rest (o ∷ other) more e n h =
    let tails : front ++ rest ≡ other ++ more = cc in
    let le = ends-within front rest other more tails n (ends-tail o other h) in
    omega arith

-- the prelude is the front of a run that can't go on, up to the last instruction after which it may end
pub prelude-is :
    (cpu : Cpu) (code : List ℕ) (entry : ℕ) (front rest : List Instr) → IsRun cpu code entry (front ++ rest)
    → NoFormAt cpu code (offset_after entry (front ++ rest)) → ends_prelude front ≡ true → none_ends rest ≡ true
    → IsPrelude cpu code entry front
prelude-is cpu code entry front rest run stop ends none = record {
  run = run-of_append cpu code entry front rest run;
  ends = ends;
  longest = λ other r h.
      let more = run-front cpu code entry other (front ++ rest) r run stop in
      ends-within front rest other more.0 more.1 none h;
}

-- instructions cut after the last one after which a prelude may end
record Cut (run : List Instr) : Type 0 where
  front : List Instr
  rest : List Instr
  joins : run ≡ front ++ rest
  ends : ends_prelude front ≡ true
  none : none_ends rest ≡ true

cut-more : (i : Instr) (run front rest : List Instr) → run ≡ front ++ rest → ends_prelude front ≡ true → none_ends rest ≡ true → Cut (i ∷ run)
cut-more i run [] rest e h n =
    elim (may_end_prelude i.op) as (λ b. may_end_prelude i.op ≡ b → Cut (i ∷ run)) [
      | true ↦ λ t. record { front = i ∷ []; rest = rest; joins = ap (λ l. i ∷ l) e; ends = t; none = n }
      | false ↦ λ t. record { front = []; rest = i ∷ rest; joins = ap (λ l. i ∷ l) e; ends = refl; none = and_both _ _ (ap not t) n }
    ] refl
cut-more i run (x ∷ xs) rest e h n =
    record { front = i ∷ x ∷ xs; rest = rest; joins = ap (λ l. i ∷ l) e; ends = h; none = n }

cut-of : (run : List Instr) → Cut run
cut-of [] = record { front = []; rest = []; joins = refl; ends = refl; none = refl }
cut-of (i ∷ run) = let c = cut-of run in cut-more i run c.front c.rest c.joins c.ends c.none

-- each code has a prelude
pub prelude-of : (cpu : Cpu) (code : List ℕ) (entry : ℕ) → (prelude : List Instr) × IsPrelude cpu code entry prelude
prelude-of cpu code entry =
    let whole = whole-run (length code) cpu code entry (omega arith) in
    let c = cut-of whole.0 in
    let run : IsRun cpu code entry (c.front ++ c.rest) = subst (λ l. IsRun cpu code entry l) c.joins whole.1 in
    let stop : NoFormAt cpu code (offset_after entry (c.front ++ c.rest)) = subst (λ l. NoFormAt cpu code (offset_after entry l)) c.joins whole.2 in
    (c.front, prelude-is cpu code entry c.front c.rest run stop c.ends c.none)

-- each code has just one prelude
pub prelude-once : (cpu : Cpu) (code : List ℕ) (entry : ℕ) (prelude other : List Instr) → IsPrelude cpu code entry prelude → IsPrelude cpu code entry other → prelude ≡ other
prelude-once cpu code entry prelude other p q =
    let le = p.longest other q.run q.ends in
    let ge = q.longest prelude p.run p.ends in
    run-same cpu code entry prelude other p.run q.run (omega arith)
