-- A small program whose callee saves half of a register on the stack and gives another back; and near misses.
use Rattle.std.proofs.Common.{arith, ◌≡◌, ℕ, zero, suc, true, false, not, ◌⊎◌, inl, inr, List, [], ◌∷◌, ◌++◌, Some, refl, sym, ap, ◌∙◌, subst, true≢false, map}
use Rattle.std.specs.Prelude.{Contains, filter}
use Rattle.std.proofs.lemmas.List.Elements.{All-nil, All-cons, All-head, All-tail}
use Rattle.dcc_num.specs.declared.Reg.TheVariants.{Ax, Dx, Si}
use Rattle.dcc_num.specs.declared.Half.TheVariants.{Low}
use Rattle.dcc_ir.specs.declared.syntax.Loc.{Loc}
use Rattle.dcc_ir.specs.declared.syntax.Loc.TheVariants.{Half, Flag, Cell, Temp}
use Rattle.dcc_ir.specs.Location.{register_number, same_location}
use Rattle.dcc_ir.specs.Tree.{Const, Get, Stmt, Set, Call, Ret, Stop, Block, Graph, Program, Summary}
use Rattle.dcc_ir.specs.Passing.{passed, param_of}
use Rattle.dcc_ir.specs.declared.syntax.Param.{Param}
use Rattle.dcc_ir.proofs.CallingPrograms as calling
use Rattle.dcc_ir.proofs.LocationLaws.{Contains-here, Contains-none, Contains-cases}
use Rattle.dcc_demand.specs.Procedures.{Leaves, Copies, Pops, Makes, LeavesWord, Pushes, Overwrites, Procedures, ChangeFamily}
use Rattle.dcc_demand.specs.Trail.{IsTrail}
use Rattle.dcc_demand.specs.Changes.{IsUnsaved, Loses, Changes, ChangesWithin, IsPreserved}
use Rattle.dcc_demand.specs.Wanted.{Wanted, IsWantedBy, IsParam, IsResult}
use Rattle.dcc_demand.proofs.ChangeLaws.{changes-closed}
use Rattle.dcc_sums.specs.Points.{Position, Executes, Ends, Nowhere, site_of}
use Rattle.dcc_sums.specs.Instance.{action_of, procedures_of}
use Rattle.dcc_sums.specs.Summaries.{IsHalfOf, AreOneValue, GivesOneValue}
use Rattle.dcc_sums.specs.Localised.{localised}

abbrev pub al : Loc
al = Half Ax Low

abbrev pub dl : Loc
dl = Half Dx Low

abbrev pub si : Loc
si = Half Si Low

abbrev pub word : Loc
word = Cell 0 Low

-- `push si; mov si,1; mov al,dl; pop si; ret`, of which the low half of SI stands here
abbrev pub push_si : Stmt
push_si = Set word (Get si)

abbrev pub set_si : Stmt
set_si = Set si (Const 8 1)

abbrev pub copy_dl : Stmt
copy_dl = Set al (Get dl)

abbrev pub pop_si : Stmt
pop_si = Set si (Get word)

abbrev pub callee_block : Block
callee_block = record { at = 32; stmts = push_si ∷ set_si ∷ copy_dl ∷ pop_si ∷ []; exit = Ret (map Get passed) }

abbrev pub halves : List Param
halves = map param_of passed

abbrev pub callee : Graph
callee = record { entry = 32; params = halves; local = 0; pushed = 0; blocks = callee_block ∷ []; bits = [] }

-- the caller ends with AL as the exit code
abbrev pub call : Stmt
call = calling.call 0x4C (Get al) [] [] passed (map Get passed) halves (map Get passed)

abbrev pub exit_call : Stmt
exit_call = calling.last 0x4C (Get al) [] [] passed (map Get passed) halves (map Get passed)

abbrev pub calling_block : Block
calling_block = calling.calling_block 0x4C (Get al) [] [] passed (map Get passed) halves (map Get passed)

abbrev pub last_block : Block
last_block = calling.last_block 0x4C (Get al) [] [] passed (map Get passed) halves (map Get passed)

abbrev pub caller : Graph
caller = calling.caller 0x4C (Get al) [] [] passed (map Get passed) halves (map Get passed)

abbrev pub program : Program
program = record { graphs = caller ∷ callee ∷ []; image = []; lo = 16; hi = 256 }

abbrev pub P : Procedures Position Loc Loc
P = procedures_of program

abbrev pub at : ℕ → ℕ → Position
at block done = record { block = block; done = done }

-- Points.

callee_sites : (site_of callee (at 0 0) ≡ Executes push_si) × (site_of callee (at 0 4) ≡ Ends (Ret (map Get passed))) × (site_of callee (at 0 5) ≡ Nowhere) × (site_of callee (at 1 0) ≡ Ends Stop)
callee_sites = (refl, refl, refl, refl)

caller_edges : ((P.procedure 0).next (at 0 0) ≡ at 0 1 ∷ []) × ((P.procedure 0).next (at 0 1) ≡ at 1 0 ∷ []) × ((P.procedure 0).next (at 1 1) ≡ [])
caller_edges = (refl, refl, refl)

-- a PUSH, a POP, a copy and another write
push_pushes : ((action_of 0 push_si).word_effect word ≡ Pushes si) × ((action_of 0 push_si).effect word ≡ Copies si) × ((action_of 0 push_si).effect si ≡ Leaves)
push_pushes = (refl, refl, refl)

pop_pops : ((action_of 0 pop_si).effect si ≡ Pops word) × ((action_of 0 pop_si).word_effect word ≡ LeavesWord)
pop_pops = (refl, refl)

copy_copies : ((action_of 0 copy_dl).effect al ≡ Copies dl) × ((action_of 0 copy_dl).made_of al dl ≡ true) × ((action_of 0 copy_dl).surely al ≡ true)
copy_copies = (refl, refl, refl)

setting_makes : ((action_of 0 set_si).effect si ≡ Makes) × ((action_of 0 set_si).uses si ≡ false)
setting_makes = (refl, refl)

-- Near misses: a cell that is no pushed word isn't popped, and no half is popped into a temporary.
no_pushed_word : (action_of 1 pop_si).effect si ≡ Copies word
no_pushed_word = refl

no_half : (action_of 0 (Set (Temp 0) (Get word))).effect (Temp 0) ≡ Copies word
no_half = refl

-- another value, or that of a temporary, is no PUSH
no_push : ((action_of 0 (Set word (Const 8 0))).word_effect word ≡ Overwrites) × ((action_of 0 (Set word (Get (Temp 0)))).word_effect word ≡ Overwrites)
no_push = (refl, refl)

-- what passes is neither read nor written by a call; words on the stack are read, and bytes of them written
passing_is_the_call : ((action_of 0 call).uses al ≡ false) × ((action_of 0 call).effect al ≡ Leaves) × ((action_of 0 call).surely al ≡ false) × ((action_of 0 call).callee ≡ Some 32)
passing_is_the_call = (refl, refl, refl, refl)

a_word_is_read : (action_of 0 (Call (passed ++ Temp 1 ∷ []) 32 (Get (Temp 0) ∷ map Get passed) 2)).uses (Temp 0) ≡ true
a_word_is_read = refl

a_byte_is_written : ((action_of 0 (Call (passed ++ Temp 1 ∷ []) 32 (Get (Temp 0) ∷ map Get passed) 2)).effect (Temp 1) ≡ Makes)
    × ((action_of 0 (Call (passed ++ Temp 1 ∷ []) 32 (Get (Temp 0) ∷ map Get passed) 2)).surely (Temp 1) ≡ true)
a_byte_is_written = (refl, refl)

-- What the callee changes.

-- the trails of the callee
pub data Along : List Position → Position → Type 0 where
  first : Along [] (at 0 0)
  second : Along (at 0 0 ∷ []) (at 0 1)
  third : Along (at 0 1 ∷ at 0 0 ∷ []) (at 0 2)
  fourth : Along (at 0 2 ∷ at 0 1 ∷ at 0 0 ∷ []) (at 0 3)
  fifth : Along (at 0 3 ∷ at 0 2 ∷ at 0 1 ∷ at 0 0 ∷ []) (at 0 4)

only : (x y : Position) (Q : Position → Type 0) → Q x → Contains (x ∷ []) y → Q y
only x y Q h c = Contains-cases x [] y (Q y) (λ e. subst Q e h) (λ d. absurd (Contains-none y d)) c

along_next : {positions : List Position} {a : Position} (b : Position) → Along positions a → Contains ((P.procedure 32).next a) b → Along (a ∷ positions) b
along_next b first c = only (at 0 1) b (Along (at 0 0 ∷ [])) second c
along_next b second c = only (at 0 2) b (Along (at 0 1 ∷ at 0 0 ∷ [])) third c
along_next b third c = only (at 0 3) b (Along (at 0 2 ∷ at 0 1 ∷ at 0 0 ∷ [])) fourth c
along_next b fourth c = only (at 0 4) b (Along (at 0 3 ∷ at 0 2 ∷ at 0 1 ∷ at 0 0 ∷ [])) fifth c
along_next b fifth c = absurd (Contains-none b c)

pub along : {positions : List Position} {a : Position} → IsTrail (P.procedure 32) positions a → Along positions a
along IsTrail.enters = first
along (IsTrail.goes_on {b = b} trail c) = along_next b (along trail) c

whole_trail : IsTrail (P.procedure 32) (at 0 3 ∷ at 0 2 ∷ at 0 1 ∷ at 0 0 ∷ []) (at 0 4)
whole_trail =
    IsTrail.goes_on (IsTrail.goes_on (IsTrail.goes_on (IsTrail.goes_on IsTrail.enters (Contains-here (at 0 1) [])) (Contains-here (at 0 2) [])) (Contains-here (at 0 3) []))
    (Contains-here (at 0 4) [])

-- AL is copied, and so changed
pub al_is_changed : Changes P 32 al
al_is_changed = changes-closed P 32 al (record {
  passes = refl;
  passed = at 0 3 ∷ at 0 2 ∷ at 0 1 ∷ at 0 0 ∷ [];
  at = at 0 4;
  trail = whole_trail;
  returns = refl;
  loses = Loses.left refl (Loses.copied {other = dl} refl);
})

-- SI is saved: the last that wrote it popped the word into which it had been pushed first

unpushed : (changed : ChangeFamily Loc) → IsUnsaved changed (P.procedure 32) si word (at 0 0 ∷ []) → ⊥
unpushed changed (IsUnsaved.overwritten e) = absurd (cc)
unpushed changed (IsUnsaved.by_other e n) = n (cc)
unpushed changed (IsUnsaved.too_late e w) = elim w [ ]
unpushed changed (IsUnsaved.kept e h) = absurd (cc)

unkept : (changed : ChangeFamily Loc) → IsUnsaved changed (P.procedure 32) si word (at 0 1 ∷ at 0 0 ∷ []) → ⊥
unkept changed (IsUnsaved.overwritten e) = absurd (cc)
unkept changed (IsUnsaved.by_other e n) = absurd (cc)
unkept changed (IsUnsaved.too_late e w) = absurd (cc)
unkept changed (IsUnsaved.kept e h) = unpushed changed h

unsaved : (changed : ChangeFamily Loc) → IsUnsaved changed (P.procedure 32) si word (at 0 2 ∷ at 0 1 ∷ at 0 0 ∷ []) → ⊥
unsaved changed (IsUnsaved.overwritten e) = absurd (cc)
unsaved changed (IsUnsaved.by_other e n) = absurd (cc)
unsaved changed (IsUnsaved.too_late e w) = absurd (cc)
unsaved changed (IsUnsaved.kept e h) = unkept changed h

pub unlost : (changed : ChangeFamily Loc) → Loses changed (P.procedure 32) si (at 0 3 ∷ at 0 2 ∷ at 0 1 ∷ at 0 0 ∷ []) → ⊥
unlost changed (Loses.in_call c) = absurd c
unlost changed (Loses.made e) = absurd (cc)
unlost changed (Loses.copied e) = absurd (cc)
unlost changed (Loses.popped_open {word = w} e private) =
    let same : w ≡ word = cc in true≢false (subst (λ x. (P.procedure 32).is_private x ≡ false) same private)
unlost changed (Loses.popped_unsaved {word = w} e u) =
    let same : w ≡ word = cc in unsaved changed (subst (λ x. IsUnsaved changed (P.procedure 32) si x (at 0 2 ∷ at 0 1 ∷ at 0 0 ∷ [])) same u)
unlost changed (Loses.left e h) = absurd (cc)

pub returns_there : {positions : List Position} {a : Position} → Along positions a → (P.procedure 32).returns a ≡ true → positions ≡ at 0 3 ∷ at 0 2 ∷ at 0 1 ∷ at 0 0 ∷ []
returns_there first e = absurd (cc)
returns_there second e = absurd (cc)
returns_there third e = absurd (cc)
returns_there fourth e = absurd (cc)
returns_there fifth e = refl

pub si_is_preserved : IsPreserved P 32 si
si_is_preserved = (refl, λ c. go c.0 c.1)
  where
    go : (depth : ℕ) → ChangesWithin P depth 32 si → ⊥
    go zero h = absurd h
    go (suc depth) h = unlost (ChangesWithin P depth) (subst (Loses (ChangesWithin P depth) (P.procedure 32) si) (returns_there (along h.trail) h.returns) h.loses)

-- What is wanted: AL after the call, and so DL at the entry.

pub al_is_wanted : Wanted P 0 (at 0 1) al
al_is_wanted = IsWantedBy.unwritten (Contains-here (at 1 0) []) refl (λ c. c) (IsWantedBy.used refl)

pub al_is_a_result : IsResult P 32 al
al_is_a_result = record {
  changes = al_is_changed;
  caller = 0;
  call = at 0 0;
  after = at 0 1;
  calls = refl;
  goes = Contains-here (at 0 1) [];
  wanted = al_is_wanted;
}

pub dl_is_a_param : IsParam P 32 dl
dl_is_a_param = record {
  passes = refl;
  wanted = IsWantedBy.unwritten (Contains-here (at 0 1) []) refl (λ c. c) (IsWantedBy.unwritten (Contains-here (at 0 2) []) refl (λ c. c)
      (IsWantedBy.made_of {to = al} (Contains-here (at 0 3) []) refl refl (IsWantedBy.unwritten (Contains-here (at 0 4) []) refl (λ c. c)
      (IsWantedBy.given_back {caller = 0} {call = at 0 0} {after = at 0 1} refl al_is_changed refl (Contains-here (at 0 1) []) al_is_wanted))));
}

-- DL is wanted before the call
dl_is_wanted : Wanted P 0 (at 0 0) dl
dl_is_wanted = IsWantedBy.taken {callee = 32} refl refl dl_is_a_param.wanted

-- The localised program: DL and AL alone pass.

abbrev pub preserved : List Loc
preserved = filter (λ l. not (same_location l al)) passed

abbrev pub caller_sum : Summary
caller_sum = record { params = []; results = []; preserved = passed }

abbrev pub callee_sum : Summary
callee_sum = record { params = dl ∷ []; results = al ∷ []; preserved = preserved }

abbrev pub sums : List Summary
sums = caller_sum ∷ callee_sum ∷ []

abbrev local_callee : Graph
local_callee = record callee { params = param_of dl ∷ []; blocks = record callee_block { exit = Ret (Get al ∷ []) } ∷ [] }

abbrev local_caller : Graph
local_caller = record caller { blocks = record calling_block { stmts = Call (al ∷ []) 32 (Get dl ∷ []) 4 ∷ [] } ∷ last_block ∷ [] }

localised_is : localised sums program ≡ record program { graphs = local_caller ∷ local_callee ∷ [] }
localised_is = refl

-- one value is given back
one_value : GivesOneValue sums
one_value = All-cons (λ (sum : Summary). AreOneValue sum.results) caller_sum (callee_sum ∷ []) (inl (Ax, All-nil (IsHalfOf Ax)))
    (All-cons (λ (sum : Summary). AreOneValue sum.results) callee_sum [] (inl (Ax, All-cons (IsHalfOf Ax) al [] (Low, refl) (All-nil (IsHalfOf Ax)))) (All-nil (λ (sum : Summary). AreOneValue sum.results)))

-- AX and DX are one value together
two_registers : AreOneValue (al ∷ dl ∷ [])
two_registers = inr (inr (All-cons (λ l. IsHalfOf Ax l ⊎ IsHalfOf Dx l) al (dl ∷ []) (inl (Low, refl)) (All-cons (λ l. IsHalfOf Ax l ⊎ IsHalfOf Dx l) dl [] (inr (Low, refl)) (All-nil (λ l. IsHalfOf Ax l ⊎ IsHalfOf Dx l)))))

ax_is_not_si : Ax ≡ Si → ⊥
ax_is_not_si e = let numbers : 0 ≡ 6 = ap register_number e in omega (arith, numbers)

-- Near miss: halves of SI and AX are several.
several : ¬ AreOneValue (al ∷ si ∷ [])
several (inl (r, all)) =
    let one = All-head (IsHalfOf r) al (si ∷ []) all in
    let other = All-head (IsHalfOf r) si [] (All-tail (IsHalfOf r) al (si ∷ []) all) in
    let e : Ax ≡ r = let is = one.1 in cc in
    let f : Si ≡ r = let is = other.1 in cc in
    ax_is_not_si (e ∙ sym f)
several (inr (inl (f, all))) = let one = All-head (λ l. l ≡ Flag f) al (si ∷ []) all in absurd (cc)
several (inr (inr all)) = elim (All-head (λ l. IsHalfOf Ax l ⊎ IsHalfOf Dx l) si [] (All-tail (λ l. IsHalfOf Ax l ⊎ IsHalfOf Dx l) al (si ∷ []) all)) [
  | inl one ↦ (let is = one.1 in let e : Si ≡ Ax = cc in ax_is_not_si (sym e))
  | inr other ↦ (let is = other.1 in let e : Si ≡ Dx = cc in absurd (cc))
]
