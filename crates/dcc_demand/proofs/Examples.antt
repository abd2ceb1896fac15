-- Small procedures under the definitions: what saves a register, what doesn't, calls of themselves, a result. A register
-- counts as one location, and the stack has one word.
use Rattle.std.proofs.Common.{◌≡◌, ℕ, zero, suc, Bool, true, false, List, [], ◌∷◌, refl, sym, ◌∙◌, subst, true≢false, arith, ◌<◌, length, get_or}
use Rattle.std.specs.Prelude.{Option, Some, None, Contains}
use Rattle.dcc_demand.specs.Procedures.{Effect, Leaves, Pops, Makes, WordEffect, LeavesWord, Pushes, Action, Procedures, is_left, CallChanges}
use Rattle.dcc_demand.specs.Trail.{IsTrail}
use Rattle.dcc_demand.specs.Changes.{IsWritten, IsUnsaved, Loses, Changes, IsPreserved}
use Rattle.dcc_demand.specs.Holds.{Holds, WordHolds}
use Rattle.dcc_demand.specs.Wanted.{Wanted, IsWantedBy, IsParam, IsResult, IsClosedUnderDemand}
use Rattle.dcc_demand.specs.Tables.{Tables, AreClosed, TellsApart, written_after, unsaved_after, lost_after}
use Rattle.dcc_demand.proofs.ChangeLaws.{changes-closed}
use Rattle.dcc_demand.proofs.WantedLaws.{wanted-least, results-wanted}
use Rattle.dcc_demand.proofs.TableLaws.{all_changed}

data Spot : Type 0 where
  one : Spot
  two : Spot
  three : Spot
  four : Spot
  five : Spot
  six : Spot
  seven : Spot

data Register : Type 0 where
  si : Register
  ax : Register

data Stacked : Type 0 where
  top : Stacked

abbrev same : Register → Register → Bool
same si si = true
same ax ax = true
same x y = false

apart : TellsApart same
apart si si e = refl
apart si ax e = absurd (true≢false (sym e))
apart ax si e = absurd (true≢false (sym e))
apart ax ax e = refl

no : {A : Type 0} → false ≡ true → A
no e = absurd (true≢false (sym e))

none_there : {A : Type 0} {x : Spot} → Contains [] x → A
none_there c = absurd (omega (arith, c.1))

-- the one element of a list
at_only : (P : Spot → Type 0) {x y : Spot} → Contains (x ∷ []) y → P x → P y
at_only P {x} {y} c h = found c.0 c.1 c.2
  where
    found : (k : ℕ) → k < length (x ∷ []) → get_or (x ∷ []) k y ≡ y → P y
    found zero below e = subst P e h
    found (suc k) below e = absurd (omega (arith, below))

here : {x : Spot} → Contains (x ∷ []) x
here = (0, omega arith, refl)

-- Instructions.

-- one that writes these registers, with this effect on the word
abbrev doing : (Register → Effect Register Stacked) → WordEffect Register → Action Register Stacked
doing effect on_word = record {
  uses = λ l. false;
  effect = effect;
  made_of = λ to l. false;
  surely = λ l. true;
  word_effect = λ w. on_word;
  callee = None;
}

abbrev only_si : Effect Register Stacked → Register → Effect Register Stacked
only_si effect si = effect
only_si effect ax = Leaves

abbrev only_ax : Effect Register Stacked → Register → Effect Register Stacked
only_ax effect ax = effect
only_ax effect si = Leaves

abbrev push_si : Action Register Stacked
push_si = doing (λ l. Leaves) (Pushes si)

abbrev pop_si : Action Register Stacked
pop_si = doing (only_si (Pops top)) LeavesWord

abbrev inc_si : Action Register Stacked
inc_si = doing (only_si Makes) LeavesWord

abbrev ret : Action Register Stacked
ret = doing (λ l. Leaves) LeavesWord

-- `push si; inc si; pop si; ret`, with a call of that procedure before the POP or nothing there.

abbrev saving_next : Spot → List Spot
saving_next one = two ∷ []
saving_next two = three ∷ []
saving_next three = four ∷ []
saving_next four = five ∷ []
saving_next spot = []

abbrev saving_returns : Spot → Bool
saving_returns five = true
saving_returns spot = false

abbrev saving_action : Option ℕ → Spot → Action Register Stacked
saving_action callee one = push_si
saving_action callee two = inc_si
saving_action callee three = record ret { callee = callee }
saving_action callee four = pop_si
saving_action callee spot = ret

-- procedures that are all the same: each saves SI, changes it, may call, and takes it back
abbrev saving : Option ℕ → Procedures Spot Register Stacked
saving callee = record {
  procedure = λ i. record {
    entry = one;
    next = saving_next;
    returns = saving_returns;
    action = saving_action callee;
    is_private = λ w. true;
    is_exposed = λ l. false;
  };
  passes = λ l. true;
}

-- SI is written from the INC on, saved from the PUSH on, and lost from the INC up to the POP.

abbrev saving_written : Spot → Register → Bool
saving_written three si = true
saving_written four si = true
saving_written five si = true
saving_written spot l = false

abbrev saving_unsaved : Spot → Register → Stacked → Bool
saving_unsaved two si w = false
saving_unsaved three si w = false
saving_unsaved four si w = false
saving_unsaved five si w = false
saving_unsaved spot l w = true

abbrev saving_lost : Spot → Register → Bool
saving_lost three si = true
saving_lost four si = true
saving_lost spot l = false

abbrev saving_tables : Tables Spot Register Stacked
saving_tables = record {
  changed = λ i l. false;
  written = λ i. saving_written;
  unsaved = λ i. saving_unsaved;
  lost = λ i. saving_lost;
}

saving_closed : (callee : Option ℕ) → AreClosed (saving callee) same saving_tables
saving_closed callee = record {
  begins = λ i l w. refl;
  called = λ i j a b l edge c e. no e;
  written = λ i a b l edge e. writes a b l edge.goes e;
  unsaved = λ i a b l w edge e. unsaves a b l w edge.goes e;
  lost = λ i a b l edge e. loses a b l edge.goes e;
  changed = λ i a l reached q r e. changes a l q r e;
}
  where
    writes : (a b : Spot) (l : Register) → Contains (saving_next a) b → written_after ((saving_action callee a).effect l) (saving_written a l) ≡ true → saving_written b l ≡ true
    writes one b si g e = no e
    writes one b ax g e = no e
    writes two b si g e = at_only (λ x. saving_written x si ≡ true) g refl
    writes two b ax g e = no e
    writes three b si g e = at_only (λ x. saving_written x si ≡ true) g refl
    writes three b ax g e = no e
    writes four b si g e = at_only (λ x. saving_written x si ≡ true) g refl
    writes four b ax g e = no e
    writes spot b l g e = none_there g

    unsaves : (a b : Spot) (l : Register) (w : Stacked) → Contains (saving_next a) b
        → unsaved_after same l ((saving_action callee a).word_effect w) (saving_written a l) (saving_unsaved a l w) ≡ true → saving_unsaved b l w ≡ true
    unsaves one b si w g e = no e
    unsaves one b ax w g e = at_only (λ x. saving_unsaved x ax w ≡ true) g refl
    unsaves two b si w g e = no e
    unsaves two b ax w g e = at_only (λ x. saving_unsaved x ax w ≡ true) g refl
    unsaves three b si w g e = no e
    unsaves three b ax w g e = at_only (λ x. saving_unsaved x ax w ≡ true) g refl
    unsaves four b si w g e = no e
    unsaves four b ax w g e = at_only (λ x. saving_unsaved x ax w ≡ true) g refl
    unsaves spot b l w g e = none_there g

    loses : (a b : Spot) (l : Register) → Contains (saving_next a) b → lost_after (λ w. true) ((saving_action callee a).effect l) (saving_unsaved a l) (saving_lost a l) ≡ true → saving_lost b l ≡ true
    loses one b si g e = no e
    loses one b ax g e = no e
    loses two b si g e = at_only (λ x. saving_lost x si ≡ true) g refl
    loses two b ax g e = no e
    loses three b si g e = at_only (λ x. saving_lost x si ≡ true) g refl
    loses three b ax g e = no e
    loses four b si g e = no e
    loses four b ax g e = no e
    loses spot b l g e = none_there g

    changes : (a : Spot) (l : Register) → true ≡ true → saving_returns a ≡ true → saving_lost a l ≡ true → false ≡ true
    changes five l q r e = e
    changes spot l q r e = no r

-- SI is preserved, and AX too
saves : (callee : Option ℕ) (l : Register) → IsPreserved (saving callee) 0 l
saves callee l = (refl, λ c. no (all_changed (saving callee) same saving_tables apart (saving_closed callee) 0 l c))

-- Instructions in a line, which return at the last point.

abbrev following : Spot → List Spot
following one = two ∷ []
following two = three ∷ []
following three = four ∷ []
following four = five ∷ []
following five = six ∷ []
following six = seven ∷ []
following seven = []

abbrev line : (Spot → Action Register Stacked) → (Spot → Bool) → Procedures Spot Register Stacked
line action returns = record {
  procedure = λ i. record {
    entry = one;
    next = following;
    returns = returns;
    action = action;
    is_private = λ w. true;
    is_exposed = λ l. false;
  };
  passes = λ l. true;
}

-- `pop si; push si; ret`: the POP comes before the PUSH, so SI is changed.

abbrev popping_action : Spot → Action Register Stacked
popping_action one = pop_si
popping_action two = push_si
popping_action spot = ret

abbrev popping_returns : Spot → Bool
popping_returns three = true
popping_returns spot = false

abbrev popping : Procedures Spot Register Stacked
popping = line popping_action popping_returns

popping_changes : Changes popping 0 si
popping_changes = changes-closed popping 0 si (record {
  passes = refl;
  passed = two ∷ one ∷ [];
  at = three;
  trail = IsTrail.goes_on (IsTrail.goes_on IsTrail.enters here) here;
  returns = refl;
  loses = Loses.left refl (Loses.popped_unsaved refl IsUnsaved.unpushed);
})

-- `push si; inc si; pop si; push si; inc si; pop si; ret`: the second PUSH comes after the first INC, so SI is changed,
-- though it holds at the end what it held at the begin.

abbrev twice_action : Spot → Action Register Stacked
twice_action one = push_si
twice_action two = inc_si
twice_action three = pop_si
twice_action four = push_si
twice_action five = inc_si
twice_action six = pop_si
twice_action seven = ret

abbrev twice_returns : Spot → Bool
twice_returns seven = true
twice_returns spot = false

abbrev twice : Procedures Spot Register Stacked
twice = line twice_action twice_returns

abbrev twice_passed : List Spot
twice_passed = six ∷ five ∷ four ∷ three ∷ two ∷ one ∷ []

twice_changes : Changes twice 0 si
twice_changes = changes-closed twice 0 si (record {
  passes = refl;
  passed = twice_passed;
  at = seven;
  trail =
      IsTrail.goes_on (IsTrail.goes_on (IsTrail.goes_on (IsTrail.goes_on (IsTrail.goes_on (IsTrail.goes_on IsTrail.enters here) here) here) here) here) here;
  returns = refl;
  loses = Loses.popped_unsaved refl (IsUnsaved.kept refl (IsUnsaved.too_late refl (IsWritten.by_point refl)));
})

twice_holds : Holds (λ i l. ⊥) (twice.procedure 0) si twice_passed si
twice_holds =
    Holds.popped refl uncalled refl (WordHolds.kept refl (WordHolds.pushed refl
    (Holds.popped refl uncalled refl (WordHolds.kept refl (WordHolds.pushed refl Holds.begun)))))
  where
    uncalled : ⊥ → ⊥
    uncalled c = c

-- A procedure that only calls itself changes nothing.

abbrev calling_action : Spot → Action Register Stacked
calling_action one = record ret { callee = Some 0 }
calling_action spot = ret

abbrev calling_returns : Spot → Bool
calling_returns two = true
calling_returns spot = false

abbrev calling : Procedures Spot Register Stacked
calling = line calling_action calling_returns

abbrev calling_tables : Tables Spot Register Stacked
calling_tables = record {
  changed = λ i l. false;
  written = λ i a l. false;
  unsaved = λ i a l w. true;
  lost = λ i a l. false;
}

calling_closed : AreClosed calling same calling_tables
calling_closed = record {
  begins = λ i l w. refl;
  called = λ i j a b l edge c e. no e;
  written = λ i a b l edge e. writes a l e;
  unsaved = λ i a b l w edge e. refl;
  lost = λ i a b l edge e. loses a l e;
  changed = λ i a l reached q r e. e;
}
  where
    writes : (a : Spot) (l : Register) → written_after ((calling_action a).effect l) false ≡ true → false ≡ true
    writes one l e = e
    writes spot l e = e

    loses : (a : Spot) (l : Register) → lost_after (λ w. true) ((calling_action a).effect l) (λ w. true) false ≡ true → false ≡ true
    loses one l e = e
    loses spot l e = e

calling_preserves : (l : Register) → IsPreserved calling 0 l
calling_preserves l = (refl, λ c. no (all_changed calling same calling_tables apart calling_closed 0 l c))

-- The first procedure calls the second, `mov ax,1; ret`, and then stores AX, in a loop. So AX is a result of the second
-- one, wanted at its return, and no param of it.

abbrev asking_action : ℕ → Spot → Action Register Stacked
asking_action zero one = record ret { surely = λ l. false; callee = Some 1 }
asking_action zero two = record ret { uses = same ax; surely = λ l. false }
asking_action (suc i) one = record ret { effect = only_ax Makes; surely = same ax }
asking_action i spot = record ret { surely = λ l. false }

abbrev asking_next : ℕ → Spot → List Spot
asking_next i one = two ∷ []
asking_next zero two = one ∷ []
asking_next i spot = []

abbrev asking_returns : ℕ → Spot → Bool
asking_returns (suc i) two = true
asking_returns i spot = false

abbrev asking : Procedures Spot Register Stacked
asking = record {
  procedure = λ i. record {
    entry = one;
    next = asking_next i;
    returns = asking_returns i;
    action = asking_action i;
    is_private = λ w. true;
    is_exposed = λ l. false;
  };
  passes = λ l. true;
}

asking_changes : (i : ℕ) → Changes asking (suc i) ax
asking_changes i = changes-closed asking (suc i) ax (record {
  passes = refl;
  passed = one ∷ [];
  at = two;
  trail = IsTrail.goes_on IsTrail.enters here;
  returns = refl;
  loses = Loses.made refl;
})

asking_result : IsResult asking 1 ax
asking_result = record {
  changes = asking_changes 0;
  caller = 0;
  call = one;
  after = two;
  calls = refl;
  goes = here;
  wanted = IsWantedBy.used refl;
}

asking_given_back : Wanted asking 1 two ax
asking_given_back = results-wanted asking 1 two ax refl asking_result

abbrev asking_wanted : Spot → Register → Bool
asking_wanted two ax = true
asking_wanted spot l = false

asking_closed : IsClosedUnderDemand asking (Changes asking) (λ i a l. asking_wanted a l ≡ true)
asking_closed = record {
  used = uses;
  exposed = λ i a l e. no e;
  made_of = makes;
  unwritten = leaves;
  taken = takes;
  given_back = gives;
}
  where
    uses : (i : ℕ) (a : Spot) (l : Register) → (asking_action i a).uses l ≡ true → asking_wanted a l ≡ true
    uses zero one l u = no u
    uses zero two si u = no u
    uses zero two ax u = refl
    uses zero a l u = no u
    uses (suc i) one l u = no u
    uses (suc i) a l u = no u

    makes : (i : ℕ) (a b : Spot) (l to : Register) → Contains (asking_next i a) b → is_left ((asking_action i a).effect to) ≡ false
        → (asking_action i a).made_of to l ≡ true → asking_wanted b to ≡ true → asking_wanted a l ≡ true
    makes zero one b l to g w m d = no m
    makes zero two b l to g w m d = no m
    makes zero a b l to g w m d = no m
    makes (suc i) one b l to g w m d = no m
    makes (suc i) a b l to g w m d = no m

    leaves : (i : ℕ) (a b : Spot) (l : Register) → Contains (asking_next i a) b → (asking_action i a).surely l ≡ false
        → ¬ CallChanges (Changes asking) (asking_action i a).callee l → asking_wanted b l ≡ true → asking_wanted a l ≡ true
    leaves zero one b si g s n d = at_only (λ x. asking_wanted x si ≡ true → asking_wanted one si ≡ true) g no d
    leaves zero one b ax g s n d = absurd (n (asking_changes 0))
    leaves zero two b si g s n d = at_only (λ x. asking_wanted x si ≡ true → asking_wanted two si ≡ true) g no d
    leaves zero two b ax g s n d = refl
    leaves zero a b l g s n d = none_there g
    leaves (suc i) one b si g s n d = at_only (λ x. asking_wanted x si ≡ true → asking_wanted one si ≡ true) g no d
    leaves (suc i) one b ax g s n d = absurd (true≢false s)
    leaves (suc i) a b l g s n d = none_there g

    takes : (i callee : ℕ) (a : Spot) (l : Register) → (asking_action i a).callee ≡ Some callee → true ≡ true → asking_wanted one l ≡ true → asking_wanted a l ≡ true
    takes i callee a l c q w = no w

    never_si : (a : Spot) → asking_wanted a si ≡ false
    never_si two = refl
    never_si a = refl

    gives : (i caller : ℕ) (a call after : Spot) (l : Register) → asking_returns i a ≡ true → Changes asking i l
        → (asking_action caller call).callee ≡ Some i → Contains (asking_next caller call) after → asking_wanted after l ≡ true → asking_wanted a l ≡ true
    gives zero caller a call after l r h c g w = no r
    gives (suc i) caller two call after si r h c g w = absurd (true≢false (sym w ∙ never_si after))
    gives (suc i) caller two call after ax r h c g w = refl
    gives (suc i) caller a call after l r h c g w = no r

asking_no_param : ¬ IsParam asking 1 ax
asking_no_param param = no (wanted-least asking (Changes asking) (λ i a l. asking_wanted a l ≡ true) asking_closed param.wanted)
