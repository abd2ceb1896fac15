-- A CALL does what its statements do: it uses the words of its arguments, and takes back those that may be changed.
use Rattle.std.proofs.Common.{◌≡◌, ℕ, ℤ, suc, ◌+◌, ◌*◌, Bool, true, false, ◌&&◌, ◌||◌, if◌then◌else◌, ◌⊎◌, inl, inr, List, [], ◌∷◌, ◌++◌, length, map, Option, Some, refl, sym, ap, ◌∙◌, subst, true≢false, arith}
use Rattle.std.specs.Prelude.{Contains, flat_map, pos, ◌+ℤ◌, ◌≤ℤ◌, ◌<ℤ◌, int_le, int_lt}
use Rattle.std.specs.List.{range_with_len}
use Rattle.std.specs.Ordering.{int_eq}
use Rattle.std.proofs.lemmas.Bool.Decides.{Decides-int_eq}
use Rattle.std.proofs.lemmas.Int.{ints}
use Rattle.std.proofs.lemmas.List.{append-nil}
use Rattle.dcc_num.specs.declared.Width.TheVariants.{Byte as byte_width, Word as word_width}
use Rattle.dcc_num.specs.declared.Half.{Half as HalfName}
use Rattle.dcc_num.specs.declared.Half.TheVariants.{Low, High}
use Rattle.dcc_prog.specs.Frame.{span_of}
use Rattle.dcc_stack.specs.Slots.{is_within, is_placed as is_placed_byte}
use Rattle.dcc_stack.proofs.SlotPlaces.{within-tells, lt-told}
use Rattle.dcc_ir.specs.declared.syntax.Loc.{Loc}
use Rattle.dcc_ir.specs.declared.syntax.Loc.TheVariants.{Half, Flag, Cell, Temp}
use Rattle.dcc_ir.specs.Tree.{Get, Address, Stmt, Call}
use Rattle.dcc_ir.specs.Use.{reads_of}
use Rattle.dcc_ir.specs.Live.{is_among}
use Rattle.dcc_ir.proofs.LocationLaws.{Contains-here, Contains-later, Contains-none, among_contains, contains_among}
use Rattle.dcc_ir.proofs.PathLaws.{decided}
use Rattle.dcc_ops.specs.OperandPlace.{OperandPlace, constant, byte, memory, place_value, storing}
use Rattle.dcc_ops.specs.Temporaries.{returned_place}
use Rattle.dcc_lift.proofs.ListTests.{and_right, and_both, or_here, or_there, or_cases, or_none, same_test}
use Rattle.dcc_simulation.specs.Procedures.{Procedure, pushed_of, frame_place, cells_of, cell_place, distance_of}
use Rattle.dcc_simulation.specs.Procedures.{given_back}
use Rattle.dcc_simulation.specs.Statements.{argument_offset, argument_value, taking_back, taking_all_back, results_of}
use Rattle.dcc_simulation.specs.Statements.{arguments_of, calling}
use Rattle.dcc_demand.specs.Procedures.{Leaves, Makes, LeavesWord, Overwrites, Action, Procedures}
use Rattle.dcc_machine_demand.specs.Bodies.{Body}
use Rattle.dcc_machine_demand.specs.Holders.{Holder, held, in_frame, is_holder}
use Rattle.dcc_machine_demand.specs.Holders as asks
use Rattle.dcc_machine_demand.specs.Instance.{passed_word, is_passed}
use Rattle.dcc_sums.specs.Points.{Position}
use Rattle.dcc_sums.specs.Instance.{passes, used_by, written_by}
use Rattle.dcc_refinement.specs.Steps.{later_word_effect, Spoils}
use Rattle.dcc_refinement.specs.Refinement.{Refinement, EffectsAgree, WordEffectsAgree, Carries, Takes}
use Rattle.dcc_lifted_demand.specs.Sources.{before, sources, used, effect_after, word_effect_after}
use Rattle.dcc_lifted_demand.proofs.ListLaws.{only}
use Rattle.dcc_lifted_demand.specs.LiftedRefinement.{IsSame, IsSameWord}
use Rattle.dcc_lifted_demand.proofs.SameLaws.{SameCases, same_cases, passes_alike}
use Rattle.dcc_instruction_demand.specs.Agreement.{IsCallFirst, Agrees}
use Rattle.dcc_instruction_demand.proofs.IdleLaws.{same_once}
use Rattle.dcc_instruction_demand.proofs.ShownLaws.{Shows, shows_never, shows_both, shows_alike}
use Rattle.dcc_instruction_demand.proofs.ValueLaws.{is_written, effect_left, word_left, word_spoiled, no_push, no_pop}
use Rattle.dcc_instruction_demand.proofs.OperationLaws.{pushed_cell}
use Rattle.dcc_instruction_demand.proofs.StageLaws.{is_lasting, outs}
use Rattle.dcc_instruction_demand.proofs.FormLaws.{written_both}
use Rattle.dcc_instruction_demand.proofs.AlikeLaws.{same_lasts}
use Rattle.dcc_instruction_demand.proofs.FrameLaws.{swapped, AccessAt}
use Rattle.dcc_instruction_demand.proofs.CallStatements.{frame_byte, is_frame_byte, frame_word, words_used}
use Rattle.dcc_instruction_demand.proofs.CallStatements.{temporaries_written, is_returned, none_returned, AreBack}
use Rattle.dcc_instruction_demand.proofs.CallStatements.{all_back, back_quiet, back_values, back_spared, back_unwritten}
use Rattle.dcc_instruction_demand.proofs.CallStatements.{Holding, back_holding, back_used, storing_written}

-- Words of the frame.

-- the byte belongs to one of the words of these numbers
abbrev pub is_of_words : ℕ → List ℕ → Holder → Bool
is_of_words height numbers (held location) = false
is_of_words height numbers (in_frame k) = is_passed height numbers k

le_told : (a b : ℤ) → a ≤ℤ b → int_le a b ≡ true
le_told a b le = grind (arith, ints, le)

-- the two bytes of a word
word_has : (k i : ℤ) → (k ≡ i) ⊎ (k ≡ (i +ℤ pos 1)) → is_within k (span_of i 2) ≡ true
word_has k i (inl e) =
    and_both (int_le i k) (int_lt k (i +ℤ pos 2)) (le_told i k (omega (arith, ints, e))) (lt-told k (i +ℤ pos 2) (omega (arith, ints, e)))
word_has k i (inr e) =
    and_both (int_le i k) (int_lt k (i +ℤ pos 2)) (le_told i k (omega (arith, ints, e))) (lt-told k (i +ℤ pos 2) (omega (arith, ints, e)))

word_only : (k i : ℤ) → is_within k (span_of i 2) ≡ true → (k ≡ i) ⊎ (k ≡ (i +ℤ pos 1))
word_only k i t =
    let has = within-tells k (span_of i 2) t in
    let low : i ≤ℤ k = has.0 in
    let high : k <ℤ (i +ℤ pos 2) = has.1 in
    elim (decided (int_eq k i)) [
      | inl e ↦ inl ((Decides-int_eq k i).0 e)
      | inr n ↦ inr (above low high (λ e. true≢false (sym ((Decides-int_eq k i).1 e) ∙ n)))
    ]
  where
    above : i ≤ℤ k → k <ℤ (i +ℤ pos 2) → (k ≡ i → ⊥) → k ≡ (i +ℤ pos 1)
    above low high other = omega (arith, ints, low, high, other)

word_bytes : (k i : ℤ) → (int_eq k (i +ℤ pos 1) || int_eq k i) ≡ is_within k (span_of i 2)
word_bytes k i = same_test (int_eq k (i +ℤ pos 1) || int_eq k i) (is_within k (span_of i 2))
    (λ t. elim (or_cases (int_eq k (i +ℤ pos 1)) (int_eq k i) t) [
      | inl e ↦ word_has k i (inr ((Decides-int_eq k (i +ℤ pos 1)).0 e))
      | inr e ↦ word_has k i (inl ((Decides-int_eq k i).0 e))
    ])
    (λ t. elim (word_only k i t) [
      | inl e ↦ or_there (int_eq k (i +ℤ pos 1)) (int_eq k i) ((Decides-int_eq k i).1 e)
      | inr e ↦ or_here (int_eq k (i +ℤ pos 1)) (int_eq k i) ((Decides-int_eq k (i +ℤ pos 1)).1 e)
    ])

or_turned : (a b : Bool) → (a || b) ≡ (b || a)
or_turned true true = refl
or_turned true false = refl
or_turned false true = refl
or_turned false false = refl

module _ (o : Option Procedure) (q : Procedure) (found : o ≡ Some q) (heights : List (ℕ × ℕ)) (height : ℕ) (one : (L M : Holder) (l : Loc) → IsSame o L l → IsSame o M l → L ≡ M) where
  -- Bytes.

  once : (L : Holder) (l m : Loc) → IsSame o L l → IsSame o L m → l ≡ m
  once L l m s t = same_once s t

  -- where a byte of the frame stands, if it is in no memory
  byte_there : (k : ℤ) (l : Loc) → IsSame o (in_frame k) l → frame_place q byte_width k ≡ byte l
  byte_there k l s = by (same_cases o s)
    where
      by : SameCases o (in_frame k) l → frame_place q byte_width k ≡ byte l
      by (SameCases.by_held location p e f) = absurd (cc e)
      by (SameCases.by_kept other j p e kept f) =
          let same : other ≡ q = cc (p, found) in
          let byte_is : k ≡ j = cc e in
          subst (λ i. frame_place q byte_width i ≡ byte l) (sym byte_is) (subst (λ x. frame_place x byte_width j ≡ byte l) same f)

  out_there : (k : ℤ) (l : Loc) (Q : OperandPlace) → frame_place q byte_width k ≡ Q → Contains (outs Q) l → is_frame_byte Q ≡ true → IsSame o (in_frame k) l
  out_there k l (constant v n) e c t = absurd (Contains-none l c)
  out_there k l (memory v at) e c t = absurd (Contains-none l c)
  out_there k l (byte (Cell n h)) e c t = subst (λ m. IsSame o (in_frame k) m) (only (Cell n h) l c) (IsSame.is_kept found e)
  out_there k l place e c t = absurd (true≢false (sym t))

  byte_shown : (k : ℤ) → Shows (IsSame o) (λ L. L ≡ in_frame k) (outs (frame_place q byte_width k))
  byte_shown k = record {
    has = λ L l s e. subst (λ Q. Contains (outs Q) l) (sym (byte_there k l (subst (λ M. IsSame o M l) e s))) (Contains-here l []);
    comes = λ l c. (in_frame k, out_there k l (frame_place q byte_width k) refl c (frame_byte q k), refl);
  }

  -- a location is written at a byte's place where it is that byte's
  byte_out : (k i : ℤ) (l : Loc) → IsSame o (in_frame k) l → is_among (outs (frame_place q byte_width i)) l ≡ int_eq k i
  byte_out k i l s = same_test (is_among (outs (frame_place q byte_width i)) l) (int_eq k i)
      (λ t.
      let there = (byte_shown i).comes l (among_contains (outs (frame_place q byte_width i)) l t) in
      let same : in_frame k ≡ in_frame i = one (in_frame k) there.0 l s there.1 ∙ there.2 in
      let bytes : k ≡ i = cc same in
      (Decides-int_eq k i).1 bytes)
      (λ t. contains_among (outs (frame_place q byte_width i)) l ((byte_shown i).has (in_frame k) l s (ap in_frame ((Decides-int_eq k i).0 t))))

  -- What is taken back.

  word_written : (k : ℤ) (l : Loc) → IsSame o (in_frame k) l → (index number : ℕ) → is_written (taking_back q height index number) l ≡ is_within k (passed_word height number)
  word_written k l s index number =
      let i = argument_offset height number in
      let low = storing (frame_place q byte_width i) (Get (returned_place (2 * index))) in
      let high = storing (frame_place q byte_width (i +ℤ pos 1)) (Get (returned_place (2 * index + 1))) in
      written_both low high l
      ∙ ap (λ b. b || is_written low l) (storing_written (frame_place q byte_width (i +ℤ pos 1)) (Get (returned_place (2 * index + 1))) l (frame_byte q (i +ℤ pos 1)) ∙ byte_out k (i +ℤ pos 1) l s)
      ∙ ap (λ b. int_eq k (i +ℤ pos 1) || b) (storing_written (frame_place q byte_width i) (Get (returned_place (2 * index))) l (frame_byte q i) ∙ byte_out k i l s)
      ∙ word_bytes k i

  pub words_written : (k : ℤ) (l : Loc) → IsSame o (in_frame k) l → (index : ℕ) (numbers : List ℕ) → is_written (taking_all_back q height index numbers) l ≡ is_passed height numbers k
  words_written k l s index [] = refl
  words_written k l s index (number ∷ numbers) =
      written_both (taking_back q height index number) (taking_all_back q height (suc index) numbers) l
      ∙ ap (λ b. b || is_written (taking_back q height index number) l) (words_written k l s (suc index) numbers)
      ∙ ap (λ b. is_passed height numbers k || b) (word_written k l s index number)
      ∙ or_turned (is_passed height numbers k) (is_within k (passed_word height number))

  -- What is passed.

  abbrev Accessed : ℕ → Type 0
  Accessed number = AccessAt o q found heights word_width (argument_offset height number)

  abbrev InWord : ℤ → Holder → Type 0
  InWord i L = (L ≡ in_frame i) ⊎ (L ≡ in_frame (i +ℤ pos 1))

  two_shown : (i : ℤ) (xs ys zs : List Loc) → outs (frame_place q byte_width i) ≡ xs → outs (frame_place q byte_width (i +ℤ pos 1)) ≡ ys → ((l : Loc) → Contains zs l → Contains (xs ++ ys) l) → ((l : Loc) → Contains (xs ++ ys) l → Contains zs l)
      → Shows (IsSame o) (InWord i) zs
  two_shown i xs ys zs e f grow shrink =
      shows_alike (IsSame o) (InWord i) (InWord i) (xs ++ ys) zs
      (shows_both (IsSame o) (λ L. L ≡ in_frame i) (λ L. L ≡ in_frame (i +ℤ pos 1)) xs ys
      (subst (λ ls. Shows (IsSame o) (λ L. L ≡ in_frame i) ls) e (byte_shown i)) (subst (λ ls. Shows (IsSame o) (λ L. L ≡ in_frame (i +ℤ pos 1)) ls) f (byte_shown (i +ℤ pos 1))))
      (λ L l s t. t) (λ L l s t. t) shrink grow

  placed_out : (k : ℤ) → is_placed_byte q.frame k ≡ true → outs (frame_place q byte_width k) ≡ []
  placed_out k t = ap (λ b. outs (if b then memory byte_width (Address (distance_of k)) else cell_place 0 (cells_of q) byte_width k)) t

  word_shown : (i : ℤ) → AccessAt o q found heights word_width i → Shows (IsSame o) (InWord i) (reads_of (place_value (frame_place q word_width i)))
  word_shown i (AccessAt.byte_access n h v place inside) = absurd (cc v)
  word_shown i (AccessAt.word_access n v place low high inside inside_next) =
      subst (λ Q. Shows (IsSame o) (InWord i) (reads_of (place_value Q))) (sym place)
      (two_shown i (Cell n Low ∷ []) (Cell n High ∷ []) (Cell n High ∷ Cell n Low ∷ []) (ap outs low) (ap outs high) (swapped (Cell n High) (Cell n Low)) (swapped (Cell n Low) (Cell n High)))
  word_shown i (AccessAt.open_access place opens opens_next) =
      subst (λ Q. Shows (IsSame o) (InWord i) (reads_of (place_value Q))) (sym place)
      (two_shown i [] [] [] (placed_out i opens.0) (placed_out (i +ℤ pos 1) (opens_next refl).0) (λ l c. c) (λ l c. c))

  in_words : (number : ℕ) (numbers : List ℕ) (L : Holder) → InWord (argument_offset height number) L ⊎ (is_of_words height numbers L ≡ true) → is_of_words height (number ∷ numbers) L ≡ true
  in_words number numbers L (inl (inl e)) =
      subst (λ M. is_of_words height (number ∷ numbers) M ≡ true) (sym e)
      (or_here (is_within (argument_offset height number) (passed_word height number)) (is_passed height numbers (argument_offset height number))
      (word_has (argument_offset height number) (argument_offset height number) (inl refl)))
  in_words number numbers L (inl (inr e)) =
      subst (λ M. is_of_words height (number ∷ numbers) M ≡ true) (sym e)
      (or_here (is_within (argument_offset height number +ℤ pos 1) (passed_word height number)) (is_passed height numbers (argument_offset height number +ℤ pos 1))
      (word_has (argument_offset height number +ℤ pos 1) (argument_offset height number) (inr refl)))
  in_words number numbers (held location) (inr t) = absurd (true≢false (sym t))
  in_words number numbers (in_frame k) (inr t) = or_there (is_within k (passed_word height number)) (is_passed height numbers k) t

  of_words : (number : ℕ) (numbers : List ℕ) (L : Holder) → is_of_words height (number ∷ numbers) L ≡ true → InWord (argument_offset height number) L ⊎ (is_of_words height numbers L ≡ true)
  of_words number numbers (held location) t = absurd (true≢false (sym t))
  of_words number numbers (in_frame k) t = elim (or_cases (is_within k (passed_word height number)) (is_passed height numbers k) t) [
    | inl e ↦ elim (word_only k (argument_offset height number) e) [
      | inl same ↦ inl (inl (ap in_frame same))
      | inr same ↦ inl (inr (ap in_frame same))
    ]
    | inr e ↦ inr e
  ]

  no_word : (L : Holder) → is_of_words height [] L ≡ true → ⊥
  no_word (held location) t = true≢false (sym t)
  no_word (in_frame k) t = true≢false (sym t)

  pub words_shown : (numbers : List ℕ) → ((number : ℕ) → Contains numbers number → Accessed number) → Shows (IsSame o) (λ L. is_of_words height numbers L ≡ true) (flat_map (λ number. reads_of (argument_value q height number)) numbers)
  words_shown [] access = shows_never (IsSame o) (λ L. is_of_words height [] L ≡ true) no_word
  words_shown (number ∷ numbers) access =
      let all = reads_of (argument_value q height number) ++ flat_map (λ number. reads_of (argument_value q height number)) numbers in
      shows_alike (IsSame o) (λ L. InWord (argument_offset height number) L ⊎ (is_of_words height numbers L ≡ true)) (λ L. is_of_words height (number ∷ numbers) L ≡ true) all all
      (shows_both (IsSame o) (InWord (argument_offset height number)) (λ L. is_of_words height numbers L ≡ true) (reads_of (argument_value q height number)) (flat_map (λ number. reads_of (argument_value q height number)) numbers)
      (word_shown (argument_offset height number) (access number (Contains-here number numbers))) (words_shown numbers (λ n c. access n (Contains-later number numbers n c))))
      (λ L l s t. in_words number numbers L t) (λ L l s t. of_words number numbers L t) (λ l c. c) (λ l c. c)

-- The call.

module _ (coarse : Procedures ℕ Holder ℤ) (fine : Procedures Position Loc Loc) (r : Refinement ℕ Holder ℤ Position Loc Loc) (entry at pushed : ℕ) (o : Option Procedure) (body : Body) (height target : ℕ) (numbers back : List ℕ) where
  abbrev x : Action Holder ℤ
  x = (coarse.procedure entry).action at

  abbrev touched : Holder → Bool
  touched L = is_of_words height back L

  -- the instruction at the offset is a CALL, which passes the words of the former numbers and may change those of the latter
  pub record IsCallOperation : Type 0 where
    pub same : (L : Holder) (l : Loc) → r.same entry L l → IsSame o L l
    pub as_same : (L : Holder) (l : Loc) → IsSame o L l → r.same entry L l
    pub same_word : (k : ℤ) (l : Loc) → r.same_word entry k l → IsSameWord o k l
    pub coarse_passes : (L : Holder) → coarse.passes L ≡ asks.passes L
    pub fine_passes : (l : Loc) → fine.passes l ≡ passes l
    pub stands : (L : Holder) (l : Loc) → IsSame o L l → is_holder body L ≡ true
    pub effect_is : (L : Holder) → x.effect L ≡ (if touched L then Makes else Leaves)
    pub made_is : (to from : Holder) → x.made_of to from ≡ false
    pub uses_is : (L : Holder) → x.uses L ≡ (is_holder body L && is_of_words height numbers L)
    pub unsure : (L : Holder) → x.surely L ≡ false
    pub word_is : (k : ℤ) → x.word_effect k ≡ (if touched (in_frame k) then Overwrites else LeavesWord)
    pub callee_is : x.callee ≡ Some target

  module _ (v : IsCallOperation) (q callee : Procedure) (found : o ≡ Some q) (heights : List (ℕ × ℕ)) (one : (L M : Holder) (l : Loc) → IsSame o L l → IsSame o M l → L ≡ M)
      (entry_is : callee.proc.entry ≡ target) (numbers_are : numbers ≡ range_with_len 0 callee.frame.args) (back_are : back ≡ given_back callee) (within : (L : Holder) → is_of_words height back L ≡ true → is_of_words height numbers L ≡ true)
      (access : (number : ℕ) → Contains (range_with_len 0 callee.frame.args) number → AccessAt o q found heights word_width (argument_offset height number)) where
    abbrev call : Stmt
    call = Call (results_of callee) callee.proc.entry (arguments_of q height callee) (height + 2)

    abbrev others : List Stmt
    others = taking_all_back q height 0 (given_back callee)

    abbrev stmts : List Stmt
    stmts = call ∷ others

    abbrev results : List Loc
    results = map returned_place (range_with_len 0 (2 * length (given_back callee)))

    abbrev returned : Loc → Bool
    returned l = is_among results l

    are_back : AreBack returned others
    are_back = all_back returned q height 0 (given_back callee) (λ i less. is_returned (2 * length (given_back callee)) i (omega (arith, less)))

    written_are : written_by call ≡ results
    written_are = temporaries_written (range_with_len 0 (2 * length (given_back callee)))

    call_unwritten : (l : Loc) → is_lasting l ≡ true → is_among (written_by call) l ≡ false
    call_unwritten l t = ap (λ ls. is_among ls l) written_are ∙ none_returned (range_with_len 0 (2 * length (given_back callee))) l t

    before_lasting : (l : Loc) → is_lasting l ≡ true → before call l ≡ l ∷ []
    before_lasting l t = ap (λ b. if b then [] else l ∷ []) (call_unwritten l t)

    before_returned : (t : ℕ) → returned (Temp t) ≡ true → before call (Temp t) ≡ []
    before_returned t e = ap (λ b. if b then [] else Temp t ∷ []) (ap (λ ls. is_among ls (Temp t)) written_are ∙ e)

    lasting : (L : Holder) (l : Loc) → r.same entry L l → is_lasting l ≡ true
    lasting L l s = same_lasts o L l (v.same L l s)

    -- What is written.

    passing : (L : Holder) (l : Loc) → r.same entry L l → coarse.passes L ≡ true → passes l ≡ true
    passing L l s p = sym (passes_alike o (v.same L l s)) ∙ sym (v.coarse_passes L) ∙ p

    half_lasts : (l : Loc) → passes l ≡ true → is_lasting l ≡ true
    half_lasts (Half q h) p = refl
    half_lasts (Flag f) p = refl
    half_lasts (Cell n h) p = refl
    half_lasts (Temp n) p = absurd (true≢false (sym p))

    written_is : (l : Loc) → is_lasting l ≡ true → is_written stmts l ≡ is_written others l
    written_is l t = ap (λ b. is_written others l || b) (call_unwritten l t) ∙ or_none (is_written others l)

    unwritten : (l : Loc) → passes l ≡ true → is_written stmts l ≡ false
    unwritten l p = written_is l (half_lasts l p) ∙ back_unwritten returned are_back l p

    untouched : (L : Holder) → coarse.passes L ≡ true → touched L ≡ false
    untouched (held location) p = refl
    untouched (in_frame k) p = absurd (true≢false (sym p ∙ v.coarse_passes (in_frame k)))

    leaves : (L : Holder) → coarse.passes L ≡ true → x.effect L ≡ Leaves
    leaves L p = v.effect_is L ∙ ap (λ b. if b then Makes else Leaves) (untouched L p)

    fine_leaves : (L : Holder) (l : Loc) → r.same entry L l → coarse.passes L ≡ true → effect_after pushed stmts l ≡ Leaves
    fine_leaves L l s p = effect_left (fine.procedure entry) pushed stmts l (unwritten l (passing L l s p))

    effect_agrees : (L : Holder) (l : Loc) → r.same entry L l → coarse.passes L ≡ true → EffectsAgree coarse fine r entry (x.effect L) (effect_after pushed stmts l)
    effect_agrees L l s p =
        subst (λ e. EffectsAgree coarse fine r entry e (effect_after pushed stmts l)) (sym (leaves L p))
        (subst (λ e. EffectsAgree coarse fine r entry Leaves e) (sym (fine_leaves L l s p)) EffectsAgree.both_leave)

    -- a location is written after the Call where its byte is taken back
    taken_back : (k : ℤ) (l : Loc) → IsSame o (in_frame k) l → is_written others l ≡ touched (in_frame k)
    taken_back k l s = words_written o q found heights height one k l s 0 (given_back callee) ∙ ap (λ ns. is_passed height ns k) (sym back_are)

    word_agrees : (L : Holder) (l : Loc) (k : ℤ) (w : Loc) → r.same_word entry k w → WordEffectsAgree coarse fine r L l (x.word_effect k) (word_effect_after pushed stmts w)
    word_agrees L l k w u =
        let is = v.same_word k w u in
        let cell = pushed_cell (pushed_of is.found) w is.pushed in
        subst (λ m. WordEffectsAgree coarse fine r L l (x.word_effect k) (word_effect_after pushed stmts m)) (sym cell.2)
        (by (touched (in_frame k)) cell.0 cell.1 refl (sym (ap (is_written others) cell.2) ∙ taken_back k w (IsSame.is_kept is.is_found is.kept)))
      where
        by : (b : Bool) (n : ℕ) (h : HalfName) → touched (in_frame k) ≡ b → is_written others (Cell n h) ≡ touched (in_frame k)
            → WordEffectsAgree coarse fine r L l (x.word_effect k) (word_effect_after pushed stmts (Cell n h))
        by true n h e f =
            subst (λ y. WordEffectsAgree coarse fine r L l y (word_effect_after pushed stmts (Cell n h))) (sym (v.word_is k ∙ ap (λ b. if b then Overwrites else LeavesWord) e))
            (subst (λ y. WordEffectsAgree coarse fine r L l Overwrites y)
            (sym (ap (λ y. later_word_effect y (if is_among (written_by call) (Cell n h) then Overwrites else LeavesWord)) (word_spoiled (fine.procedure entry) pushed others n h (back_values returned are_back) (f ∙ e))))
            (WordEffectsAgree.both_spoil Spoils.overwritten Spoils.overwritten))
        by false n h e f =
            subst (λ y. WordEffectsAgree coarse fine r L l y (word_effect_after pushed stmts (Cell n h))) (sym (v.word_is k ∙ ap (λ b. if b then Overwrites else LeavesWord) e))
            (subst (λ y. WordEffectsAgree coarse fine r L l LeavesWord y) (sym (word_left (fine.procedure entry) pushed stmts (Cell n h) (written_is (Cell n h) refl ∙ f ∙ e))) WordEffectsAgree.both_leave)

    -- What passes by.

    first : IsCallFirst coarse fine r entry at pushed stmts [] target
    first = record {
      call = call;
      others = others;
      stmts_are = refl;
      calls = ap Some entry_is;
      then = back_quiet returned are_back;
      left = λ L l s p. (leaves L p, record { unmade = λ to. v.made_is to L; unwritten = v.unsure L });
      spared = λ l t.
          let p = sym (v.fine_passes l) ∙ t in
          ((refl, call_unwritten l (half_lasts l p)), back_spared returned are_back l p, refl);
    }

    -- What is used.

    used_are : used stmts [] ≡ flat_map (λ number. reads_of (argument_value q height number)) (range_with_len 0 callee.frame.args)
    used_are =
        ap (λ ls. used_by call ++ ls) (back_used returned are_back (before call) before_returned) ∙ append-nil (used_by call)
        ∙ words_used (argument_value q height) (λ number. frame_word q (argument_offset height number)) (range_with_len 0 callee.frame.args)

    using : Shows (IsSame o) (λ L. is_of_words height numbers L ≡ true) (used stmts [])
    using =
        subst (λ ls. Shows (IsSame o) (λ L. is_of_words height numbers L ≡ true) ls) (sym used_are)
        (subst (λ ns. Shows (IsSame o) (λ L. is_of_words height ns L ≡ true) (flat_map (λ number. reads_of (argument_value q height number)) (range_with_len 0 callee.frame.args))) (sym numbers_are)
        (words_shown o q found heights height one (range_with_len 0 callee.frame.args) access))

    takes_words : (L : Holder) → Takes coarse fine r entry at L → is_of_words height numbers L ≡ true
    takes_words L (inl u) = and_right (is_holder body L) (is_of_words height numbers L) (sym (v.uses_is L) ∙ u)
    takes_words L (inr (to, b, e, c, w, m)) = absurd (true≢false (sym m ∙ v.made_is to L))

    words_taken : (L : Holder) (l : Loc) → IsSame o L l → is_of_words height numbers L ≡ true → Takes coarse fine r entry at L
    words_taken L l s t = inl (v.uses_is L ∙ and_both (is_holder body L) (is_of_words height numbers L) (v.stands L l s) t)

    -- What is kept.

    carries_itself : (L A : Holder) → Carries coarse fine r entry at L A → L ≡ A
    carries_itself L A (inl made) = absurd (true≢false (sym made.1 ∙ v.made_is A L))
    carries_itself L A (inr kept) = kept.0

    touched_where : (A : Holder) (a : Loc) → r.same entry A a → is_written others a ≡ true → touched A ≡ true
    touched_where (held location) a s w =
        absurd (true≢false (sym w ∙ back_unwritten returned are_back a (sym (passes_alike o (v.same (held location) a s)) ∙ held_passes (same_cases o (v.same (held location) a s)))))
      where
        held_passes : SameCases o (held location) a → asks.passes (held location) ≡ true
        held_passes (SameCases.by_held l p e f) = ap asks.passes e ∙ p
        held_passes (SameCases.by_kept other k p e kept f) = absurd (cc e)
    touched_where (in_frame k) a s w = sym (taken_back k a (v.same (in_frame k) a s)) ∙ w

    carried : (L A : Holder) (l a : Loc) → r.same entry L l → r.same entry A a → Carries coarse fine r entry at L A → Contains (sources stmts a) l ⊎ Contains (used stmts []) l
    carried L A l a s t c = by (back_holding returned are_back a (lasting A a t))
      where
        same : l ≡ a
        same = same_once (v.same L l s) (subst (λ M. IsSame o M a) (sym (carries_itself L A c)) (v.same A a t))

        by : Holding returned others a → Contains (sources stmts a) l ⊎ Contains (used stmts []) l
        by (Holding.kept w from) =
            inl (subst (λ ls. Contains ls l) (sym (ap (flat_map (before call)) from ∙ append-nil (before call a) ∙ before_lasting a (lasting A a t)))
            (subst (λ m. Contains (a ∷ []) m) (sym same) (Contains-here a [])))
        by (Holding.given u w g from) =
            inr (subst (λ m. Contains (used stmts []) m) (sym same) (using.has A a (v.same A a t) (within A (touched_where A a t w))))

    flows : (A : Holder) (l a : Loc) → r.same entry A a → Contains (sources stmts a) l
        → (L : Holder) × r.same entry L l × (Carries coarse fine r entry at L A ⊎ Takes coarse fine r entry at L)
    flows A l a t c = by (back_holding returned are_back a (lasting A a t))
      where
        by : Holding returned others a → (L : Holder) × r.same entry L l × (Carries coarse fine r entry at L A ⊎ Takes coarse fine r entry at L)
        by (Holding.kept w from) =
            let there = subst (λ ls. Contains ls l) (ap (flat_map (before call)) from ∙ append-nil (before call a) ∙ before_lasting a (lasting A a t)) c in
            (A, subst (λ m. r.same entry A m) (only a l there) t, inl (inr (refl, v.unsure A)))
        by (Holding.given u w g from) =
            absurd (Contains-none l (subst (λ ls. Contains ls l) (ap (flat_map (before call)) from ∙ append-nil (before call (Temp u)) ∙ before_returned u g) c))

    pub call_agrees : Agrees coarse fine r entry at pushed (calling q height (Some callee)) []
    call_agrees = record {
      effect = effect_agrees;
      word_effect = λ L l k w s p u. word_agrees L l k w u;
      saved = λ L l k s p e. absurd (no_push (touched (in_frame k)) L (sym (v.word_is k) ∙ e));
      popped = λ L l k w s p u e. absurd (no_pop (touched L) k (x.effect L) (v.effect_is L) e);
      callees = inr (target, v.callee_is, first);
      carried = carried;
      taken = λ L l s t. using.has L l (v.same L l s) (takes_words L t);
      flows = flows;
      uses = λ l c. let there = using.comes l c in (there.0, v.as_same there.0 l there.1, words_taken there.0 l there.1 there.2);
      made = λ L to w m. absurd (true≢false (sym m ∙ v.made_is to L));
    }
