-- Statements that prepare a result in different ways, before it is stored, do the same.
use Rattle.std.proofs.Common.{◌≡◌, ℕ, ℤ, Bool, true, false, ◌||◌, if◌then◌else◌, inl, inr, List, [], ◌∷◌, ◌++◌, None, Option, refl, sym, ap, ◌∙◌, subst, true≢false}
use Rattle.std.specs.Prelude.{flat_map}
use Rattle.std.specs.List.{list_all}
use Rattle.std.proofs.lemmas.List.{append-nil}
use Rattle.std.proofs.lemmas.Grind.{flat_map-append}
use Rattle.dcc_num.specs.declared.Width.{Width}
use Rattle.dcc_num.specs.declared.Width.TheVariants.{Byte as byte_width, Word as word_width}
use Rattle.dcc_machine.specs.Wanted.{Location, half_of, flag_of}
use Rattle.dcc_ir.specs.declared.syntax.Loc.{Loc}
use Rattle.dcc_ir.specs.declared.syntax.Loc.TheVariants.{Half, Flag, Cell, Temp}
use Rattle.dcc_ir.specs.Location.{same_location}
use Rattle.dcc_ir.specs.Tree.{Expr, Stmt, Set}
use Rattle.dcc_ir.specs.Use.{reads_of}
use Rattle.dcc_ir.specs.Live.{is_among}
use Rattle.dcc_ops.specs.OperandPlace.{OperandPlace, memory, taking, storing}
use Rattle.dcc_ops.specs.Expressions.{result}
use Rattle.dcc_ops.specs.Temporaries.{left_place, right_place, result_place}
use Rattle.dcc_lift.proofs.ListTests.{and_both, or_none}
use Rattle.dcc_simulation.specs.Procedures.{Procedure, pushed_of}
use Rattle.dcc_demand.specs.Procedures.{Effect, Leaves, Copies, Pops, Makes, WordEffect, LeavesWord, Pushes, Overwrites, Procedures}
use Rattle.dcc_machine_demand.specs.Holders.{Holder}
use Rattle.dcc_sums.specs.Points.{Position}
use Rattle.dcc_sums.specs.Instance as sums
use Rattle.dcc_sums.specs.Instance.{written_by, action_of}
use Rattle.dcc_refinement.specs.Steps.{later_effect, later_word_effect}
use Rattle.dcc_refinement.specs.Refinement.{Refinement, EffectsAgree, WordEffectsAgree}
use Rattle.dcc_lifted_demand.specs.Sources.{before, sources, used, effect_after, word_effect_after}
use Rattle.dcc_lifted_demand.specs.LiftedRefinement.{inner_of, IsSame, IsSameWord}
use Rattle.dcc_lifted_demand.proofs.SameLaws.{SameCases, same_cases}
use Rattle.dcc_instruction_demand.specs.Agreement.{Agrees}
use Rattle.dcc_instruction_demand.proofs.ValueLaws.{is_value, is_written, quiet}
use Rattle.dcc_instruction_demand.proofs.OperationLaws.{pushed_cell}
use Rattle.dcc_instruction_demand.proofs.StageLaws.{HaveSame, have_equal, have_then, have_mapped, flat_still}
use Rattle.dcc_instruction_demand.proofs.StageLaws.{sources_append, used_append, is_useless, used_useless, is_empty}
use Rattle.dcc_instruction_demand.proofs.StageLaws.{is_kept_place, reads_at, is_lasting, outs, is_stored, has_kept}
use Rattle.dcc_instruction_demand.proofs.StageLaws.{before_taking, taking_useless, lasts_left, left_itself, before_both}
use Rattle.dcc_instruction_demand.proofs.StageLaws.{both_lasting, both_left, both_right, sources_taken, sources_storing}
use Rattle.dcc_instruction_demand.proofs.StageLaws.{used_storing, values_storing}
use Rattle.dcc_instruction_demand.proofs.FormLaws.{all_append, both_written, both_values, taking_written, taking_value}

have_back : (xs ys : List Loc) → HaveSame xs ys → HaveSame ys xs
have_back xs ys a = record { grow = a.shrink; shrink = a.grow }

-- what stands for a place is no temporary
pub same_lasts : (o : Option Procedure) (L : Holder) (l : Loc) → IsSame o L l → is_lasting l ≡ true
same_lasts o L l s = by (same_cases o s)
  where
    inner : (location : Location) → is_lasting (inner_of location) ≡ true
    inner (half_of q h) = refl
    inner (flag_of f) = refl

    by : SameCases o L l → is_lasting l ≡ true
    by (SameCases.by_held location p e f) = ap is_lasting f ∙ inner location
    by (SameCases.by_kept found k p e kept g) = ap is_lasting kept.is

pub word_lasts : (o : Option Procedure) (k : ℤ) (l : Loc) → IsSameWord o k l → is_lasting l ≡ true
word_lasts o k l is = ap is_lasting (pushed_cell (pushed_of is.found) l is.pushed).2

-- What is done to places, told of other statements that do the same to these.
module _ (coarse : Procedures ℕ Holder ℤ) (fine : Procedures Position Loc Loc) (r : Refinement ℕ Holder ℤ Position Loc Loc) (entry at pushed : ℕ) (xs ys : List Stmt) (after : List Loc) where
  pub record DoAlike : Type 0 where
    pub lasts : (L : Holder) (l : Loc) → r.same entry L l → is_lasting l ≡ true
    pub words_last : (k : ℤ) (l : Loc) → r.same_word entry k l → is_lasting l ≡ true
    pub effects : (l : Loc) → is_lasting l ≡ true → effect_after pushed xs l ≡ effect_after pushed ys l
    pub word_effects : (l : Loc) → is_lasting l ≡ true → word_effect_after pushed xs l ≡ word_effect_after pushed ys l
    pub sources_are : (l : Loc) → is_lasting l ≡ true → HaveSame (sources xs l) (sources ys l)
    pub used_are : HaveSame (used xs after) (used ys after)
    pub callee : ((coarse.procedure entry).action at).callee ≡ None
    pub values : list_all is_value ys ≡ true

  pub alike_agrees : DoAlike → Agrees coarse fine r entry at pushed xs after → Agrees coarse fine r entry at pushed ys after
  alike_agrees same a = record {
    effect = λ L l s p. subst (λ y. EffectsAgree coarse fine r entry (((coarse.procedure entry).action at).effect L) y) (same.effects l (same.lasts L l s)) (a.effect L l s p);
    word_effect = λ L l k w s p t.
        subst (λ y. WordEffectsAgree coarse fine r L l (((coarse.procedure entry).action at).word_effect k) y) (same.word_effects w (same.words_last k w t)) (a.word_effect L l k w s p t);
    saved = λ L l k s p e. let both = a.saved L l k s p e in (both.0, sym (same.effects l (same.lasts L l s)) ∙ both.1);
    popped = λ L l k w s p t e. sym (same.word_effects w (same.words_last k w t)) ∙ a.popped L l k w s p t e;
    callees = inl (same.callee, quiet ys same.values);
    carried = λ L A l b s t c. elim (a.carried L A l b s t c) [
      | inl d ↦ inl ((same.sources_are b (same.lasts A b t)).grow l d)
      | inr d ↦ inr (same.used_are.grow l d)
    ];
    taken = λ L l s t. same.used_are.grow l (a.taken L l s t);
    flows = λ A l b t c. a.flows A l b t ((same.sources_are b (same.lasts A b t)).shrink l c);
    uses = λ l c. a.uses l (same.used_are.shrink l c);
    made = a.made;
  }

-- Statements that write temporaries alone.

module _ (pushed : ℕ) (st : List Stmt) (m : Loc) where
  effect_later : (xs : List Stmt) → is_written xs m ≡ false → effect_after pushed (xs ++ st) m ≡ effect_after pushed st m
  effect_later [] e = refl
  effect_later (s ∷ xs) e = by (is_written xs m) (is_among (written_by s) m) refl refl e (λ f. effect_later xs f)
    where
      none_earlier : (x : Effect Loc Loc) → later_effect x Leaves ≡ x
      none_earlier Leaves = refl
      none_earlier (Copies l) = refl
      none_earlier (Pops l) = refl
      none_earlier Makes = refl

      by : (a b : Bool) → is_written xs m ≡ a → is_among (written_by s) m ≡ b → (a || b) ≡ false
          → (is_written xs m ≡ false → effect_after pushed (xs ++ st) m ≡ effect_after pushed st m) → later_effect (effect_after pushed (xs ++ st) m) ((action_of pushed s).effect m) ≡ effect_after pushed st m
      by true b f g e rest = absurd (true≢false e)
      by false true f g e rest = absurd (true≢false e)
      by false false f g e rest =
          ap (λ b. later_effect (effect_after pushed (xs ++ st) m) (if b then sums.effect_of pushed s else Leaves)) g
          ∙ none_earlier (effect_after pushed (xs ++ st) m) ∙ rest f

  word_later : (xs : List Stmt) → is_written xs m ≡ false → word_effect_after pushed (xs ++ st) m ≡ word_effect_after pushed st m
  word_later [] e = refl
  word_later (s ∷ xs) e = by (is_written xs m) (is_among (written_by s) m) refl refl e (λ f. word_later xs f)
    where
      none_earlier : (x : WordEffect Loc) → later_word_effect x LeavesWord ≡ x
      none_earlier LeavesWord = refl
      none_earlier (Pushes l) = refl
      none_earlier Overwrites = refl

      by : (a b : Bool) → is_written xs m ≡ a → is_among (written_by s) m ≡ b → (a || b) ≡ false
          → (is_written xs m ≡ false → word_effect_after pushed (xs ++ st) m ≡ word_effect_after pushed st m)
          → later_word_effect (word_effect_after pushed (xs ++ st) m) ((action_of pushed s).word_effect m) ≡ word_effect_after pushed st m
      by true b f g e rest = absurd (true≢false e)
      by false true f g e rest = absurd (true≢false e)
      by false false f g e rest =
          ap (λ b. later_word_effect (word_effect_after pushed (xs ++ st) m) (if b then sums.word_effect_of s else LeavesWord)) g
          ∙ none_earlier (word_effect_after pushed (xs ++ st) m) ∙ rest f

lasts_result : (w : Width) (l : Loc) → is_lasting l ≡ true → same_location l (result_place w) ≡ false
lasts_result byte_width (Half r h) t = refl
lasts_result word_width (Half r h) t = refl
lasts_result byte_width (Flag f) t = refl
lasts_result word_width (Flag f) t = refl
lasts_result byte_width (Cell n h) t = refl
lasts_result word_width (Cell n h) t = refl
lasts_result w (Temp n) t = absurd (true≢false (sym t))

-- a result that is set at once
module _ (w : Width) (e : Expr) where
  abbrev setting : List Stmt
  setting = Set (result_place w) e ∷ []

  pub set_stays : (l : Loc) → is_lasting l ≡ true → sources setting l ≡ l ∷ []
  set_stays l t = ap (λ c. (if c || false then reads_of e else l ∷ []) ++ []) (lasts_result w l t)

  pub set_unwritten : (l : Loc) → is_lasting l ≡ true → is_written setting l ≡ false
  set_unwritten l t = or_none (same_location l (result_place w)) ∙ lasts_result w l t

  pub set_value : list_all is_value setting ≡ true
  set_value = by w
    where
      by : (w : Width) → list_all is_value (Set (result_place w) e ∷ []) ≡ true
      by byte_width = refl
      by word_width = refl

module _ (w : Width) (P : OperandPlace) where
  -- the statements make the result of what is read of the place, and write no other place
  pub record IsPreparing (xs : List Stmt) : Type 0 where
    pub values : list_all is_value xs ≡ true
    pub useless : list_all is_useless xs ≡ true
    pub unwritten : (l : Loc) → is_lasting l ≡ true → is_written xs l ≡ false
    pub stays : (l : Loc) → is_lasting l ≡ true → sources xs l ≡ l ∷ []
    pub makes : sources xs (result_place w) ≡ reads_at P

  abbrev st : List Stmt
  st = storing P (result w)

  module _ (kept : has_kept P ≡ true) (address_kept : list_all is_kept_place (reads_at P) ≡ true) (xs : List Stmt) (x : IsPreparing xs) where
    prepared_sources : (m : Loc) → is_lasting m ≡ true → HaveSame (sources (xs ++ st) m) (if is_among (outs P) m then reads_at P else m ∷ [])
    prepared_sources m t =
        have_then (sources (xs ++ st) m) (flat_map (sources xs) (sources st m)) (if is_among (outs P) m then reads_at P else m ∷ [])
        (have_equal (sources (xs ++ st) m) (flat_map (sources xs) (sources st m)) (sources_append xs st m))
        (have_then (flat_map (sources xs) (sources st m)) (flat_map (sources xs) (if is_among (outs P) m then result_place w ∷ [] else m ∷ [])) (if is_among (outs P) m then reads_at P else m ∷ [])
        (have_mapped (sources xs) (sources st m) (if is_among (outs P) m then result_place w ∷ [] else m ∷ []) (sources_storing w P m kept)) (by (is_among (outs P) m)))
      where
        by : (b : Bool) → HaveSame (flat_map (sources xs) (if b then result_place w ∷ [] else m ∷ [])) (if b then reads_at P else m ∷ [])
        by true = have_equal (sources xs (result_place w) ++ []) (reads_at P) (append-nil (sources xs (result_place w)) ∙ x.makes)
        by false = have_equal (sources xs m ++ []) (m ∷ []) (append-nil (sources xs m) ∙ x.stays m t)

    kept_stays : (l : Loc) → is_kept_place l ≡ true → sources xs l ≡ l ∷ []
    kept_stays (Half q h) t = x.stays (Half q h) refl
    kept_stays (Cell n h) t = x.stays (Cell n h) refl
    kept_stays (Flag f) t = absurd (true≢false (sym t))
    kept_stays (Temp n) t = absurd (true≢false (sym t))

    prepared_used : used (xs ++ st) [] ≡ (if is_stored P then reads_at P ++ reads_at P else [])
    prepared_used = used_append xs st [] ∙ used_useless xs (used st []) x.useless ∙ ap (flat_map (sources xs)) (used_storing w P) ∙ by (is_stored P)
      where
        by : (b : Bool) → flat_map (sources xs) (if b then reads_at P ++ (result_place w ∷ []) else []) ≡ (if b then reads_at P ++ reads_at P else [])
        by true =
            flat_map-append (sources xs) (reads_at P) (result_place w ∷ [])
            ∙ ap (λ ls. ls ++ (sources xs (result_place w) ++ [])) (flat_still (sources xs) is_kept_place kept_stays (reads_at P) address_kept)
            ∙ ap (λ ls. reads_at P ++ ls) (append-nil (sources xs (result_place w)) ∙ x.makes)
        by false = refl

  -- The two ways.

  module _ (kept : has_kept P ≡ true) (address_kept : list_all is_kept_place (reads_at P) ≡ true) (xs ys : List Stmt) (x : IsPreparing xs) (y : IsPreparing ys)
      (coarse : Procedures ℕ Holder ℤ) (fine : Procedures Position Loc Loc) (r : Refinement ℕ Holder ℤ Position Loc Loc) (entry at pushed : ℕ)
      (lasts : (L : Holder) (l : Loc) → r.same entry L l → is_lasting l ≡ true) (words_last : (k : ℤ) (l : Loc) → r.same_word entry k l → is_lasting l ≡ true)
      (callee : ((coarse.procedure entry).action at).callee ≡ None) where
    pub prepared_agrees : Agrees coarse fine r entry at pushed (xs ++ st) [] → Agrees coarse fine r entry at pushed (ys ++ st) []
    prepared_agrees = alike_agrees coarse fine r entry at pushed (xs ++ st) (ys ++ st) [] (record {
      lasts = lasts;
      words_last = words_last;
      effects = λ l t. effect_later pushed st l xs (x.unwritten l t) ∙ sym (effect_later pushed st l ys (y.unwritten l t));
      word_effects = λ l t. word_later pushed st l xs (x.unwritten l t) ∙ sym (word_later pushed st l ys (y.unwritten l t));
      sources_are = λ l t.
          have_then (sources (xs ++ st) l) (if is_among (outs P) l then reads_at P else l ∷ []) (sources (ys ++ st) l) (prepared_sources kept address_kept xs x l t)
          (have_back (sources (ys ++ st) l) (if is_among (outs P) l then reads_at P else l ∷ []) (prepared_sources kept address_kept ys y l t));
      used_are = have_equal (used (xs ++ st) []) (used (ys ++ st) []) (prepared_used kept address_kept xs x ∙ sym (prepared_used kept address_kept ys y));
      callee = callee;
      values = all_append is_value ys st y.values (values_storing w P);
    })

  -- With one operand that is taken to a place, or with a second one that reads nothing.

  module _ (to : Loc) (ss : List Stmt) (apart : (l : Loc) → is_lasting l ≡ true → same_location l to ≡ false) (itself : same_location to to ≡ true) (value : is_value (taking to P) ≡ true) (values : list_all is_value ss ≡ true)
      (useless : list_all is_useless ss ≡ true) (unwritten : (l : Loc) → is_lasting l ≡ true → is_written ss l ≡ false) (stays : (l : Loc) → is_lasting l ≡ true → sources ss l ≡ l ∷ []) (makes : sources ss (result_place w) ≡ to ∷ []) where
    pub one_prepares : IsPreparing (taking to P ∷ ss)
    one_prepares = record {
      values = and_both (is_value (taking to P)) (list_all is_value ss) value values;
      useless = and_both (is_useless (taking to P)) (list_all is_useless ss) (ap is_empty (taking_useless to P)) useless;
      unwritten = λ l t. taking_written to P l (apart l t) ss ∙ unwritten l t;
      stays = λ l t.
          ap (flat_map (before (taking to P))) (stays l t) ∙ append-nil (before (taking to P) l) ∙ before_taking to P l ∙ ap (λ b. if b then reads_at P else l ∷ []) (apart l t);
      makes = ap (flat_map (before (taking to P))) makes ∙ append-nil (before (taking to P) to) ∙ before_taking to P to ∙ ap (λ b. if b then reads_at P else to ∷ []) itself;
    }

  module _ (G : OperandPlace) (silent : reads_at G ≡ []) (e : Expr) (makes : sources (Set (result_place w) e ∷ []) (result_place w) ≡ left_place w ∷ right_place w ∷ []) where
    second_lasts : list_all is_lasting (reads_at G) ≡ true
    second_lasts = ap (list_all is_lasting) silent

    pub two_prepare : IsPreparing (taking (left_place w) P ∷ taking (right_place w) G ∷ Set (result_place w) e ∷ [])
    two_prepare = record {
      values = both_values w P G (setting w e) (set_value w e);
      useless = and_both (is_useless (taking (left_place w) P)) (list_all is_useless (taking (right_place w) G ∷ Set (result_place w) e ∷ [])) (ap is_empty (taking_useless (left_place w) P))
          (and_both (is_useless (taking (right_place w) G)) true (ap is_empty (taking_useless (right_place w) G)) refl);
      unwritten = λ l t. both_written w P G (setting w e) l t ∙ set_unwritten w e l t;
      stays = λ l t.
          sources_taken w P G (setting w e) l ∙ ap (flat_map (before_both w P G)) (set_stays w e l t)
          ∙ append-nil (before_both w P G l) ∙ both_lasting w P G l t;
      makes =
          sources_taken w P G (setting w e) (result_place w) ∙ ap (flat_map (before_both w P G)) makes
          ∙ ap (λ ls. ls ++ (before_both w P G (right_place w) ++ [])) (both_left w P G) ∙ ap (λ ls. reads_at P ++ (ls ++ [])) (both_right w P G second_lasts ∙ silent) ∙ append-nil (reads_at P);
    }

-- The operand is taken to the result, or to the left temporary.

result_itself : (w : Width) → same_location (result_place w) (result_place w) ≡ true
result_itself byte_width = refl
result_itself word_width = refl

result_value : (w : Width) (P : OperandPlace) → is_value (taking (result_place w) P) ≡ true
result_value byte_width (memory u e) = refl
result_value word_width (memory u e) = refl
result_value byte_width P = refl
result_value word_width P = refl

pub result_prepares : (w : Width) (P : OperandPlace) → IsPreparing w P (taking (result_place w) P ∷ [])
result_prepares w P = one_prepares w P (result_place w) [] (lasts_result w) (result_itself w) (result_value w P) refl refl (λ l t. refl) (λ l t. refl) refl

pub left_prepares : (w : Width) (P : OperandPlace) (e : Expr) → sources (Set (result_place w) e ∷ []) (result_place w) ≡ left_place w ∷ [] → IsPreparing w P (taking (left_place w) P ∷ Set (result_place w) e ∷ [])
left_prepares w P e makes =
    one_prepares w P (left_place w) (Set (result_place w) e ∷ []) (lasts_left w) (left_itself w) (taking_value w P).0 (set_value w e) refl (set_unwritten w e) (set_stays w e) makes
