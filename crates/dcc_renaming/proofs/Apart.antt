-- New names by changes that are not at fault keep apart what was apart.
use Rattle.std.proofs.Common.{◌≡◌, true, false, map, Option, Some, None, refl, sym, ap, ◌∙◌, subst, inl, inr}
use Rattle.std.specs.Prelude.{codes}
use Rattle.std.proofs.lemmas.Bool.{or_parts, cases_Bool}
use Rattle.dcc_c.specs.Dos.{dos_names}
use Rattle.dcc_c.specs.Grammar.{is_among}
use Rattle.dcc_c.specs.Token.{same_bytes}
use Rattle.dcc_c.specs.Tree.{Word, Tree}
use Rattle.dcc_c.proofs.NameLaws.{same_bytes-equal, same_bytes-refl}
use Rattle.dcc_renaming.specs.Changes.{in_file}
use Rattle.dcc_renaming.specs.Faults.{Own, own, owns, outer_names, thing, things, stands_twice, outer_after, name_after, thing_after}
use Rattle.dcc_renaming.specs.Renamed.{now_or, outer_now, own_now}
use Rattle.dcc_renaming.proofs.Free.{IsFree, IsNew, outer-new, own-new}
use Rattle.dcc_renaming.proofs.Members.{In, in-cases, in-map, map-in, among-in, not-in, stands-twice, is_plain, no-dot, dot-split}

-- The names of a tree are words, and kept apart.
pub record IsNamed (tree : Tree) : Type 0 where
  pub outer : (w : Word) → In w (outer_names tree) → is_plain w ≡ true
  pub function : (o : Own) → In o (owns tree) → is_plain o.function ≡ true
  pub name : (o : Own) → In o (owns tree) → is_plain o.name ≡ true
  pub apart : (o : Own) → In o (owns tree) → In o.name (outer_names tree) → ⊥
  pub dos : (w : Word) → In w (outer_names tree) → In w dos_names → ⊥
  pub start : In (codes "start") (outer_names tree)

-- two words are one where they can't be told apart
pub one-word : (a b : Word) → ((a ≡ b → ⊥) → ⊥) → a ≡ b
one-word a b never = elim (cases_Bool (same_bytes a b)) [
  | inl met ↦ same_bytes-equal a b met
  | inr unmet ↦ absurd (never (λ e. let both : true ≡ false = sym (same_bytes-refl a) ∙ ap (same_bytes a) e ∙ unmet in absurd cc))
]

dos-plain : (w : Word) → In w dos_names → is_plain w ≡ true
dos-plain w (inl e) = ap is_plain e
dos-plain w (inr (inl e)) = ap is_plain e
dos-plain w (inr (inr (inl e))) = ap is_plain e
dos-plain w (inr (inr (inr (inl e)))) = ap is_plain e
dos-plain w (inr (inr (inr (inr (inl e))))) = ap is_plain e
dos-plain w (inr (inr (inr (inr (inr none))))) = absurd none

module _ (new : Word → Option Word) (tree : Tree) (named : IsNamed tree) (free : (thing now : Word) → new thing ≡ Some now → IsFree new tree thing now) where
  -- What has a new name is declared.

  pub outer-declared : (w now : Word) → is_plain w ≡ true → new w ≡ Some now → In w (outer_names tree)
  outer-declared w now plain is = elim (in-cases w (outer_names tree) (map thing (owns tree)) (among-in (things tree) w (free w now is).declared)) [
    | inl outer ↦ outer
    | inr inner ↦ let c = in-map thing (owns tree) w inner in absurd (no-dot c.from.function c.from.name (subst (λ l. is_plain l ≡ true) c.is plain))
  ]

  pub own-is : (f w : Word) (o : Own) → In o (owns tree) → in_file (Some f) w ≡ thing o → In (own f w) (owns tree)
  own-is f w o is same =
      let s = dot-split o.function f o.name w (named.function o is) (named.name o is) (sym same) in
      subst (λ p. In p (owns tree)) (ap (λ g. own g o.name) s.front ∙ ap (own f) s.back) is

  pub own-declared : (f w now : Word) → new (in_file (Some f) w) ≡ Some now → In (own f w) (owns tree)
  own-declared f w now is = elim (in-cases (in_file (Some f) w) (outer_names tree) (map thing (owns tree)) (among-in (things tree) (in_file (Some f) w) (free (in_file (Some f) w) now is).declared)) [
    | inl outer ↦ absurd (no-dot f w (named.outer (in_file (Some f) w) outer))
    | inr inner ↦ let c = in-map thing (owns tree) (in_file (Some f) w) inner in own-is f w c.from c.has c.is
  ]

  -- The new names, by what has them.

  none-unless : (thing : Word) (o : Option Word) → new thing ≡ o → ((now : Word) → new thing ≡ Some now → ⊥) → new thing ≡ None
  none-unless thing None is never = is
  none-unless thing (Some now) is never = absurd (never now is)

  outer-is : (w : Word) {o : Option Word} → new w ≡ o → outer_now new w ≡ now_or o w
  outer-is w is = ap (λ o. now_or o w) is

  own-none : (f w : Word) → In w (outer_names tree) → new (in_file (Some f) w) ≡ None
  own-none f w is = none-unless (in_file (Some f) w) (new (in_file (Some f) w)) refl (λ now e. named.apart (own f w) (own-declared f w now e) is)

  pub shared-name : (f w : Word) → In w (outer_names tree) → own_now new f w ≡ outer_now new w
  shared-name f w is = ap (λ o. now_or o (outer_now new w)) (own-none f w is)

  pub own-name : (f w : Word) → In (own f w) (owns tree) → own_now new f w ≡ name_after new (own f w)
  own-name f w is =
      let none = none-unless w (new w) refl (λ now e. named.apart (own f w) is (outer-declared w now (named.name (own f w) is) e)) in
      ap (now_or (new (in_file (Some f) w))) (outer-is w none)

  pub dos-name : (w : Word) → In w dos_names → outer_now new w ≡ w
  dos-name w is = outer-is w (none-unless w (new w) refl (λ now e. named.dos w (outer-declared w now (dos-plain w is) e) is))

  new-outer : (w now : Word) → In w (outer_names tree) → new w ≡ Some now → IsNew new tree None w now
  new-outer w now is e = outer-new new tree w now (named.outer w is) (free w now e)

  new-own : (f w now : Word) → In (own f w) (owns tree) → new (in_file (Some f) w) ≡ Some now → IsNew new tree (Some f) w now
  new-own f w now is e = own-new new tree f w now (named.function (own f w) is) (named.name (own f w) is) (free (in_file (Some f) w) now e)

  -- Names of global variables and functions.

  twice-outer : (a b now : Word) → In a (outer_names tree) → In b (outer_names tree) → new a ≡ Some now → now ≡ outer_now new b → a ≡ b
  twice-outer a b now is also e same = one-word a b (λ other.
      let two = stands-twice (outer_now new) (outer_names tree) a b now is also other (outer-is a e) (sym same) in
      let shared = (or_parts (stands_twice (outer_after new tree) now) (is_among (map (name_after new) (owns tree)) now) (new-outer a now is e).shared).0 in
      let both : true ≡ false = sym two ∙ shared in absurd cc)

  pub outer-outer : (a b : Word) → In a (outer_names tree) → In b (outer_names tree) → outer_now new a ≡ outer_now new b → a ≡ b
  outer-outer a b is also same = cases (new a) (new b) refl refl where
    cases : (o p : Option Word) → new a ≡ o → new b ≡ p → a ≡ b
    cases (Some now) p e g = twice-outer a b now is also e (sym (outer-is a e) ∙ same)
    cases None (Some now) e g = sym (twice-outer b a now also is g (sym (outer-is b g) ∙ sym same))
    cases None None e g = sym (outer-is a e) ∙ same ∙ outer-is b g

  pub outer-dos : (a b : Word) → In a (outer_names tree) → In b dos_names → outer_now new a ≡ b → a ≡ b
  outer-dos a b is also same = cases (new a) refl where
    cases : (o : Option Word) → new a ≡ o → a ≡ b
    cases None e = sym (outer-is a e) ∙ same
    cases (Some now) e = absurd (not-in dos_names now (new-outer a now is e).dos (subst (λ w. In w dos_names) (sym same ∙ outer-is a e) also))

  -- Names of a function's own variables.

  own-after : (f w now : Word) → new (in_file (Some f) w) ≡ Some now → name_after new (own f w) ≡ now
  own-after f w now e = ap (λ o. now_or o w) e

  own-kept : (f w : Word) → new (in_file (Some f) w) ≡ None → name_after new (own f w) ≡ w
  own-kept f w e = ap (λ o. now_or o w) e

  twice-own : (f a b now : Word) → In (own f a) (owns tree) → In (own f b) (owns tree) → new (in_file (Some f) a) ≡ Some now → now ≡ name_after new (own f b) → a ≡ b
  twice-own f a b now is also e same = one-word a b (λ other.
      let two = stands-twice (thing_after new) (owns tree) (own f a) (own f b) (in_file (Some f) now) is also (λ g. other (ap (λ (o : Own). o.name) g))
      (ap (in_file (Some f)) (own-after f a now e)) (ap (in_file (Some f)) (sym same)) in
      let shared = (or_parts (is_among (outer_after new tree) now) (stands_twice (map (thing_after new) (owns tree)) (in_file (Some f) now)) (new-own f a now is e).shared).1 in
      let both : true ≡ false = sym two ∙ shared in absurd cc)

  pub own-own : (f a b : Word) → In (own f a) (owns tree) → In (own f b) (owns tree) → name_after new (own f a) ≡ name_after new (own f b) → a ≡ b
  own-own f a b is also same = cases (new (in_file (Some f) a)) (new (in_file (Some f) b)) refl refl where
    cases : (o p : Option Word) → new (in_file (Some f) a) ≡ o → new (in_file (Some f) b) ≡ p → a ≡ b
    cases (Some now) p e g = twice-own f a b now is also e (sym (own-after f a now e) ∙ same)
    cases None (Some now) e g = sym (twice-own f b a now also is g (sym (own-after f b now g) ∙ sym same))
    cases None None e g = sym (own-kept f a e) ∙ same ∙ own-kept f b g

  pub own-outer : (f a b : Word) → In (own f a) (owns tree) → In b (outer_names tree) → name_after new (own f a) ≡ outer_now new b → a ≡ b
  own-outer f a b is also same = cases (new (in_file (Some f) a)) (new b) refl refl where
    cases : (o p : Option Word) → new (in_file (Some f) a) ≡ o → new b ≡ p → a ≡ b
    cases (Some now) p e g =
        let shared = (or_parts (is_among (outer_after new tree) now) (stands_twice (map (thing_after new) (owns tree)) (in_file (Some f) now)) (new-own f a now is e).shared).0 in
        absurd (not-in (outer_after new tree) now shared (subst (λ w. In w (outer_after new tree)) (sym same ∙ own-after f a now e) (map-in (outer_now new) (outer_names tree) b also)))
    cases None (Some now) e g =
        let shared = (or_parts (stands_twice (outer_after new tree) now) (is_among (map (name_after new) (owns tree)) now) (new-outer b now also g).shared).1 in
        absurd (not-in (map (name_after new) (owns tree)) now shared (subst (λ w. In w (map (name_after new) (owns tree))) (same ∙ outer-is b g) (map-in (name_after new) (owns tree) (own f a) is)))
    cases None None e g = sym (own-kept f a e) ∙ same ∙ outer-is b g

  pub own-dos : (f a b : Word) → In (own f a) (owns tree) → In b dos_names → name_after new (own f a) ≡ b → a ≡ b
  own-dos f a b is also same = cases (new (in_file (Some f) a)) refl where
    cases : (o : Option Word) → new (in_file (Some f) a) ≡ o → a ≡ b
    cases None e = sym (own-kept f a e) ∙ same
    cases (Some now) e = absurd (not-in dos_names now (new-own f a now is e).dos (subst (λ w. In w dos_names) (sym same ∙ own-after f a now e) also))

  -- All these are words, and `start` stays.

  pub outer-plain : (w : Word) → In w (outer_names tree) → is_plain (outer_now new w) ≡ true
  outer-plain w is = cases (new w) refl where
    cases : (o : Option Word) → new w ≡ o → is_plain (outer_now new w) ≡ true
    cases None e = ap is_plain (outer-is w e) ∙ named.outer w is
    cases (Some now) e = ap is_plain (outer-is w e) ∙ (new-outer w now is e).plain

  pub own-plain : (f w : Word) → In (own f w) (owns tree) → is_plain (name_after new (own f w)) ≡ true
  own-plain f w is = cases (new (in_file (Some f) w)) refl where
    cases : (o : Option Word) → new (in_file (Some f) w) ≡ o → is_plain (name_after new (own f w)) ≡ true
    cases None e = ap is_plain (own-kept f w e) ∙ named.name (own f w) is
    cases (Some now) e = ap is_plain (own-after f w now e) ∙ (new-own f w now is e).plain

  pub dos-plain_after : (w : Word) → In w dos_names → is_plain (outer_now new w) ≡ true
  dos-plain_after w is = ap is_plain (dos-name w is) ∙ dos-plain w is

  pub start-stays : outer_now new (codes "start") ≡ codes "start"
  start-stays = outer-is (codes "start") (none-unless (codes "start") (new (codes "start")) refl (λ now e. (new-outer (codes "start") now named.start e).start refl))
