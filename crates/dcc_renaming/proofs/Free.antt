-- What it says of changes that none is at fault.
use Rattle.std.proofs.Common.{◌≡◌, ℕ, Bool, true, false, List, [], ◌∷◌, ◌++◌, Option, Some, None, refl, sym, ap, ap₂, ◌∙◌, subst, inl, inr}
use Rattle.std.specs.Prelude.{◌&&◌, not, if◌then◌else◌, codes}
use Rattle.std.specs.List.{list_all}
use Rattle.std.proofs.lemmas.Bool.{and_parts, and_from, or_parts, cases_Bool, cond-true, cond-false}
use Rattle.dcc_c.specs.Dos.{dos_names}
use Rattle.dcc_c.specs.Grammar.{is_among, keywords, is_name}
use Rattle.dcc_c.specs.Token.{same_bytes, is_word, is_word_byte, is_letter}
use Rattle.dcc_c.specs.Tree.{Word, Tree}
use Rattle.dcc_c.proofs.NameLaws.{same_bytes-equal, same_bytes-refl}
use Rattle.dcc_renaming.specs.declared.fault.NameFault.{NameFault}
use Rattle.dcc_renaming.specs.declared.fault.NameKind.{NameKind}
use Rattle.dcc_renaming.specs.declared.fault.NameKind.TheVariants.{Unknown, Twice, Clash}
use Rattle.dcc_renaming.specs.Changes.{Change, in_file, thing_of, is_word_if, is_formed}
use Rattle.dcc_renaming.specs.Faults.{things, clashes, is_shared, kind_at, fault_or, first_fault}
use Rattle.dcc_renaming.specs.Renamed.{changed}
use Rattle.dcc_renaming.proofs.Members.{is_plain, no-dot, dot-split}

-- a word has no `.`
letter-byte : (b : ℕ) → is_letter b ≡ true → is_word_byte b ≡ true
letter-byte b is = rw is refl

pub word-plain : (w : Word) → is_word w ≡ true → is_plain w ≡ true
word-plain [] is = absurd cc
word-plain (b ∷ bs) is =
    let (first, others) = and_parts (is_letter b) _ is in
    and_from (is_word_byte b) (is_plain bs) (letter-byte b first) (and_parts (is_plain bs) _ others).0

module _ (new : Word → Option Word) (tree : Tree) where
  -- The change that gives the thing its new name is not at fault.
  pub record IsFree (thing now : Word) : Type 0 where
    pub change : Change
    pub is : thing_of change ≡ thing
    pub gives : change.now ≡ now
    pub formed : is_formed change ≡ true
    pub declared : is_among (things tree) thing ≡ true
    pub clear : clashes new tree change ≡ false

  kind-none : (declared earlier clash : Bool) →
      (if not declared then Some Unknown else if earlier then Some Twice else if clash then Some Clash else None) ≡ None → (declared ≡ true) × (clash ≡ false)
  kind-none false earlier clash e = absurd cc
  kind-none true true clash e = absurd cc
  kind-none true false true e = absurd cc
  kind-none true false false e = (refl, refl)

  fault-none : (line : ℕ) (kind : Option NameKind) (following : Option NameFault) → fault_or line kind following ≡ None → (kind ≡ None) × (following ≡ None)
  fault-none line (Some kind) following e = absurd cc
  fault-none line None following e = (refl, e)

  some-same : {a b : Word} → Some a ≡ Some b → a ≡ b
  some-same e = cc

  pub changes-free : (changes : List Change) (earlier : List Word) → list_all is_formed changes ≡ true → first_fault new tree earlier changes ≡ None →
      (thing now : Word) → changed changes thing ≡ Some now → IsFree thing now
  changes-free [] earlier formed none thing now is = absurd cc
  changes-free (c ∷ cs) earlier formed none thing now is =
      let first = fault-none c.line (kind_at new tree earlier c) (first_fault new tree (thing_of c ∷ earlier) cs) none in
      let kind = kind-none (is_among (things tree) (thing_of c)) (is_among earlier (thing_of c)) (clashes new tree c) first.0 in
      let forms = and_parts (is_formed c) (list_all is_formed cs) formed in
      elim (cases_Bool (same_bytes (thing_of c) thing)) [
        | inl met ↦ record {
          change = c;
          is = same_bytes-equal (thing_of c) thing met;
          gives = some-same (sym (cond-true _ _ _ met) ∙ is);
          formed = forms.0;
          declared = subst (λ t. is_among (things tree) t ≡ true) (same_bytes-equal (thing_of c) thing met) kind.0;
          clear = kind.1;
        }
        | inr unmet ↦ changes-free cs (thing_of c ∷ earlier) forms.1 first.1 thing now (sym (cond-false _ _ _ unmet) ∙ is)
      ]

  -- What a change without fault says of the name of a global variable or a function, and of one of a function's own.
  pub record IsNew (func : Option Word) (was now : Word) : Type 0 where
    pub plain : is_plain now ≡ true
    pub start : was ≡ codes "start" → ⊥
    pub word : is_word now ≡ true
    pub keyword : is_among keywords now ≡ false
    pub dos : is_among dos_names now ≡ false
    pub shared : is_shared new tree func now ≡ false

  change-new : (c : Change) → is_formed c ≡ true → clashes new tree c ≡ false → IsNew c.func c.was c.now
  change-new c formed clear =
      let one = or_parts (same_bytes (codes "start") c.was) _ clear in
      let two = or_parts (is_among keywords c.now) _ one.1 in
      let three = or_parts (is_among dos_names c.now) (is_shared new tree c.func c.now) two.1 in
      let words = and_parts (is_word c.was) (is_word c.now) (and_parts (is_word_if c.func) _ formed).1 in
      record {
        plain = word-plain c.now words.1;
        start = λ e. let met : same_bytes (codes "start") c.was ≡ true = subst (λ w. same_bytes (codes "start") w ≡ true) (sym e) (same_bytes-refl (codes "start")) in
            let both : true ≡ false = sym met ∙ one.0 in absurd cc;
        word = words.1;
        keyword = two.0;
        dos = three.0;
        shared = three.1;
      }

  func-none : (func : Option Word) (was w : Word) → in_file func was ≡ w → is_plain w ≡ true → func ≡ None
  func-none None was w is plain = refl
  func-none (Some f) was w is plain = absurd (no-dot f was (subst (λ l. is_plain l ≡ true) (sym is) plain))

  pub outer-new : (w now : Word) → is_plain w ≡ true → IsFree w now → IsNew None w now
  outer-new w now plain free =
      let c = free.change in
      let none = func-none c.func c.was w free.is plain in
      let was : c.was ≡ w = sym (ap (λ f. in_file f c.was) none) ∙ free.is in
      subst (λ n. IsNew None w n) free.gives (subst (λ x. IsNew None x c.now) was (subst (λ f. IsNew f c.was c.now) none (change-new c free.formed free.clear)))

  own-parts : (func : Option Word) (was f x : Word) → is_plain was ≡ true → is_word_if func ≡ true → is_plain f ≡ true → is_plain x ≡ true →
      in_file func was ≡ f ++ (46 ∷ x) → (func ≡ Some f) × (was ≡ x)
  own-parts None was f x plain words pf px is = absurd (no-dot f x (subst (λ l. is_plain l ≡ true) is plain))
  own-parts (Some g) was f x plain words pf px is =
      let s = dot-split f g x was pf px (sym is) in (ap Some (sym s.front), sym s.back)

  pub own-new : (f x now : Word) → is_plain f ≡ true → is_plain x ≡ true → IsFree (in_file (Some f) x) now → IsNew (Some f) x now
  own-new f x now pf px free =
      let c = free.change in
      let words = and_parts (is_word_if c.func) (is_word c.was && is_word c.now) free.formed in
      let plain = word-plain c.was (and_parts (is_word c.was) (is_word c.now) words.1).0 in
      let parts = own-parts c.func c.was f x plain words.0 pf px free.is in
      subst (λ n. IsNew (Some f) x n) free.gives (subst (λ w. IsNew (Some f) w c.now) parts.1 (subst (λ g. IsNew g c.was c.now) parts.0 (change-new c free.formed free.clear)))

  -- the new name is one
  pub now-name : (thing now : Word) → IsFree thing now → is_name now ≡ true
  now-name thing now free =
      let n = change-new free.change free.formed free.clear in
      ap is_name (sym free.gives) ∙ ap₂ (λ a b. a && not b) n.word n.keyword
