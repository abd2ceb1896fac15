-- Lists of locations that have just those that stand for some places.
use Rattle.std.proofs.Common.{◌≡◌, Bool, true, false, if◌then◌else◌, ◌⊎◌, inl, inr, List, [], ◌∷◌, ◌++◌, refl, sym, subst, true≢false}
use Rattle.std.specs.Prelude.{Contains}
use Rattle.std.proofs.lemmas.List.Elements.{Contains-append_left, Contains-append_right, Contains-append_cases}
use Rattle.dcc_ir.specs.declared.syntax.Loc.{Loc}
use Rattle.dcc_ir.proofs.LocationLaws.{Contains-here, Contains-none}
use Rattle.dcc_machine_demand.specs.Holders.{Holder}
use Rattle.dcc_lifted_demand.proofs.ListLaws.{only}

-- which locations are which places
module _ (Same : Holder → Loc → Type 0) where
  -- the list has just the locations of these places
  pub record Shows (P : Holder → Type 0) (locations : List Loc) : Type 0 where
    pub has : (L : Holder) (l : Loc) → Same L l → P L → Contains locations l
    pub comes : (l : Loc) → Contains locations l → (L : Holder) × Same L l × P L

  pub shows_none : Shows (λ L. ⊥) []
  shows_none = record { has = λ L l s p. absurd p; comes = λ l c. absurd (Contains-none l c) }

  pub shows_never : (P : Holder → Type 0) → ((L : Holder) → P L → ⊥) → Shows P []
  shows_never P never = record { has = λ L l s p. absurd (never L p); comes = λ l c. absurd (Contains-none l c) }

  pub shows_one : ((L : Holder) (l m : Loc) → Same L l → Same L m → l ≡ m) → (A : Holder) (a : Loc) → Same A a → Shows (λ L. L ≡ A) (a ∷ [])
  shows_one once A a t = record {
    has = λ L l s p.
        let same : l ≡ a = once A l a (subst (λ M. Same M l) p s) t in
        subst (λ m. Contains (a ∷ []) m) (sym same) (Contains-here a []);
    comes = λ l c. (A, subst (λ m. Same A m) (only a l c) t, refl);
  }

  pub shows_both : (P Q : Holder → Type 0) (xs ys : List Loc) → Shows P xs → Shows Q ys → Shows (λ L. P L ⊎ Q L) (xs ++ ys)
  shows_both P Q xs ys x y = record {
    has = λ L l s p. elim p [
      | inl a ↦ Contains-append_left xs ys l (x.has L l s a)
      | inr b ↦ Contains-append_right xs ys l (y.has L l s b)
    ];
    comes = λ l c. elim (Contains-append_cases xs ys l c) [
      | inl a ↦ let found = x.comes l a in (found.0, found.1, inl found.2)
      | inr b ↦ let found = y.comes l b in (found.0, found.1, inr found.2)
    ];
  }

  pub shows_if : (b : Bool) (P : Holder → Type 0) (xs : List Loc) → Shows P xs → Shows (λ L. (b ≡ true) × P L) (if b then xs else [])
  shows_if true P xs x = record { has = λ L l s p. x.has L l s p.1; comes = λ l c. let found = x.comes l c in (found.0, found.1, (refl, found.2)) }
  shows_if false P xs x = record { has = λ L l s p. absurd (true≢false (sym p.0)); comes = λ l c. absurd (Contains-none l c) }

  -- of the same places the same locations
  pub shows_alike : (P Q : Holder → Type 0) (xs ys : List Loc) → Shows P xs → ((L : Holder) (l : Loc) → Same L l → P L → Q L) → ((L : Holder) (l : Loc) → Same L l → Q L → P L)
      → ((l : Loc) → Contains xs l → Contains ys l) → ((l : Loc) → Contains ys l → Contains xs l) → Shows Q ys
  shows_alike P Q xs ys x to from grow shrink = record {
    has = λ L l s q. grow l (x.has L l s (from L l s q));
    comes = λ l c. let found = x.comes l (shrink l c) in (found.0, found.1, to found.0 l found.1 found.2);
  }
