-- What is held by names stays so along the statements of two graphs of which the second has names for locations.
use Rattle.std.proofs.Common.{◌≡◌, ℕ, Bool, true, false, List, [], ◌∷◌, ◌++◌, refl, sym, ap, ap₂, ◌∙◌, subst, true≢false, map}
use Rattle.std.specs.Prelude.{if◌then◌else◌}
use Rattle.std.proofs.lemmas.List.{append_assoc, append_cancel_right}
use Rattle.dcc_ir.specs.declared.syntax.Loc.{Loc}
use Rattle.dcc_ir.specs.Tree.{Get, Stmt, Set}
use Rattle.dcc_ir.specs.Location.{location_width, same_location, Values, with_value}
use Rattle.dcc_ir.specs.Passes.{with_values, FitIn}
use Rattle.dcc_ir.proofs.LocationLaws.{location_same, location_itself}
use Rattle.dcc_copies.specs.Held.{Held, with_written, all_written, with_copied, held_after, held_after_all}

module _ (name : Loc → Loc) where
  -- where a location is held, its name has its value among the second values
  abbrev pub Same : Held → Values → Values → Type 0
  Same held v v' = (l : Loc) → held l ≡ true → v' (name l) ≡ v l

  -- one location is written
  pub written-same : (x : Loc) (n n' : ℕ) (held : Held) (v v' : Values) → n' ≡ n → Same held v v'
      → Same (with_written name x held) (with_value v x n) (with_value v' (name x) n')
  written-same x n n' held v v' equal same l has =
      go (same_location l x) refl (same_location (name l) (name x)) refl
    where
      go : (b : Bool) → same_location l x ≡ b → (c : Bool) → same_location (name l) (name x) ≡ c
          → (if c then n' else v' (name l)) ≡ (if b then n else v l)
      go true here true there = equal
      go true here false apart =
          absurd (true≢false (sym (subst (λ y. same_location (name l) (name y) ≡ true) (location_same l x here) (location_itself (name l)))
          ∙ apart))
      go false other true there =
          absurd (true≢false (sym (sym (ap₂ (λ b c. if b then true else (if c then false else held l)) other there) ∙ has)))
      go false other false apart =
          same l (sym (ap₂ (λ b c. if b then true else (if c then false else held l)) other apart) ∙ has)

  -- the results of a call are written
  pub given-same : (bits : List ℕ) (results : List Loc) (r : List ℕ) (held : Held) (v v' : Values)
      → FitIn (map (location_width bits) results) r → Same held v v'
      → Same (all_written name results held) (with_values v results r) (with_values v' (map name results) r)
  given-same bits [] [] held v v' fit same = same
  given-same bits [] (n ∷ r) held v v' fit same = absurd fit
  given-same bits (x ∷ results) [] held v v' fit same = absurd fit
  given-same bits (x ∷ results) (n ∷ r) held v v' fit same =
      given-same bits results r (with_written name x held) (with_value v x n) (with_value v' (name x) n) fit.1
      (written-same x n n held v v' refl same)

  -- a location was copied to one of its name
  pub copied-same : (to from : Loc) (held : Held) (v v' : Values) → same_location (name to) (name from) ≡ true
      → Same held v v' → Same (with_copied (Set to (Get from)) held) (with_value v to (v from)) v'
  copied-same to from held v v' own same l has = go (same_location l to) refl
    where
      go : (b : Bool) → same_location l to ≡ b → v' (name l) ≡ (if b then v from else v l)
      go true here =
          ap v' (ap name (location_same l to here) ∙ location_same (name to) (name from) own)
          ∙ same from (sym (ap (λ b. held (if b then from else l)) here) ∙ has)
      go false other = same l (sym (ap (λ b. held (if b then from else l)) other) ∙ has)

  -- what is held after statements and a further one
  pub held-next : (passed : List Stmt) (stmt : Stmt) (held : Held)
      → held_after_all name (passed ++ stmt ∷ []) held ≡ held_after name stmt (held_after_all name passed held)
  held-next [] stmt held = refl
  held-next (first ∷ passed) stmt held = held-next passed stmt (held_after name first held)

-- the statements before the rest, where they stand before the rest and a statement more
pub next-passed : (stmts passed passed' : List Stmt) (stmt : Stmt) (rest : List Stmt) → stmts ≡ passed ++ stmt ∷ rest
    → stmts ≡ passed' ++ rest → passed' ≡ passed ++ stmt ∷ []
next-passed stmts passed passed' stmt rest one other =
    append_cancel_right passed' (passed ++ stmt ∷ []) rest
    (sym other ∙ one ∙ sym (append_assoc passed (stmt ∷ []) rest))

-- none stand before all of them
pub none-passed : (stmts passed : List Stmt) → stmts ≡ passed ++ stmts → passed ≡ []
none-passed stmts passed is = append_cancel_right passed [] stmts (sym is)
