-- What holds after a location's variable has taken a value.
use Rattle.std.proofs.Common.{◌≡◌, ℕ, ◌%◌, ◌^◌, inl, inr, Bool, true, false, List, [], ◌∷◌, ◌++◌, map, Some, refl, sym, ap, ◌∙◌, subst, true≢false}
use Rattle.std.specs.Prelude.{if◌then◌else◌, is_some, Option}
use Rattle.std.proofs.lemmas.Bool.{cases_Bool}
use Rattle.std.proofs.lemmas.Nat.{mod_below, pow_pos}
use Rattle.std.proofs.lemmas.List.Elements.{All-weaker}
use Rattle.dcc_ir.specs.declared.syntax.Loc.{Loc}
use Rattle.dcc_ir.specs.Location.{location_width, same_location, Values, with_value}
use Rattle.dcc_ir.specs.Tree as inner
use Rattle.dcc_ir.specs.Use.{reads_of, addresses_of, parts_of, got_by, addressed_by}
use Rattle.dcc_ir.specs.Run as inner_run
use Rattle.dcc_ir.proofs.ListLaws.{all_parts}
use Rattle.dcc_ir.proofs.LocationLaws.{location_same, location_itself}
use Rattle.dcc_c.specs.declared.syntax.CType.{CType}
use Rattle.dcc_c.specs.Token.{same_bytes}
use Rattle.dcc_c.specs.Types.{bits_of, extended_bits, number_of_type}
use Rattle.dcc_c.specs.Tree.{Word, Expr, Assign, Tree}
use Rattle.dcc_c.specs.Value.{Value, value, converted, Gives, and_then, given, Unplaced, Binding, variable_in, after_assignment, ToVariable, variable_target, target_of}
use Rattle.dcc_c.specs.Run as text_run
use Rattle.dcc_c.proofs.NameLaws.{same_bytes-equal}
use Rattle.dcc_text.specs.Spelling.{Spelling}
use Rattle.dcc_text.specs.Meaning.{IsVariable, IsHeld, IsPlaced}
use Rattle.dcc_text.specs.Stmts.{place_of}
use Rattle.dcc_text.specs.Holding.{IsSpelling, Holds, IsWithin}
use Rattle.dcc_text.proofs.Readings.{IsValue}
use Rattle.dcc_text.proofs.Texts.{Shown}

-- Variables by their names.

-- a variable stays among more
pub in-more : (xs ys : List Binding) (name : Word) (b : Binding) → variable_in xs name ≡ Some b → variable_in (xs ++ ys) name ≡ Some b
in-more [] ys name b is = absurd cc
in-more (x ∷ xs) ys name b is = by (same_bytes x.name name) (in-more xs ys name b) is
  where
    by : (here : Bool) → (variable_in xs name ≡ Some b → variable_in (xs ++ ys) name ≡ Some b) → (if here then Some x else variable_in xs name) ≡ Some b
        → (if here then Some x else variable_in (xs ++ ys) name) ≡ Some b
    by true rest e = e
    by false rest e = rest e

some-equal : {A : Type 0} {a b : A} → Some a ≡ Some b → a ≡ b
some-equal e = cc

-- the variable that takes a value
abbrev taking_of : Value → Binding → Option Binding
taking_of v b = Some (record b { storage = Unplaced (converted b.type v).bits })

assigned-here : (xs : List Binding) (name : Word) (b : Binding) (v : Value) → variable_in xs name ≡ Some b
    → variable_in (after_assignment xs name v) name ≡ Some (record b { storage = Unplaced (converted b.type v).bits })
assigned-here [] name b v is = absurd cc
assigned-here (x ∷ xs) name b v is = elim (cases_Bool (same_bytes x.name name)) [
  | inl here ↦
      (let same : x ≡ b = some-equal (sym (ap (λ c. if c then Some x else variable_in xs name) here) ∙ is) in
      ap (λ c. variable_in (if c then record x { storage = Unplaced (converted x.type v).bits } ∷ xs else x ∷ after_assignment xs name v) name) here
      ∙ ap (λ c. if c then Some (record x { storage = Unplaced (converted x.type v).bits }) else variable_in xs name) here
      ∙ ap (taking_of v) same)
  | inr apart ↦
      ap (λ c. variable_in (if c then record x { storage = Unplaced (converted x.type v).bits } ∷ xs else x ∷ after_assignment xs name v) name) apart
      ∙ ap (λ c. if c then Some x else variable_in (after_assignment xs name v) name) apart
      ∙ assigned-here xs name b v (sym (ap (λ c. if c then Some x else variable_in xs name) apart) ∙ is)
]

-- an assignment to a variable leaves the others as they are
assigned-other : (xs : List Binding) (name other : Word) (v : Value) → same_bytes name other ≡ false → variable_in (after_assignment xs name v) other ≡ variable_in xs other
assigned-other [] name other v apart = refl
assigned-other (x ∷ xs) name other v apart = elim (cases_Bool (same_bytes x.name name)) [
  | inl here ↦
      (let no : same_bytes x.name other ≡ false = ap (λ n. same_bytes n other) (same_bytes-equal x.name name here) ∙ apart in
      ap (λ c. variable_in (if c then record x { storage = Unplaced (converted x.type v).bits } ∷ xs else x ∷ after_assignment xs name v) other) here
      ∙ ap (λ c. if c then Some (record x { storage = Unplaced (converted x.type v).bits }) else variable_in xs other) no
      ∙ sym (ap (λ c. if c then Some x else variable_in xs other) no))
  | inr there ↦
      ap (λ c. variable_in (if c then record x { storage = Unplaced (converted x.type v).bits } ∷ xs else x ∷ after_assignment xs name v) other) there
      ∙ ap (λ r. if same_bytes x.name other then Some x else r) (assigned-other xs name other v apart)
]

-- What is held among the variables of a call is held among all.

abbrev variable-more : (s : Spelling) (xs ys : List Binding) (location : Loc) → IsVariable s xs location → IsVariable s (xs ++ ys) location
variable-more s xs ys location x = record { typed = x.typed; bits = x.bits; found = in-more xs ys (s.name location) _ x.found; room = x.room }

held-more : (s : Spelling) (values : Values) (xs ys : List Binding) (location : Loc) → IsHeld s values xs location → IsHeld s values (xs ++ ys) location
held-more s values xs ys location x = record { variable = variable-more s xs ys location x.variable; low = x.low; settled = x.settled }

placed-more : (s : Spelling) (base : ℕ) (xs ys : List Binding) (distance : ℕ) → IsPlaced s base xs distance → IsPlaced s base (xs ++ ys) distance
placed-more s base xs ys distance x = record {
  placed = x.placed;
  given = x.given;
  type = x.type;
  at = x.at;
  found = in-more xs ys x.placed.name _ x.found;
  small = x.small;
  there = x.there;
}

module _ (s : Spelling) (tree : Tree) (Before : Loc → Type 0) (AreAlike : List inner_run.Waiting → List text_run.Waiting → Type 0)
    (i : inner_run.State) (t : text_run.State) (h : Holds s Before AreAlike i t) where
  -- the text has what an expression within reads
  pub shown-within : (e : inner.Expr) → IsWithin s Before e → Shown s (text_run.scope_of tree t) i.running.values i.running.base i.memory (parts_of e)
  shown-within e within = record {
    reads = all_parts (IsHeld s i.running.values (text_run.scope_of tree t).variables) got_by (parts_of e)
        (All-weaker Before (IsHeld s i.running.values (text_run.scope_of tree t).variables)
        (λ l has. held-more s i.running.values t.frame.variables (map text_run.global_binding tree.globals) l (h.frame.values l has)) (reads_of e) within.reads);
    addresses = all_parts (IsPlaced s i.running.base (text_run.scope_of tree t).variables) addressed_by (parts_of e)
        (All-weaker (λ d. is_some (s.place d) ≡ true) (IsPlaced s i.running.base (text_run.scope_of tree t).variables)
        (λ d some. placed-more s i.running.base t.frame.variables (map text_run.global_binding tree.globals) d (h.frame.places d some)) (addresses_of e) within.addresses);
  }

  -- A named location takes a number.
  module _ (spelling : IsSpelling s) (After : Loc → Type 0) (location : Loc) (named : s.named location ≡ true) (left : (l : Loc) → After l → same_location l location ≡ false → Before l)
      (before : (l : Loc) → Before l → s.named l ≡ true) (v : Value) (n : ℕ)
      (low : (converted (s.type location) v).bits % 2 ^ location_width s.bits location ≡ n) (settled : s.settled location ≡ true → (converted (s.type location) v).bits ≡ n) where
    abbrev after_it : List Binding
    after_it = after_assignment t.frame.variables (s.name location) v

    old : IsVariable s t.frame.variables location
    old = h.frame.variables location named

    -- the variable of the location that takes a number
    abbrev new-variable : IsVariable s after_it location
    new-variable = record {
      typed = old.typed;
      bits = (converted (s.type location) v).bits;
      found = assigned-here t.frame.variables (s.name location) _ v old.found;
      room = mod_below (extended_bits (number_of_type v.type) v.bits) (2 ^ bits_of (number_of_type (s.type location))) (pow_pos (bits_of (number_of_type (s.type location))));
    }

    -- another one's
    name-apart : (l : Loc) → s.named l ≡ true → same_location l location ≡ false → same_bytes (s.name location) (s.name l) ≡ false
    name-apart l is apart = elim (cases_Bool (same_bytes (s.name location) (s.name l))) [
      | inl same ↦ absurd (true≢false (sym (location_itself location) ∙ (ap (λ k. same_location k location) (location_same location l (spelling.apart location l named is same)) ∙ apart)))
      | inr other ↦ other
    ]

    abbrev other-variable : (l : Loc) → same_bytes (s.name location) (s.name l) ≡ false → IsVariable s t.frame.variables l → IsVariable s after_it l
    other-variable l apart x = record { typed = x.typed; bits = x.bits; found = assigned-other t.frame.variables (s.name location) (s.name l) v apart ∙ x.found; room = x.room }

    variables-after : (l : Loc) → s.named l ≡ true → IsVariable s after_it l
    variables-after l is = elim (cases_Bool (same_location l location)) [
      | inl same ↦ subst (IsVariable s after_it) (sym (location_same l location same)) new-variable
      | inr apart ↦ other-variable l (name-apart l is apart) (h.frame.variables l is)
    ]

    new-held : IsHeld s (with_value i.running.values location n) after_it location
    new-held = record {
      variable = new-variable;
      low = low ∙ sym (ap (λ c. if c then n else i.running.values location) (location_itself location));
      settled = λ is. settled is ∙ sym (ap (λ c. if c then n else i.running.values location) (location_itself location));
    }

    other-held : (l : Loc) → same_location l location ≡ false → same_bytes (s.name location) (s.name l) ≡ false → IsHeld s i.running.values t.frame.variables l
        → IsHeld s (with_value i.running.values location n) after_it l
    other-held l apart names x = record {
      variable = other-variable l names x.variable;
      low = x.low ∙ sym (ap (λ c. if c then n else i.running.values l) apart);
      settled = λ is. x.settled is ∙ sym (ap (λ c. if c then n else i.running.values l) apart);
    }

    values-after : (l : Loc) → After l → IsHeld s (with_value i.running.values location n) after_it l
    values-after l has = elim (cases_Bool (same_location l location)) [
      | inl same ↦ subst (IsHeld s (with_value i.running.values location n) after_it) (sym (location_same l location same)) new-held
      | inr apart ↦ (let was = left l has apart in other-held l apart (name-apart l (before l was) apart) (h.frame.values l was))
    ]

    places-after : (distance : ℕ) → is_some (s.place distance) ≡ true → IsPlaced s i.running.base after_it distance
    places-after distance some =
        let x = h.frame.places distance some in record {
          placed = x.placed;
          given = x.given;
          type = x.type;
          at = x.at;
          found = assigned-other t.frame.variables (s.name location) x.placed.name v (spelling.placed_apart location distance x.placed named x.given) ∙ x.found;
          small = x.small;
          there = x.there;
        }

    pub held-after : Holds s After AreAlike (inner_run.setting location n i) (text_run.takes (ToVariable (s.name location)) v t)
    held-after = record {
      frame = record { bits = h.frame.bits; base = h.frame.base; variables = variables-after; values = values-after; places = places-after };
      waiting = h.waiting;
      memory = h.memory;
      input = h.input;
      events = h.events;
      end = h.end;
    }

  -- the variable of a named location is a target
  pub target-is : (location : Loc) → s.named location ≡ true → target_of (text_run.scope_of tree t) (place_of s location) ≡ Gives (ToVariable (s.name location))
  target-is location named =
      ap (λ b. and_then (variable_target (s.name location)) (given b)) (variable-more s t.frame.variables (map text_run.global_binding tree.globals) location (h.frame.variables location named)).found

  -- an assignment to it
  pub assign-is : (location : Loc) → s.named location ≡ true → (e : Expr) (type : CType) (k at : ℕ) → IsValue (text_run.scope_of tree t) type k e
      → text_run.stmt_step tree (Assign (place_of s location) e) at t ≡ text_run.takes (ToVariable (s.name location)) (value type k) t
  assign-is location named e type k at x =
      ap (λ o. text_run.on o at t (λ v. text_run.on (target_of (text_run.scope_of tree t) (place_of s location)) at t (λ target. text_run.takes target v t))) x.valued
      ∙ ap (λ o. text_run.on o at t (λ target. text_run.takes target (value type k) t)) (target-is location named)
