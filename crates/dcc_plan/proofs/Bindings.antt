-- The parameters of a call in the text: where they stand, what they hold, and the memory.
use Rattle.std.proofs.Common.{◌≡◌, ℕ, ◌+◌, ◌*◌, ◌/◌, ◌%◌, ◌^◌, ◌<◌, Bool, true, false, inl, inr, List, [], ◌∷◌, ◌++◌, length, Option, Some, None, refl, sym, ap, ◌∙◌, subst, true≢false, arith, mod-eq_of_lt}
use Rattle.std.specs.Prelude.{◌&&◌, ◌||◌, not, if◌then◌else◌, ◌==◌}
use Rattle.std.specs.List.{list_all}
use Rattle.std.proofs.lemmas.Bool.{and_parts, not-true}
use Rattle.dcc_ir.specs.declared.syntax.Loc.{Loc}
use Rattle.dcc_ir.specs.declared.syntax.Put.{Put}
use Rattle.dcc_ir.specs.declared.syntax.Put.TheVariants.{Memory, One, Two}
use Rattle.dcc_ir.specs.declared.syntax.Param.{Param}
use Rattle.dcc_ir.specs.Location.{location_width, Values}
use Rattle.dcc_ir.specs.WellFormed.{is_memory, put_width, is_param_list, memory_params_last}
use Rattle.dcc_ir.proofs.PathLaws.{decided}
use Rattle.dcc_c.proofs.NameLaws.{same_bytes-refl}
use Rattle.dcc_c.specs.declared.syntax.Base.TheVariants.{Uint}
use Rattle.dcc_c.specs.declared.syntax.Class.{Class}
use Rattle.dcc_c.specs.declared.syntax.Class.TheVariants.{Plain, Auto, Register}
use Rattle.dcc_c.specs.Memory.{store}
use Rattle.dcc_c.specs.Placement.{is_auto, is_register, takes_address, param_places}
use Rattle.dcc_c.specs.Run.{storage_of, variable_binding, param_bindings, with_arguments}
use Rattle.dcc_c.specs.Token.{same_bytes}
use Rattle.dcc_c.specs.Tree.{Word, Lines, Variable}
use Rattle.dcc_c.specs.Types.{bits_of, plain, size_of}
use Rattle.dcc_c.specs.Value.{Value, Unplaced, PlacedAt, Binding, variable_in}
use Rattle.dcc_text.specs.Spelled.{unsigned_type}
use Rattle.dcc_variables.specs.Functions.{parameter_name, is_taken_whole, place_from, parameter_class, parameter, parameters_from, memory_from}
use Rattle.dcc_plan.specs.Calls.{places, all_places, locations_differ}
use Rattle.dcc_variables.proofs.FramePlaces.{memory-is as memory-is-put}
use Rattle.dcc_variables.proofs.ParamNames.{places-apart, whole-is}
use Rattle.dcc_plan.proofs.Passings.{put_memory, memory_after, values_after, put_values, others-differ, whole-value, low-value, high-value, word-stored}

some-equal : {A : Type 0} {a b : A} → Some a ≡ Some b → a ≡ b
some-equal e = cc

-- Where parameters stand.

abbrev pub place_at : ℕ → ℕ → Put → Option ℕ
place_at base j put = if is_memory put then Some ((base + 2 * j) % 65536) else None

abbrev pub param_places_from : ℕ → ℕ → List Param → List (Option ℕ)
param_places_from base j [] = []
param_places_from base j (p ∷ params) = place_at base j p.put ∷ param_places_from base (j + 1) params

-- the body takes no address of a parameter that is not in memory
abbrev pub is_unplaced : Lines → Variable → Bool
is_unplaced body v = is_auto v.class || not (takes_address body v.name)

module _ (body : Lines) (base : ℕ) where
  -- what the placement says of a parameter of a class
  abbrev placed_as : Class → Bool → ℕ → Bool → List Variable → List (Option ℕ)
  placed_as class taken number placed params =
      if is_register class then None ∷ param_places body base number placed params
      else if placed || (is_auto class || taken) then Some ((base + 2 * number) % 65536) ∷ param_places body base (number + 1) true params
      else None ∷ param_places body base (number + 1) false params

  in-memory : (v : Variable) (params : List Variable) (number : ℕ) (placed : Bool) → v.class ≡ Auto
      → param_places body base number placed (v ∷ params) ≡ Some ((base + 2 * number) % 65536) ∷ param_places body base (number + 1) true params
  in-memory v params number placed is = ap (λ class. placed_as class (takes_address body v.name) number placed params) is ∙ by placed
    where
      by : (placed : Bool) → placed_as Auto (takes_address body v.name) number placed params ≡ Some ((base + 2 * number) % 65536) ∷ param_places body base (number + 1) true params
      by true = refl
      by false = refl

  by-itself : (v : Variable) (params : List Variable) (number : ℕ) → v.class ≡ Plain → is_unplaced body v ≡ true
      → param_places body base number false (v ∷ params) ≡ None ∷ param_places body base (number + 1) false params
  by-itself v params number is unplaced =
      ap (λ class. placed_as class (takes_address body v.name) number false params) is
      ∙ ap (λ taken. placed_as Plain taken number false params)
      (not-true (takes_address body v.name) (ap (λ class. is_auto class || not (takes_address body v.name)) (sym is) ∙ unplaced))

  no-argument : (v : Variable) (params : List Variable) (number : ℕ) (placed : Bool) → v.class ≡ Register
      → param_places body base number placed (v ∷ params) ≡ None ∷ param_places body base number placed params
  no-argument v params number placed is = ap (λ class. placed_as class (takes_address body v.name) number placed params) is

  module _ (bits : List ℕ) where
    -- the class of a parameter
    class-is : (p : Param) (stack memory : Bool) → p.stack ≡ stack → is_memory p.put ≡ memory → parameter_class p ≡ (if stack then (if memory then Auto else Plain) else Register)
    class-is p stack memory on in_it =
        ap (λ b. if b then (if is_memory p.put then Auto else Plain) else Register) on ∙ ap (λ b. if stack then (if b then Auto else Plain) else Register) in_it

    -- the place of the first param, before the places of the others
    place-first : (p : Param) (j : ℕ) (memory : Bool) (others : List (Option ℕ)) → is_memory p.put ≡ memory
        → (if memory then Some ((base + 2 * j) % 65536) else None) ∷ others ≡ place_at base j p.put ∷ others
    place-first p j memory others in_it = ap (λ b. (if b then Some ((base + 2 * j) % 65536) else None) ∷ others) (sym in_it)

    -- no param is in memory that is not on the stack
    off-memory : (p : Param) (others : Bool) → p.stack ≡ false → (if p.stack then put_width bits p.put == 16 else (not (is_memory p.put) && others)) ≡ true
        → (is_memory p.put ≡ false) × (others ≡ true)
    off-memory p others off is =
        let (first, rest) = and_parts (not (is_memory p.put)) others (sym (ap (λ b. if b then put_width bits p.put == 16 else (not (is_memory p.put) && others)) off) ∙ is) in
        (not-true (is_memory p.put) first, rest)

    -- params that are not on the stack have no place
    places-off : (params : List Param) (j number : ℕ) (placed : Bool) → list_all (λ q. not q.stack) params ≡ true → is_param_list bits params ≡ true
        → param_places body base number placed (parameters_from bits j params) ≡ param_places_from base j params
    places-off [] j number placed off formed = refl
    places-off (p ∷ params) j number placed off formed =
        let (here, rest) = and_parts (not p.stack) (list_all (λ q. not q.stack) params) off in
        let (first, others) = and_parts _ (is_param_list bits params) formed in
        let out = not-true p.stack here in
        let away = (off-memory p _ out first).0 in
        no-argument (parameter bits j p) (parameters_from bits (j + 1) params) number placed (class-is p false false out away)
        ∙ ap (λ ps. None ∷ ps) (places-off params (j + 1) number placed rest others)
        ∙ place-first p j false (param_places_from base (j + 1) params) away

    -- from a param in memory on, each param on the stack is there
    abbrev pub AllPlaced : Bool → List Param → Type 0
    AllPlaced placed params = placed ≡ true → list_all (λ q. not q.stack || is_memory q.put) params ≡ true

    pub places-are : (params : List Param) (j : ℕ) (placed : Bool) → is_param_list bits params ≡ true → memory_params_last params ≡ true → AllPlaced placed params
        → list_all (is_unplaced body) (parameters_from bits j params) ≡ true → param_places body base j placed (parameters_from bits j params) ≡ param_places_from base j params
    places-are [] j placed formed last all unplaced = refl
    places-are (p ∷ params) j placed formed last all unplaced =
        let (first, others) = and_parts _ (is_param_list bits params) formed in
        let (mine, later) = and_parts (not (is_memory p.put) || list_all (λ q. not q.stack || is_memory q.put) params) (memory_params_last params) last in
        let (here, rest) = and_parts (is_unplaced body (parameter bits j p)) (list_all (is_unplaced body) (parameters_from bits (j + 1) params)) unplaced in
        let more = param_places_from base (j + 1) params in
        elim (decided p.stack) [
          | inr off ↦
              (let (away, none) = off-memory p _ off first in
              no-argument (parameter bits j p) (parameters_from bits (j + 1) params) j placed (class-is p false false off away)
              ∙ ap (λ ps. None ∷ ps) (places-off params (j + 1) j placed none others) ∙ place-first p j false more away)
          | inl on ↦ elim (decided (is_memory p.put)) [
            | inl in_it ↦
                in-memory (parameter bits j p) (parameters_from bits (j + 1) params) j placed (class-is p true true on in_it)
                ∙ ap (λ ps. Some ((base + 2 * j) % 65536) ∷ ps)
                (places-are params (j + 1) true others later (λ e. sym (ap (λ b. not b || list_all (λ (q : Param). not q.stack || is_memory q.put) params) in_it) ∙ mine) rest)
                ∙ place-first p j true more in_it
            | inr away ↦
                (let free : placed ≡ false = not-placed p params placed on away all in
                ap (λ b. param_places body base j b (parameters_from bits j (p ∷ params))) free
                ∙ by-itself (parameter bits j p) (parameters_from bits (j + 1) params) j (class-is p true false on away) here
                ∙ ap (λ ps. None ∷ ps) (places-are params (j + 1) false others later (λ e. absurd (true≢false (sym e))) rest)
                ∙ place-first p j false more away)
          ]
        ]
      where
        not-placed : (p : Param) (params : List Param) (placed : Bool) → p.stack ≡ true → is_memory p.put ≡ false
            → (placed ≡ true → list_all (λ q. not q.stack || is_memory q.put) (p ∷ params) ≡ true) → placed ≡ false
        not-placed p params false on away all = refl
        not-placed p params true on away all =
            let mine = (and_parts (not p.stack || is_memory p.put) _ (all refl)).0 in
            absurd (true≢false (sym mine ∙ ap (λ b. not b || is_memory p.put) on ∙ away))

-- What arguments hold.

-- the value of an argument, where the run of the program has a number
pub record IsArgument (bits : List ℕ) (put : Put) (v : Value) (n : ℕ) : Type 0 where
  pub typed : v.type ≡ plain (unsigned_type (put_width bits put))
  pub low : v.bits % 2 ^ put_width bits put ≡ n
  pub room : v.bits < 2 ^ bits_of (unsigned_type (put_width bits put))

abbrev pub AreArguments : List ℕ → List Param → List Value → List ℕ → Type 0
AreArguments bits [] [] [] = Unit {0}
AreArguments bits (p ∷ params) (v ∷ vs) (n ∷ ns) = IsArgument bits p.put v n × AreArguments bits params vs ns
AreArguments bits _ _ _ = ⊥

-- Memory.

pub memory-is : (bits : List ℕ) (base j : ℕ) (params : List Param) (vs : List Value) (ns memory : List ℕ) → AreArguments bits params vs ns
    → with_arguments (param_places_from base j params) vs memory ≡ memory_after base j params ns memory
memory-is bits base j [] [] [] memory are = refl
memory-is bits base j [] [] (n ∷ ns) memory are = absurd are
memory-is bits base j [] (v ∷ vs) ns memory are = absurd are
memory-is bits base j (p ∷ params) [] ns memory are = absurd are
memory-is bits base j (p ∷ params) (v ∷ vs) [] memory are = absurd are
memory-is bits base j (p ∷ params) (v ∷ vs) (n ∷ ns) memory are =
    first p.put are.0 ∙ memory-is bits base (j + 1) params vs ns (put_memory base j p.put n memory) are.1
  where
    first : (put : Put) → IsArgument bits put v n
        → with_arguments (place_at base j put ∷ param_places_from base (j + 1) params) (v ∷ vs) memory ≡ with_arguments (param_places_from base (j + 1) params) vs (put_memory base j put n memory)
    first Memory is =
        let exactly : v.bits ≡ n = sym (mod-eq_of_lt is.room) ∙ is.low in
        ap (λ m. with_arguments (param_places_from base (j + 1) params) vs m)
        (ap (λ type. store (size_of type) memory ((base + 2 * j) % 65536) v.bits) is.typed
        ∙ ap (λ k. store 2 memory ((base + 2 * j) % 65536) k) exactly ∙ word-stored memory (base + 2 * j) n)
    first (One location) is = refl
    first (Two low high) is = refl

-- Variables.

abbrev pub bound_parameter : List ℕ → ℕ → ℕ → Param → Value → Binding
bound_parameter bits base j p v = variable_binding (parameter bits j p) (place_at base j p.put) v.bits

-- each parameter is found by its name
abbrev pub AreBound : List ℕ → ℕ → List Binding → ℕ → List Param → List Value → Type 0
AreBound bits base variables j (p ∷ params) (v ∷ vs) =
    (variable_in variables (parameter_name j) ≡ Some (bound_parameter bits base j p v)) × AreBound bits base variables (j + 1) params vs
AreBound bits base variables j _ _ = Unit {0}

module _ (bits : List ℕ) (base : ℕ) where
  bound-after : (b : Binding) (m : ℕ) → b.name ≡ parameter_name m → (variables : List Binding) (j : ℕ) (params : List Param) (vs : List Value) → m < j → j + length params < 2 ^ 63
      → AreBound bits base variables j params vs → AreBound bits base (b ∷ variables) j params vs
  bound-after b m named variables j [] vs less few bound = tt
  bound-after b m named variables j (p ∷ params) [] less few bound = tt
  bound-after b m named variables j (p ∷ params) (v ∷ vs) less few bound = (
    ap (λ c. if c then Some b else variable_in variables (parameter_name j))
        (ap (λ name. same_bytes name (parameter_name j)) named ∙ places-apart m j less (omega (arith, few))) ∙ bound.0,
    bound-after b m named variables (j + 1) params vs (omega (arith, less)) (omega (arith, few)) bound.1,
  )

  pub all-bound : (j : ℕ) (params : List Param) (vs : List Value) (others : List Binding) → j + length params < 2 ^ 63
      → AreBound bits base (param_bindings (parameters_from bits j params) (param_places_from base j params) vs ++ others) j params vs
  all-bound j [] vs others few = tt
  all-bound j (p ∷ params) [] others few = tt
  all-bound j (p ∷ params) (v ∷ vs) others few =
      let rest = param_bindings (parameters_from bits (j + 1) params) (param_places_from base (j + 1) params) vs ++ others in (
        ap (λ c. if c then Some (bound_parameter bits base j p v) else variable_in rest (parameter_name j)) (same_bytes-refl (parameter_name j)),
        bound-after (bound_parameter bits base j p v) j refl rest (j + 1) params vs (omega arith) (omega (arith, few)) (all-bound (j + 1) params vs others (omega (arith, few))),
      )

  -- an argument in memory is found where it stands
  pub memory-bound : (variables : List Binding) (j : ℕ) (params : List Param) (vs : List Value) (ns : List ℕ) (k : ℕ) → AreArguments bits params vs ns
      → AreBound bits base variables j params vs → memory_from j params ≡ Some k
      → variable_in variables (parameter_name k) ≡ Some (record { name = parameter_name k; type = plain Uint; is_array = false; storage = PlacedAt ((base + 2 * k) % 65536) })
  memory-bound variables j [] vs ns k are bound is = absurd cc
  memory-bound variables j (p ∷ params) [] ns k are bound is = absurd are
  memory-bound variables j (p ∷ params) (v ∷ vs) [] k are bound is = absurd are
  memory-bound variables j (p ∷ params) (v ∷ vs) (n ∷ ns) k are bound is = elim (decided (p.stack && is_memory p.put)) [
    | inl here ↦
        (let same : j ≡ k = some-equal (sym (ap (λ b. if b then Some j else memory_from (j + 1) params) here) ∙ is) in
        subst (λ m. variable_in variables (parameter_name m) ≡ Some (record { name = parameter_name m; type = plain Uint; is_array = false; storage = PlacedAt ((base + 2 * m) % 65536) })) same
        (bound.0 ∙ ap (λ put. Some (record {
          name = parameter_name j;
          type = plain (unsigned_type (put_width bits put));
          is_array = false;
          storage = storage_of (place_at base j put) v.bits;
        })) (memory-is-put p.put (and_parts p.stack (is_memory p.put) here).1)))
    | inr later ↦
        memory-bound variables (j + 1) params vs ns k are.1 bound.1
        (sym (ap (λ b. if b then Some j else memory_from (j + 1) params) later) ∙ is)
  ]

  -- another name is no parameter's
  pub no-parameter : (word : Word) (j : ℕ) (params : List Param) (vs : List Value) (others : List Binding)
      → variable_in (param_bindings (parameters_from bits j params) (param_places_from base j params) vs ++ others) (118 ∷ word) ≡ variable_in others (118 ∷ word)
  no-parameter word j [] vs others = refl
  no-parameter word j (p ∷ params) [] others = refl
  no-parameter word j (p ∷ params) (v ∷ vs) others = no-parameter word (j + 1) params vs others

  -- A location that takes a whole argument.
  pub record IsParameter (variables : List Binding) (values : Values) (l : Loc) (k : ℕ) : Type 0 where
    pub bits_held : ℕ
    pub found : variable_in variables (parameter_name k) ≡ Some (record {
      name = parameter_name k;
      type = plain (unsigned_type (location_width bits l));
      is_array = false;
      storage = Unplaced bits_held;
    })
    pub low : bits_held % 2 ^ location_width bits l ≡ values l
    pub room : bits_held < 2 ^ bits_of (unsigned_type (location_width bits l))

  pub parameter-is : (variables : List Binding) (j : ℕ) (params : List Param) (vs : List Value) (ns : List ℕ) (values : Values) (l : Loc) (k : ℕ) → AreArguments bits params vs ns
      → locations_differ (all_places params) ≡ true → AreBound bits base variables j params vs → place_from j params l ≡ Some k → IsParameter variables (values_after params ns values) l k
  parameter-is variables j [] vs ns values l k are differ bound is = absurd cc
  parameter-is variables j (p ∷ params) [] ns values l k are differ bound is = absurd are
  parameter-is variables j (p ∷ params) (v ∷ vs) [] values l k are differ bound is = absurd are
  parameter-is variables j (p ∷ params) (v ∷ vs) (n ∷ ns) values l k are differ bound is = elim (decided (is_taken_whole p.put l)) [
    | inl here ↦
        (let same : j ≡ k = some-equal (sym (ap (λ b. if b then Some j else place_from (j + 1) params l) here) ∙ is) in
        let put = whole-is p.put l here in
        let x = subst (λ q. IsArgument bits q v n) put are.0 in
        subst (IsParameter variables (values_after (p ∷ params) (n ∷ ns) values) l) same (record {
          bits_held = v.bits;
          found = bound.0 ∙ ap (λ q. Some (record {
            name = parameter_name j;
            type = plain (unsigned_type (put_width bits q));
            is_array = false;
            storage = storage_of (place_at base j q) v.bits;
          })) put;
          low = x.low ∙ sym (whole-value p.put params n ns values l put differ);
          room = x.room;
        }))
    | inr later ↦
        parameter-is variables (j + 1) params vs ns (put_values p.put n values) l k are.1 (others-differ p params differ) bound.1
        (sym (ap (λ b. if b then Some j else place_from (j + 1) params l) later) ∙ is)
  ]

-- Words whose bytes have locations of their own.

abbrev pub word_binding : ℕ → ℕ → Binding
word_binding j n = record { name = parameter_name j; type = plain Uint; is_array = false; storage = Unplaced n }

-- the parameter holds the word, and the locations are to hold its bytes
pub record IsWord (variables : List Binding) (values : Values) (j : ℕ) (low high : Loc) (n : ℕ) : Type 0 where
  pub found : variable_in variables (parameter_name j) ≡ Some (word_binding j n)
  pub small : n < 65536
  pub first : values low ≡ n % 256
  pub second : values high ≡ n / 256

abbrev pub IsWordPut : List Binding → Values → ℕ → Put → ℕ → Type 0
IsWordPut variables values j (Two low high) n = IsWord variables values j low high n
IsWordPut variables values j _ n = Unit {0}

abbrev pub AreWords : List Binding → Values → ℕ → List Param → List ℕ → Type 0
AreWords variables values j (p ∷ params) (n ∷ ns) = IsWordPut variables values j p.put n × AreWords variables values (j + 1) params ns
AreWords variables values j _ _ = Unit {0}

pub words-are : (bits : List ℕ) (base : ℕ) (variables : List Binding) (j : ℕ) (params : List Param) (vs : List Value) (ns : List ℕ) (values : Values) → AreArguments bits params vs ns
    → locations_differ (all_places params) ≡ true → AreBound bits base variables j params vs → AreWords variables (values_after params ns values) j params ns
words-are bits base variables j [] vs ns values are differ bound = tt
words-are bits base variables j (p ∷ params) [] ns values are differ bound = absurd are
words-are bits base variables j (p ∷ params) (v ∷ vs) [] values are differ bound = absurd are
words-are bits base variables j (p ∷ params) (v ∷ vs) (n ∷ ns) values are differ bound =
    (first p.put are.0 bound.0 differ, words-are bits base variables (j + 1) params vs ns (put_values p.put n values) are.1 (others-differ p params differ) bound.1)
  where
    first : (put : Put) → IsArgument bits put v n
        → variable_in variables (parameter_name j) ≡ Some (record {
          name = parameter_name j;
          type = plain (unsigned_type (put_width bits put));
          is_array = false;
          storage = storage_of (place_at base j put) v.bits;
        })
        → locations_differ (places put ++ all_places params) ≡ true → IsWordPut variables (values_after params ns (put_values put n values)) j put n
    first Memory is found apart = tt
    first (One location) is found apart = tt
    first (Two low high) is found apart =
        let exactly : v.bits ≡ n = sym (mod-eq_of_lt is.room) ∙ is.low in record {
          found = found ∙ ap (λ k. Some (word_binding j k)) exactly;
          small = subst (λ k. k < 65536) exactly is.room;
          first = low-value low high params n ns values apart;
          second = high-value low high params n ns values apart;
        }
