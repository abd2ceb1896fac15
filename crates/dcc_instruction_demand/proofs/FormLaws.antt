-- Operations that take two operands, work on them and store the result.
use Rattle.std.proofs.Common.{◌≡◌, ℕ, ℤ, Bool, true, false, not, ◌&&◌, ◌||◌, if◌then◌else◌, ◌⊎◌, inl, inr, List, [], ◌∷◌, ◌++◌, map, Option, refl, sym, ap, ◌∙◌, subst, true≢false}
use Rattle.std.specs.Prelude.{Contains, flat_map}
use Rattle.std.specs.List.{list_any, list_all}
use Rattle.std.proofs.lemmas.List.{append-nil}
use Rattle.std.proofs.lemmas.Grind.{flat_map-append}
use Rattle.std.proofs.lemmas.List.Elements.{Contains-append_left, Contains-append_right, Contains-append_cases}
use Rattle.dcc_num.specs.declared.Width.{Width}
use Rattle.dcc_num.specs.declared.Width.TheVariants.{Byte as byte_width, Word as word_width}
use Rattle.dcc_num.specs.declared.Half.{Half as HalfName}
use Rattle.dcc_num.specs.declared.Reg.{Reg}
use Rattle.dcc_num.specs.declared.FlagName.{FlagName}
use Rattle.dcc_num.specs.declared.FlagName.TheVariants.{Cf, Zf, Sf, Of}
use Rattle.dcc_machine.specs.Wanted.{Location, half_of, flag_of, is_flag}
use Rattle.dcc_ir.specs.declared.syntax.Loc.{Loc}
use Rattle.dcc_ir.specs.declared.syntax.Loc.TheVariants.{Half, Flag, Cell, Temp}
use Rattle.dcc_ir.specs.Location.{same_location}
use Rattle.dcc_ir.specs.Tree.{Stmt}
use Rattle.dcc_ir.specs.Live.{is_among}
use Rattle.dcc_ops.specs.OperandPlace.{OperandPlace, constant, byte, word, memory, address, computed, taking, storing}
use Rattle.dcc_ops.specs.Expressions.{result}
use Rattle.dcc_ops.specs.Temporaries.{left_place, right_place, result_place}
use Rattle.dcc_lift.proofs.ListTests.{and_left, and_right, and_both, or_here, or_there, or_cases, or_none}
use Rattle.dcc_simulation.specs.Procedures.{Procedure}
use Rattle.dcc_demand.specs.Procedures.{Procedures}
use Rattle.dcc_machine_demand.specs.Bodies.{Body, Point, op_of}
use Rattle.dcc_machine_demand.specs.Holders.{Holder, held, in_frame, is_holder}
use Rattle.dcc_machine_demand.specs.Values.{value_written, is_sure, value_made_of}
use Rattle.dcc_sums.specs.Points.{Position}
use Rattle.dcc_sums.specs.Instance.{written_by}
use Rattle.dcc_refinement.specs.Refinement.{Refinement, Carries, Takes}
use Rattle.dcc_lifted_demand.specs.Sources.{sources, used}
use Rattle.dcc_lifted_demand.specs.LiftedRefinement.{inner_of, IsSame}
use Rattle.dcc_lifted_demand.proofs.SameLaws.{SameCases, same_cases}
use Rattle.dcc_instruction_demand.specs.Agreement.{Agrees}
use Rattle.dcc_instruction_demand.proofs.IdleLaws.{same_once}
use Rattle.dcc_instruction_demand.proofs.ShownLaws.{Shows, shows_none, shows_one, shows_both, shows_alike}
use Rattle.dcc_instruction_demand.proofs.ValueLaws.{is_value, is_written}
use Rattle.dcc_instruction_demand.proofs.OperationLaws.{IsValueOperation, CarriesOn, carries_on, on_carries}
use Rattle.dcc_instruction_demand.proofs.OperationLaws.{operation_agrees}
use Rattle.dcc_instruction_demand.proofs.StageLaws.{HaveSame, have_itself, have_equal, have_then, have_mapped}
use Rattle.dcc_instruction_demand.proofs.StageLaws.{have_same, have_tested, flat_still, sources_append, used_append}
use Rattle.dcc_instruction_demand.proofs.StageLaws.{is_useless, used_useless, is_kept_place, reads_at, is_lasting}
use Rattle.dcc_instruction_demand.proofs.StageLaws.{before_both, both_lasting, both_left, both_right, sources_taken}
use Rattle.dcc_instruction_demand.proofs.StageLaws.{used_taken, outs, is_stored, has_kept, taking_writes, lasts_left}
use Rattle.dcc_instruction_demand.proofs.StageLaws.{lasts_right, sources_storing, used_storing, written_storing}
use Rattle.dcc_instruction_demand.proofs.StageLaws.{values_storing}

-- What a result or a flag is made of: the two operands, CF as it comes in, or what stood there.
pub data Input : Type 0 where
  first : Input
  second : Input
  carry : Input
  itself : Input

abbrev pub input_location : Width → Loc → Input → Loc
input_location w m first = left_place w
input_location w m second = right_place w
input_location w m carry = Flag Cf
input_location w m itself = m

abbrev pub is_itself : Input → Bool
is_itself itself = true
is_itself input = false

abbrev pub has_itself : List Input → Bool
has_itself inputs = list_any is_itself inputs

-- What is done between taking and storing.
pub record IsWork (w : Width) (working : List Stmt) (result_inputs : List Input) (flag_inputs : FlagName → List Input) : Type 0 where
  pub values : list_all is_value working ≡ true
  pub useless : list_all is_useless working ≡ true
  pub result_is : have_same (sources working (result_place w)) (map (input_location w (result_place w)) result_inputs) ≡ true
  pub flag_is : (f : FlagName) → have_same (sources working (Flag f)) (map (input_location w (Flag f)) (flag_inputs f)) ≡ true
  pub half_is : (r : Reg) (h : HalfName) → sources working (Half r h) ≡ Half r h ∷ []
  pub cell_is : (n : ℕ) (h : HalfName) → sources working (Cell n h) ≡ Cell n h ∷ []
  pub half_left : (r : Reg) (h : HalfName) → is_written working (Half r h) ≡ false
  pub cell_left : (n : ℕ) (h : HalfName) → is_written working (Cell n h) ≡ false
  pub new : has_itself result_inputs ≡ false

pub written_both : (xs ys : List Stmt) (m : Loc) → is_written (xs ++ ys) m ≡ (is_written ys m || is_written xs m)
written_both [] ys m = sym (or_none (is_written ys m))
written_both (s ∷ xs) ys m = ap (λ b. b || is_among (written_by s) m) (written_both xs ys m) ∙ again (is_written ys m) (is_written xs m) (is_among (written_by s) m)
  where
    again : (a b c : Bool) → ((a || b) || c) ≡ (a || (b || c))
    again true b c = refl
    again false b c = refl

pub written_append : (xs ys : List Stmt) (m : Loc) → is_written xs m ≡ false → is_written (xs ++ ys) m ≡ is_written ys m
written_append xs ys m e = written_both xs ys m ∙ ap (λ b. is_written ys m || b) e ∙ or_none (is_written ys m)

pub written_first : (xs ys : List Stmt) (m : Loc) → is_written ys m ≡ false → is_written (xs ++ ys) m ≡ is_written xs m
written_first xs ys m e = written_both xs ys m ∙ ap (λ b. b || is_written xs m) e

pub all_append : {X : Type 0} (f : X → Bool) (xs ys : List X) → list_all f xs ≡ true → list_all f ys ≡ true → list_all f (xs ++ ys) ≡ true
all_append f [] ys s t = t
all_append f (x ∷ xs) ys s t = and_both (f x) (list_all f (xs ++ ys)) (and_left (f x) (list_all f xs) s) (all_append f xs ys (and_right (f x) (list_all f xs) s) t)

same_inputs : (w : Width) (m n : Loc) (inputs : List Input) → has_itself inputs ≡ false → map (input_location w m) inputs ≡ map (input_location w n) inputs
same_inputs w m n [] e = refl
same_inputs w m n (first ∷ inputs) e = ap (λ ls. left_place w ∷ ls) (same_inputs w m n inputs e)
same_inputs w m n (second ∷ inputs) e = ap (λ ls. right_place w ∷ ls) (same_inputs w m n inputs e)
same_inputs w m n (carry ∷ inputs) e = ap (λ ls. Flag Cf ∷ ls) (same_inputs w m n inputs e)
same_inputs w m n (itself ∷ inputs) e = absurd (true≢false e)

is_cf : (location : Location) → is_flag Cf location ≡ true → location ≡ flag_of Cf
is_cf (flag_of Cf) e = refl
is_cf (flag_of Zf) e = absurd (true≢false (sym e))
is_cf (flag_of Sf) e = absurd (true≢false (sym e))
is_cf (flag_of Of) e = absurd (true≢false (sym e))
is_cf (half_of r h) e = absurd (true≢false (sym e))

-- The places that are read for an input, where these are read for the operands.
module _ (first_reads second_reads : Holder → Bool) where
  abbrev pub input_reads : Input → Holder → Bool
  input_reads first L = first_reads L
  input_reads second L = second_reads L
  input_reads carry (held location) = is_flag Cf location
  input_reads carry (in_frame k) = false
  input_reads itself L = false

  abbrev pub made_by : List Input → Holder → Bool
  made_by inputs L = list_any (λ input. input_reads input L) inputs

  -- what is made of them
  abbrev MadeOf : (Holder → Bool) → Holder → Input → Holder → Type 0
  MadeOf is A first L = (is L ≡ true) × (first_reads L ≡ true)
  MadeOf is A second L = (is L ≡ true) × (second_reads L ≡ true)
  MadeOf is A carry L = L ≡ held (flag_of Cf)
  MadeOf is A itself L = L ≡ A

  abbrev pub MadeOfAny : (Holder → Bool) → Holder → List Input → Holder → Type 0
  MadeOfAny is A [] L = ⊥
  MadeOfAny is A (input ∷ inputs) L = MadeOf is A input L ⊎ MadeOfAny is A inputs L

  -- what is made of inputs, as tests tell it
  abbrev pub IsMade : (Holder → Bool) → Holder → List Input → Holder → Type 0
  IsMade is A inputs L = ((is L ≡ true) × (made_by inputs L ≡ true)) ⊎ ((has_itself inputs ≡ true) × (L ≡ A))

  module _ (body : Body) (A : Holder) where
    made_later : (input : Input) (inputs : List Input) (L : Holder) → IsMade (is_holder body) A inputs L → IsMade (is_holder body) A (input ∷ inputs) L
    made_later input inputs L (inl m) = inl (m.0, or_there (input_reads input L) (made_by inputs L) m.1)
    made_later input inputs L (inr i) = inr (or_there (is_itself input) (has_itself inputs) i.0, i.1)

    pub is_made : (inputs : List Input) (L : Holder) → MadeOfAny (is_holder body) A inputs L → IsMade (is_holder body) A inputs L
    is_made [] L m = absurd m
    is_made (first ∷ inputs) L (inl m) = inl (m.0, or_here (first_reads L) (made_by inputs L) m.1)
    is_made (second ∷ inputs) L (inl m) = inl (m.0, or_here (second_reads L) (made_by inputs L) m.1)
    is_made (carry ∷ inputs) L (inl m) = inl (ap (is_holder body) m, or_here (input_reads carry L) (made_by inputs L) (ap (input_reads carry) m))
    is_made (itself ∷ inputs) L (inl m) = inr (refl, m)
    is_made (input ∷ inputs) L (inr m) = made_later input inputs L (is_made inputs L m)

    one_made : (input : Input) (L : Holder) → is_holder body L ≡ true → input_reads input L ≡ true → MadeOf (is_holder body) A input L
    one_made first L p t = (p, t)
    one_made second L p t = (p, t)
    one_made carry (held location) p t = ap held (is_cf location t)
    one_made carry (in_frame k) p t = absurd (true≢false (sym t))
    one_made itself L p t = absurd (true≢false (sym t))

    made_itself : (input : Input) (L : Holder) → is_itself input ≡ true → L ≡ A → MadeOf (is_holder body) A input L
    made_itself first L t e = absurd (true≢false (sym t))
    made_itself second L t e = absurd (true≢false (sym t))
    made_itself carry L t e = absurd (true≢false (sym t))
    made_itself itself L t e = e

    pub any_made : (inputs : List Input) (L : Holder) → IsMade (is_holder body) A inputs L → MadeOfAny (is_holder body) A inputs L
    any_made [] L (inl m) = absurd (true≢false (sym m.1))
    any_made [] L (inr i) = absurd (true≢false (sym i.0))
    any_made (input ∷ inputs) L (inl m) = elim (or_cases (input_reads input L) (made_by inputs L) m.1) [
      | inl t ↦ inl (one_made input L m.0 t)
      | inr t ↦ inr (any_made inputs L (inl (m.0, t)))
    ]
    any_made (input ∷ inputs) L (inr i) = elim (or_cases (is_itself input) (has_itself inputs) i.0) [
      | inl t ↦ inl (made_itself input L t i.1)
      | inr t ↦ inr (any_made inputs L (inr (t, i.1)))
    ]

have_more : (xs ys zs : List Loc) → HaveSame xs ys → HaveSame (xs ++ zs) (ys ++ zs)
have_more xs ys zs a = record {
  grow = λ l c. elim (Contains-append_cases xs zs l c) [ inl d ↦ Contains-append_left ys zs l (a.grow l d) | inr d ↦ Contains-append_right ys zs l d ];
  shrink = λ l c. elim (Contains-append_cases ys zs l c) [ inl d ↦ Contains-append_left xs zs l (a.shrink l d) | inr d ↦ Contains-append_right xs zs l d ];
}

-- a list in front of another one that contains it adds no location
have_within : (xs ys : List Loc) → ((l : Loc) → Contains xs l → Contains ys l) → HaveSame (xs ++ ys) ys
have_within xs ys within = record {
  grow = λ l c. elim (Contains-append_cases xs ys l c) [ inl d ↦ within l d | inr d ↦ d ];
  shrink = λ l c. Contains-append_right xs ys l c;
}

-- no flag is stored to
half_no_flag : (l : Loc) (f : FlagName) → is_kept_place l ≡ true → same_location (Flag f) l ≡ false
half_no_flag (Half r h) f t = refl
half_no_flag (Cell n h) f t = refl
half_no_flag (Flag g) f t = absurd (true≢false (sym t))
half_no_flag (Temp n) f t = absurd (true≢false (sym t))

outs_no_flag : (P : OperandPlace) (f : FlagName) → has_kept P ≡ true → is_among (outs P) (Flag f) ≡ false
outs_no_flag (byte l) f t = ap (λ b. b || false) (half_no_flag l f t)
outs_no_flag (word low high) f t =
    ap (λ b. b || (same_location (Flag f) high || false)) (half_no_flag low f (and_left (is_kept_place low) (is_kept_place high) t))
    ∙ ap (λ b. b || false) (half_no_flag high f (and_right (is_kept_place low) (is_kept_place high) t))
outs_no_flag (constant v n) f t = refl
outs_no_flag (memory v e) f t = refl
outs_no_flag (address n) f t = refl
outs_no_flag (computed e) f t = refl

-- Where two operands are taken: what of their places is read for inputs, and what statements make of them.
module _ (coarse : Procedures ℕ Holder ℤ) (fine : Procedures Position Loc Loc) (r : Refinement ℕ Holder ℤ Position Loc Loc) (entry at : ℕ)
    (o : Option Procedure) (bodies : List Body) (body : Body) (point : Point) (v : IsValueOperation coarse fine r entry at o bodies body point)
    (w : Width) (F G : OperandPlace) (first_reads second_reads : Holder → Bool) (second_kept : list_all is_lasting (reads_at G) ≡ true)
    (firsts : Shows (r.same entry) (λ L. (is_holder body L ≡ true) × (first_reads L ≡ true)) (reads_at F))
    (seconds : Shows (r.same entry) (λ L. (is_holder body L ≡ true) × (second_reads L ≡ true)) (reads_at G)) where
  abbrev AnyMade : Holder → List Input → Holder → Type 0
  AnyMade A inputs L = MadeOfAny first_reads second_reads (is_holder body) A inputs L

  one_shown : (A : Holder) (m : Loc) → r.same entry A m → is_lasting m ≡ true → (input : Input)
      → Shows (r.same entry) (MadeOf first_reads second_reads (is_holder body) A input) (before_both w F G (input_location w m input))
  one_shown A m s t first = subst (λ ls. Shows (r.same entry) (MadeOf first_reads second_reads (is_holder body) A first) ls) (sym (both_left w F G)) firsts
  one_shown A m s t second = subst (λ ls. Shows (r.same entry) (MadeOf first_reads second_reads (is_holder body) A second) ls) (sym (both_right w F G second_kept)) seconds
  one_shown A m s t carry =
      subst (λ ls. Shows (r.same entry) (MadeOf first_reads second_reads (is_holder body) A carry) ls) (sym (both_lasting w F G (Flag Cf) refl))
      (shows_one (r.same entry) (λ L l n a b. same_once (v.same L l a) (v.same L n b)) (held (flag_of Cf)) (Flag Cf) (v.as_same (held (flag_of Cf)) (Flag Cf) (IsSame.is_held refl)))
  one_shown A m s t itself =
      subst (λ ls. Shows (r.same entry) (MadeOf first_reads second_reads (is_holder body) A itself) ls) (sym (both_lasting w F G m t))
      (shows_one (r.same entry) (λ L l n a b. same_once (v.same L l a) (v.same L n b)) A m s)

  pub inputs_shown : (A : Holder) (m : Loc) → r.same entry A m → is_lasting m ≡ true → (inputs : List Input) → Shows (r.same entry) (AnyMade A inputs) (flat_map (before_both w F G) (map (input_location w m) inputs))
  inputs_shown A m s t [] = shows_none (r.same entry)
  inputs_shown A m s t (input ∷ inputs) =
      shows_both (r.same entry) (MadeOf first_reads second_reads (is_holder body) A input) (AnyMade A inputs) (before_both w F G (input_location w m input)) (flat_map (before_both w F G) (map (input_location w m) inputs))
      (one_shown A m s t input) (inputs_shown A m s t inputs)

  module _ (stmts : List Stmt) (using : Shows (r.same entry) (Takes coarse fine r entry at) (used stmts [])) where
    abbrev MakesAt : Holder → Holder → Type 0
    MakesAt A L = Carries coarse fine r entry at L A ⊎ Takes coarse fine r entry at L

    abbrev CarriesAt : Holder → Holder → Type 0
    CarriesAt L A = CarriesOn coarse fine r entry at o bodies body point v L A

    -- where what it carries is made of inputs
    pub making_of : (A : Holder) (a : Loc) (inputs : List Input) → r.same entry A a → is_lasting a ≡ true → HaveSame (sources stmts a) (flat_map (before_both w F G) (map (input_location w a) inputs))
        → ((L : Holder) → CarriesAt L A → IsMade first_reads second_reads (is_holder body) A inputs L) → ((L : Holder) → IsMade first_reads second_reads (is_holder body) A inputs L → CarriesAt L A)
        → Shows (r.same entry) (MakesAt A) (sources stmts a ++ used stmts [])
    making_of A a inputs s t same to from =
        let more = have_more (sources stmts a) (flat_map (before_both w F G) (map (input_location w a) inputs)) (used stmts []) same in
        shows_alike (r.same entry) (λ L. AnyMade A inputs L ⊎ Takes coarse fine r entry at L) (MakesAt A) (flat_map (before_both w F G) (map (input_location w a) inputs) ++ used stmts []) (sources stmts a ++ used stmts [])
        (shows_both (r.same entry) (AnyMade A inputs) (Takes coarse fine r entry at) (flat_map (before_both w F G) (map (input_location w a) inputs)) (used stmts []) (inputs_shown A a s t inputs) using)
        (λ L l q m. elim m [
          | inl made ↦ inl (on_carries coarse fine r entry at o bodies body point v L A (from L (is_made first_reads second_reads body A inputs L made)))
          | inr taken ↦ inr taken
        ])
        (λ L l q m. elim m [
          | inl carried ↦ inl (any_made first_reads second_reads body A inputs L (to L (carries_on coarse fine r entry at o bodies body point v L A carried)))
          | inr taken ↦ inr taken
        ]) more.shrink more.grow

-- what is taken is a temporary
pub taking_written : (to : Loc) (Q : OperandPlace) (a : Loc) → same_location a to ≡ false → (ss : List Stmt) → is_written (taking to Q ∷ ss) a ≡ is_written ss a
taking_written to Q a e ss =
    ap (λ b. is_written ss a || b) (ap (λ ls. is_among ls a) (taking_writes to Q) ∙ or_none (same_location a to) ∙ e) ∙ or_none (is_written ss a)

pub both_written : (w : Width) (F G : OperandPlace) (ss : List Stmt) (a : Loc) → is_lasting a ≡ true → is_written (taking (left_place w) F ∷ taking (right_place w) G ∷ ss) a ≡ is_written ss a
both_written w F G ss a t = taking_written (left_place w) F a (lasts_left w a t) (taking (right_place w) G ∷ ss) ∙ taking_written (right_place w) G a (lasts_right w a t) ss

pub taking_value : (w : Width) (Q : OperandPlace) → (is_value (taking (left_place w) Q) ≡ true) × (is_value (taking (right_place w) Q) ≡ true)
taking_value byte_width (memory u e) = (refl, refl)
taking_value word_width (memory u e) = (refl, refl)
taking_value byte_width Q = (refl, refl)
taking_value word_width Q = (refl, refl)

pub both_values : (w : Width) (F G : OperandPlace) (ss : List Stmt) → list_all is_value ss ≡ true → list_all is_value (taking (left_place w) F ∷ taking (right_place w) G ∷ ss) ≡ true
both_values w F G ss t =
    and_both (is_value (taking (left_place w) F)) (list_all is_value (taking (right_place w) G ∷ ss)) (taking_value w F).0
    (and_both (is_value (taking (right_place w) G)) (list_all is_value ss) (taking_value w G).1 t)

module _ (coarse : Procedures ℕ Holder ℤ) (fine : Procedures Position Loc Loc) (r : Refinement ℕ Holder ℤ Position Loc Loc) (entry at pushed : ℕ)
    (o : Option Procedure) (bodies : List Body) (body : Body) (point : Point) (v : IsValueOperation coarse fine r entry at o bodies body point)
    (w : Width) (P F G : OperandPlace) (first_reads second_reads : Holder → Bool) (working : List Stmt) (stored : Bool) (result_inputs : List Input) (flag_inputs : FlagName → List Input) where
  abbrev pub keeping : List Stmt
  keeping = if stored then storing P (result w) else []

  abbrev pub form_stmts : List Stmt
  form_stmts = taking (left_place w) F ∷ taking (right_place w) G ∷ (working ++ keeping)

  abbrev pub form_outs : List Loc
  form_outs = if stored then outs P else []

  abbrev writes_at : Holder → Bool
  writes_at A = value_written body (op_of point) point.node.number A

  abbrev made_so : List Input → Holder → Bool
  made_so inputs L = made_by first_reads second_reads inputs L

  abbrev bb : Loc → List Loc
  bb = before_both w F G

  abbrev results : List Loc
  results = map (input_location w (result_place w)) result_inputs

  -- what is told of the operation and of its operands' places
  pub record IsForm : Type 0 where
    pub work : IsWork w working result_inputs flag_inputs
    pub kept : has_kept P ≡ true
    pub second_kept : list_all is_lasting (reads_at G) ≡ true
    pub firsts : Shows (r.same entry) (λ L. (is_holder body L ≡ true) × (first_reads L ≡ true)) (reads_at F)
    pub seconds : Shows (r.same entry) (λ L. (is_holder body L ≡ true) × (second_reads L ≡ true)) (reads_at G)
    pub writes_place : (A : Holder) (a : Loc) → r.same entry A a → is_kept_place a ≡ true → writes_at A ≡ is_among form_outs a
    pub writes_flag : (f : FlagName) → writes_at (held (flag_of f)) ≡ is_written working (Flag f)
    pub makes_place : (A : Holder) (a : Loc) → r.same entry A a → is_kept_place a ≡ true → writes_at A ≡ true → (L : Holder) → value_made_of body (op_of point) A L ≡ made_so result_inputs L
    pub makes_flag : (f : FlagName) → writes_at (held (flag_of f)) ≡ true → (L : Holder) → value_made_of body (op_of point) (held (flag_of f)) L ≡ made_so (flag_inputs f) L
    pub sure_place : (A : Holder) (a : Loc) → r.same entry A a → is_kept_place a ≡ true → is_sure (op_of point) A ≡ true
    pub sure_flag : (f : FlagName) → (writes_at (held (flag_of f)) && is_sure (op_of point) (held (flag_of f))) ≡ not (has_itself (flag_inputs f))
    pub left_flag : (f : FlagName) → writes_at (held (flag_of f)) ≡ false → (L : Holder) → made_so (flag_inputs f) L ≡ false
    pub takes : (L : Holder) (l : Loc) → r.same entry L l → Takes coarse fine r entry at L → ((stored && is_stored P) ≡ true) × (is_holder body L ≡ true) × (made_so result_inputs L ≡ true)
    pub taken : (stored && is_stored P) ≡ true → (L : Holder) → is_holder body L ≡ true → made_so result_inputs L ≡ true → Takes coarse fine r entry at L
    pub address_made : (stored && is_stored P) ≡ true → (l : Loc) → Contains (reads_at P) l → Contains (flat_map bb results) l
    pub address_kept : list_all is_kept_place (reads_at P) ≡ true
    pub made : (A : Holder) → writes_at A ≡ true → ((coarse.procedure entry).is_exposed A ≡ true) ⊎ ((l : Loc) × r.same entry A l)

  module _ (f : IsForm) where
    abbrev MadeAt : Holder → List Input → Holder → Type 0
    MadeAt A inputs L = MadeOfAny first_reads second_reads (is_holder body) A inputs L

    lasting : (a : Loc) → is_kept_place a ≡ true → is_lasting a ≡ true
    lasting (Half q h) t = refl
    lasting (Cell n h) t = refl
    lasting (Flag g) t = refl
    lasting (Temp n) t = absurd (true≢false (sym t))

    work_keeps : (a : Loc) → is_kept_place a ≡ true → sources working a ≡ a ∷ []
    work_keeps (Half q h) t = f.work.half_is q h
    work_keeps (Cell n h) t = f.work.cell_is n h
    work_keeps (Flag g) t = absurd (true≢false (sym t))
    work_keeps (Temp n) t = absurd (true≢false (sym t))

    both_kept : (a : Loc) → is_kept_place a ≡ true → bb a ≡ a ∷ []
    both_kept a t = both_lasting w F G a (lasting a t)

    -- What the statements make.

    form_sources : (a : Loc) → sources form_stmts a ≡ flat_map bb (flat_map (sources working) (sources keeping a))
    form_sources a = sources_taken w F G (working ++ keeping) a ∙ ap (flat_map bb) (sources_append working keeping a)

    keeping_sources : (a : Loc) → HaveSame (sources keeping a) (if is_among form_outs a then result_place w ∷ [] else a ∷ [])
    keeping_sources a = by stored
      where
        by : (b : Bool) → HaveSame (sources (if b then storing P (result w) else []) a) (if is_among (if b then outs P else []) a then result_place w ∷ [] else a ∷ [])
        by true = sources_storing w P a f.kept
        by false = have_itself (a ∷ [])

    after_keeping : (a : Loc) (b : Bool) → is_among form_outs a ≡ b → HaveSame (sources form_stmts a) (flat_map bb (flat_map (sources working) (if b then result_place w ∷ [] else a ∷ [])))
    after_keeping a b e =
        have_then (sources form_stmts a) (flat_map bb (flat_map (sources working) (sources keeping a))) (flat_map bb (flat_map (sources working) (if b then result_place w ∷ [] else a ∷ [])))
        (have_equal (sources form_stmts a) (flat_map bb (flat_map (sources working) (sources keeping a))) (form_sources a))
        (have_mapped bb (flat_map (sources working) (sources keeping a)) (flat_map (sources working) (if b then result_place w ∷ [] else a ∷ []))
        (have_mapped (sources working) (sources keeping a) (if b then result_place w ∷ [] else a ∷ [])
        (subst (λ c. HaveSame (sources keeping a) (if c then result_place w ∷ [] else a ∷ [])) e (keeping_sources a))))

    -- one location that the work is asked for
    worked : (m : Loc) (ls : List Loc) → HaveSame (sources working m) ls → HaveSame (flat_map bb (flat_map (sources working) (m ∷ []))) (flat_map bb ls)
    worked m ls same =
        have_mapped bb (sources working m ++ []) ls (have_then (sources working m ++ []) (sources working m) ls (have_equal (sources working m ++ []) (sources working m) (append-nil (sources working m))) same)

    result_worked : HaveSame (flat_map bb (flat_map (sources working) (result_place w ∷ []))) (flat_map bb results)
    result_worked = worked (result_place w) results (have_tested (sources working (result_place w)) results f.work.result_is)

    -- the inputs of what an instruction leaves in a location
    abbrev inputs_of : Bool → List Input
    inputs_of b = if b then result_inputs else itself ∷ []

    place_sources : (a : Loc) (b : Bool) → is_kept_place a ≡ true → is_among form_outs a ≡ b → HaveSame (sources form_stmts a) (flat_map bb (map (input_location w a) (inputs_of b)))
    place_sources a true t e =
        have_then (sources form_stmts a) (flat_map bb (flat_map (sources working) (result_place w ∷ []))) (flat_map bb (map (input_location w a) result_inputs)) (after_keeping a true e)
        (subst (λ ls. HaveSame (flat_map bb (flat_map (sources working) (result_place w ∷ []))) (flat_map bb ls)) (same_inputs w (result_place w) a result_inputs f.work.new) result_worked)
    place_sources a false t e =
        have_then (sources form_stmts a) (flat_map bb (flat_map (sources working) (a ∷ []))) (flat_map bb (a ∷ [])) (after_keeping a false e)
        (worked a (a ∷ []) (have_equal (sources working a) (a ∷ []) (work_keeps a t)))

    flag_unstored : (g : FlagName) → is_among form_outs (Flag g) ≡ false
    flag_unstored g = by stored
      where
        by : (b : Bool) → is_among (if b then outs P else []) (Flag g) ≡ false
        by true = outs_no_flag P g f.kept
        by false = refl

    flag_sources : (g : FlagName) → HaveSame (sources form_stmts (Flag g)) (flat_map bb (map (input_location w (Flag g)) (flag_inputs g)))
    flag_sources g =
        have_then (sources form_stmts (Flag g)) (flat_map bb (flat_map (sources working) (Flag g ∷ []))) (flat_map bb (map (input_location w (Flag g)) (flag_inputs g))) (after_keeping (Flag g) false (flag_unstored g))
        (worked (Flag g) (map (input_location w (Flag g)) (flag_inputs g)) (have_tested (sources working (Flag g)) (map (input_location w (Flag g)) (flag_inputs g)) (f.work.flag_is g)))

    -- What is used.

    abbrev to_memory : Bool
    to_memory = stored && is_stored P

    keeping_used : used keeping [] ≡ (if to_memory then reads_at P ++ (result_place w ∷ []) else [])
    keeping_used = by stored
      where
        by : (b : Bool) → used (if b then storing P (result w) else []) [] ≡ (if b && is_stored P then reads_at P ++ (result_place w ∷ []) else [])
        by true = used_storing w P
        by false = refl

    form_used : (b : Bool) → to_memory ≡ b → used form_stmts [] ≡ flat_map bb (flat_map (sources working) (if b then reads_at P ++ (result_place w ∷ []) else []))
    form_used b e =
        used_taken w F G (working ++ keeping) [] ∙ ap (flat_map bb) (used_append working keeping [] ∙ used_useless working (used keeping []) f.work.useless
        ∙ ap (flat_map (sources working)) (keeping_used ∙ ap (λ c. if c then reads_at P ++ (result_place w ∷ []) else []) e))

    abbrev Taking : Holder → Type 0
    Taking = Takes coarse fine r entry at

    results_shown : Shows (r.same entry) (MadeAt (held (flag_of Cf)) result_inputs) (flat_map bb results)
    results_shown =
        subst (λ ls. Shows (r.same entry) (MadeAt (held (flag_of Cf)) result_inputs) (flat_map bb ls)) (same_inputs w (Flag Cf) (result_place w) result_inputs f.work.new)
        (inputs_shown coarse fine r entry at o bodies body point v w F G first_reads second_reads f.second_kept f.firsts f.seconds (held (flag_of Cf)) (Flag Cf)
        (v.as_same (held (flag_of Cf)) (Flag Cf) (IsSame.is_held refl)) refl result_inputs)

    address_stays : flat_map bb (flat_map (sources working) (reads_at P)) ≡ reads_at P
    address_stays =
        ap (flat_map bb) (flat_still (sources working) is_kept_place work_keeps (reads_at P) f.address_kept)
        ∙ flat_still bb is_kept_place both_kept (reads_at P) f.address_kept

    stored_used : to_memory ≡ true → HaveSame (used form_stmts []) (flat_map bb results)
    stored_used e =
        have_then (used form_stmts []) (reads_at P ++ flat_map bb (flat_map (sources working) (result_place w ∷ []))) (flat_map bb results)
        (have_equal (used form_stmts []) (reads_at P ++ flat_map bb (flat_map (sources working) (result_place w ∷ [])))
        (form_used true e ∙ ap (flat_map bb) (flat_map-append (sources working) (reads_at P) (result_place w ∷ []))
        ∙ flat_map-append bb (flat_map (sources working) (reads_at P)) (flat_map (sources working) (result_place w ∷ []))
        ∙ ap (λ ls. ls ++ flat_map bb (flat_map (sources working) (result_place w ∷ []))) address_stays))
        (have_then (reads_at P ++ flat_map bb (flat_map (sources working) (result_place w ∷ []))) (flat_map bb (flat_map (sources working) (result_place w ∷ []))) (flat_map bb results)
        (have_within (reads_at P) (flat_map bb (flat_map (sources working) (result_place w ∷ []))) (λ l c. result_worked.shrink l (f.address_made e l c))) result_worked)

    using_by : (b : Bool) → to_memory ≡ b → Shows (r.same entry) Taking (used form_stmts [])
    using_by true e =
        shows_alike (r.same entry) (MadeAt (held (flag_of Cf)) result_inputs) Taking (flat_map bb results) (used form_stmts []) results_shown
        (λ L l s m. elim (is_made first_reads second_reads body (held (flag_of Cf)) result_inputs L m) [
          | inl t ↦ f.taken e L t.0 t.1
          | inr t ↦ absurd (true≢false (sym t.0 ∙ f.work.new))
        ])
        (λ L l s t. let so = f.takes L l s t in any_made first_reads second_reads body (held (flag_of Cf)) result_inputs L (inl (so.1, so.2)))
        (stored_used e).shrink (stored_used e).grow
    using_by false e =
        shows_alike (r.same entry) (λ L. ⊥) Taking [] (used form_stmts []) (shows_none (r.same entry)) (λ L l s m. absurd m)
        (λ L l s t. absurd (true≢false (sym (f.takes L l s t).0 ∙ e)))
        (λ l c. subst (λ ls. Contains ls l) (sym (form_used false e)) c) (λ l c. subst (λ ls. Contains ls l) (form_used false e) c)

    using : Shows (r.same entry) Taking (used form_stmts [])
    using = using_by to_memory refl

    -- What is made.

    abbrev Making : Holder → Holder → Type 0
    Making A L = Carries coarse fine r entry at L A ⊎ Taking L

    abbrev CarriesTo : Holder → Holder → Type 0
    CarriesTo L A = CarriesOn coarse fine r entry at o bodies body point v L A

    shows_made : (A : Holder) (a : Loc) (inputs : List Input) → r.same entry A a → is_lasting a ≡ true → HaveSame (sources form_stmts a) (flat_map bb (map (input_location w a) inputs))
        → ((L : Holder) → CarriesTo L A → IsMade first_reads second_reads (is_holder body) A inputs L) → ((L : Holder) → IsMade first_reads second_reads (is_holder body) A inputs L → CarriesTo L A)
        → Shows (r.same entry) (Making A) (sources form_stmts a ++ used form_stmts [])
    shows_made = making_of coarse fine r entry at o bodies body point v w F G first_reads second_reads f.second_kept f.firsts f.seconds form_stmts using

    module _ (A : Holder) (a : Loc) (s : r.same entry A a) (t : is_kept_place a ≡ true) where
      sure : is_sure (op_of point) A ≡ true
      sure = f.sure_place A a s t

      place_made : (b : Bool) → writes_at A ≡ b → (L : Holder) → CarriesTo L A → IsMade first_reads second_reads (is_holder body) A (inputs_of b) L
      place_made true e L (CarriesOn.made k p m) = inl (p, sym (f.makes_place A a s t e L) ∙ m)
      place_made true e L (CarriesOn.stays same k) = absurd (true≢false (sym (and_both (writes_at A) (is_sure (op_of point) A) e sure) ∙ k))
      place_made false e L (CarriesOn.made k p m) = absurd (true≢false (sym k ∙ e))
      place_made false e L (CarriesOn.stays same k) = inr (refl, same)

      place_carried : (b : Bool) → writes_at A ≡ b → (L : Holder) → IsMade first_reads second_reads (is_holder body) A (inputs_of b) L → CarriesTo L A
      place_carried true e L (inl m) = CarriesOn.made e m.0 (f.makes_place A a s t e L ∙ m.1)
      place_carried true e L (inr i) = absurd (true≢false (sym i.0 ∙ f.work.new))
      place_carried false e L (inl m) = absurd (true≢false (sym m.1))
      place_carried false e L (inr i) = CarriesOn.stays i.1 (ap (λ b. b && is_sure (op_of point) A) e)

      making_place : Shows (r.same entry) (Making A) (sources form_stmts a ++ used form_stmts [])
      making_place =
          shows_made A a (inputs_of (is_among form_outs a)) s (lasting a t) (place_sources a (is_among form_outs a) t refl)
          (place_made (is_among form_outs a) (f.writes_place A a s t)) (place_carried (is_among form_outs a) (f.writes_place A a s t))

    module _ (g : FlagName) where
      flag_made : (L : Holder) → CarriesTo L (held (flag_of g)) → IsMade first_reads second_reads (is_holder body) (held (flag_of g)) (flag_inputs g) L
      flag_made L (CarriesOn.made k p m) = inl (p, sym (f.makes_flag g k L) ∙ m)
      flag_made L (CarriesOn.stays same k) = inr (flip (has_itself (flag_inputs g)) (sym (f.sure_flag g) ∙ k), same)
        where
          flip : (b : Bool) → not b ≡ false → b ≡ true
          flip true e = refl
          flip false e = absurd (true≢false e)

      flag_carried : (b : Bool) → writes_at (held (flag_of g)) ≡ b → (L : Holder) → IsMade first_reads second_reads (is_holder body) (held (flag_of g)) (flag_inputs g) L → CarriesTo L (held (flag_of g))
      flag_carried true e L (inl m) = CarriesOn.made e m.0 (f.makes_flag g e L ∙ m.1)
      flag_carried false e L (inl m) = absurd (true≢false (sym m.1 ∙ f.left_flag g e L))
      flag_carried b e L (inr i) = CarriesOn.stays i.1 (f.sure_flag g ∙ ap not i.0)

      making_flag : Shows (r.same entry) (Making (held (flag_of g))) (sources form_stmts (Flag g) ++ used form_stmts [])
      making_flag =
          shows_made (held (flag_of g)) (Flag g) (flag_inputs g) (v.as_same (held (flag_of g)) (Flag g) (IsSame.is_held refl)) refl (flag_sources g) flag_made
          (flag_carried (writes_at (held (flag_of g))) refl)

    -- Together.

    -- a place is a flag, or is kept
    data Kind (A : Holder) (a : Loc) : Type 0 where
      is_flag_of : (g : FlagName) → A ≡ held (flag_of g) → a ≡ Flag g → Kind A a
      is_kept_at : is_kept_place a ≡ true → Kind A a

    kind : (A : Holder) (a : Loc) → r.same entry A a → Kind A a
    kind A a s = by (same_cases o (v.same A a s))
      where
        held_kind : (location : Location) → A ≡ held location → a ≡ inner_of location → Kind A a
        held_kind (half_of q h) e f = Kind.is_kept_at (ap is_kept_place f)
        held_kind (flag_of g) e f = Kind.is_flag_of g e f

        by : SameCases o A a → Kind A a
        by (SameCases.by_held location p e f) = held_kind location e f
        by (SameCases.by_kept found k p e kept g) = Kind.is_kept_at (ap is_kept_place kept.is)

    making : (A : Holder) (a : Loc) → r.same entry A a → Shows (r.same entry) (Making A) (sources form_stmts a ++ used form_stmts [])
    making A a s = elim (kind A a s) [
      | Kind.is_flag_of g e k ↦
          subst (λ B. Shows (r.same entry) (Making B) (sources form_stmts a ++ used form_stmts [])) (sym e)
          (subst (λ b. Shows (r.same entry) (Making (held (flag_of g))) (sources form_stmts b ++ used form_stmts [])) (sym k) (making_flag g))
      | Kind.is_kept_at t ↦ making_place A a s t
    ]

    keeping_written : (a : Loc) → is_written keeping a ≡ is_among form_outs a
    keeping_written a = by stored
      where
        by : (b : Bool) → is_written (if b then storing P (result w) else []) a ≡ is_among (if b then outs P else []) a
        by true = written_storing w P a
        by false = refl

    work_writes : (a : Loc) → is_kept_place a ≡ true → is_written working a ≡ false
    work_writes (Half q h) t = f.work.half_left q h
    work_writes (Cell n h) t = f.work.cell_left n h
    work_writes (Flag g) t = absurd (true≢false (sym t))
    work_writes (Temp n) t = absurd (true≢false (sym t))

    writes_kept : (A : Holder) (a : Loc) → r.same entry A a → is_kept_place a ≡ true → writes_at A ≡ is_written form_stmts a
    writes_kept A a s t =
        f.writes_place A a s t ∙ sym (both_written w F G (working ++ keeping) a (lasting a t) ∙ written_append working keeping a (work_writes a t) ∙ keeping_written a)

    writes : (A : Holder) (a : Loc) → r.same entry A a → writes_at A ≡ is_written form_stmts a
    writes A a s = elim (kind A a s) [
      | Kind.is_flag_of g e k ↦
          ap writes_at e ∙ f.writes_flag g
          ∙ sym (ap (is_written form_stmts) k ∙ both_written w F G (working ++ keeping) (Flag g) refl ∙ written_first working keeping (Flag g) (keeping_written (Flag g) ∙ flag_unstored g))
      | Kind.is_kept_at t ↦ writes_kept A a s t
    ]

    keeping_values : list_all is_value keeping ≡ true
    keeping_values = by stored
      where
        by : (b : Bool) → list_all is_value (if b then storing P (result w) else []) ≡ true
        by true = values_storing w P
        by false = refl

    form_values : list_all is_value form_stmts ≡ true
    form_values = both_values w F G (working ++ keeping) (all_append is_value working keeping f.work.values keeping_values)

    pub form_agrees : Agrees coarse fine r entry at pushed form_stmts []
    form_agrees = operation_agrees coarse fine r entry at o bodies body point v pushed form_stmts [] (record {
      values = form_values;
      writes = writes;
      using = using;
      making = making;
      made = f.made;
    })
