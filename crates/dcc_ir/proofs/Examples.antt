-- Small expressions, graphs and statements under the definitions that no pass meets yet: forms, live locations,
-- temporaries that may be joined, windows.
use Rattle.std.proofs.Common.{arith, ◌≡◌, ◌<◌, ◌+◌, ◌∙◌, refl, sym, subst, ℕ, zero, suc, true, false, List, [], ◌∷◌, Contains, Some, None}
use Rattle.std.proofs.Math.Nat.{mod-eq_of_lt}
use Rattle.std.proofs.lemmas.List.Elements.{All-nil, All-contains_itself}
use Rattle.std.specs.List.{slice_index_or}
use Rattle.std.proofs.lemmas.Bool.Decides.{nat_tests}
use Rattle.dcc_run.specs.End.{Running}
use Rattle.dcc_num.specs.declared.Reg.TheVariants.{Ax, Cx, Dx, Bx}
use Rattle.dcc_num.specs.declared.Half.TheVariants.{Low}
use Rattle.dcc_num.specs.declared.FlagName.TheVariants.{Cf, Zf}
use Rattle.dcc_ir.specs.declared.syntax.Loc.{Loc}
use Rattle.dcc_ir.specs.declared.syntax.Loc.TheVariants.{Half, Flag, Temp}
use Rattle.dcc_ir.specs.declared.syntax.UnOp.TheVariants.{Neg, Not, IsZero}
use Rattle.dcc_ir.specs.declared.syntax.BinOp.TheVariants.{Add, Sub, Mul, DivU, And, Or, Xor, Shl, Shr, Sar, LtS, LtU}
use Rattle.dcc_ir.specs.Tree.{Expr, Const, Get, Load, Unary, Binary, Widen, Part, Join, Choose, Address, Stmt, Set, Store, Call, Dos, Goto, If, Stop, Graph}
use Rattle.dcc_ir.specs.Location.{filled}
use Rattle.dcc_ir.specs.Run.{State, activation, setting}
use Rattle.dcc_ir.specs.Forms.{has_form}
use Rattle.dcc_ir.specs.Rules.{IsSimpler, RuleAnswers, is_normal}
use Rattle.dcc_ir.specs.Flow.{IsPath}
use Rattle.dcc_ir.specs.Live.{reads_first, block_in, follows, Passes, IsLiveAfter}
use Rattle.dcc_ir.specs.Joinable.{IsJoinable, lets_pass}
use Rattle.dcc_ir.specs.Idioms.{IsWindow, performed, all_nodes, all_truths}

-- Forms: the one expression has the form of that number, and the other, which is like it, has not.

abbrev TellsApart : ℕ → Expr → Expr → Type 0
TellsApart id e near = (has_form id e ≡ true) × (has_form id near ≡ false)

abbrev al : Loc
al = Half Ax Low

abbrev cl : Loc
cl = Half Cx Low

abbrev dl : Loc
dl = Half Dx Low

abbrev bl : Loc
bl = Half Bx Low

abbrev x : Expr
x = Get al

abbrev y : Expr
y = Get cl

abbrev w : Expr
w = Load 16 (Address 4)

abbrev d : Expr
d = Load 32 (Address 4)

-- a temporary tells no width
abbrev unknown : Expr
unknown = Get (Temp 0)

abbrev flag : Expr
flag = Get (Flag Zf)

abbrev byte : ℕ → Expr
byte n = Const 8 n

abbrev word : ℕ → Expr
word n = Const 16 n

sum_of_zero : TellsApart 1 (Binary Add 8 x (byte 0)) (Binary Add 8 (byte 0) x)
sum_of_zero = (refl, refl)

zero_and_sum : TellsApart 2 (Binary Add 8 (byte 0) x) (Binary Add 8 x (byte 0))
zero_and_sum = (refl, refl)

less_zero : TellsApart 3 (Binary Sub 8 x (byte 0)) (Binary Sub 8 (byte 0) x)
less_zero = (refl, refl)

less_itself : TellsApart 4 (Binary Sub 8 x x) (Binary Sub 8 x y)
less_itself = (refl, refl)

times_zero : TellsApart 5 (Binary Mul 8 x (byte 0)) (Binary Mul 8 (byte 0) x)
times_zero = (refl, refl)

times_one : TellsApart 6 (Binary Mul 8 x (byte 1)) (Binary Mul 8 x (byte 2))
times_one = (refl, refl)

one_times : TellsApart 7 (Binary Mul 8 (byte 1) x) (Binary Mul 8 x (byte 1))
one_times = (refl, refl)

and_zero : TellsApart 8 (Binary And 8 x (byte 0)) (Binary Or 8 x (byte 0))
and_zero = (refl, refl)

and_ones : TellsApart 9 (Binary And 8 x (byte 255)) (Binary And 8 x (byte 127))
and_ones = (refl, refl)

and_itself : TellsApart 10 (Binary And 8 x x) (Binary And 8 x y)
and_itself = (refl, refl)

or_zero : TellsApart 11 (Binary Or 8 x (byte 0)) (Binary Or 8 x (byte 1))
or_zero = (refl, refl)

or_itself : TellsApart 12 (Binary Or 8 x x) (Binary Or 8 x y)
or_itself = (refl, refl)

or_ones : TellsApart 13 (Binary Or 8 x (byte 255)) (Binary Or 16 w (word 255))
or_ones = (refl, refl)

xor_zero : TellsApart 14 (Binary Xor 8 x (byte 0)) (Binary Xor 8 x (byte 255))
xor_zero = (refl, refl)

xor_itself : TellsApart 15 (Binary Xor 8 x x) (Binary Xor 8 x y)
xor_itself = (refl, refl)

shl_by_zero : TellsApart 16 (Binary Shl 8 x (byte 0)) (Binary Shl 8 (byte 0) x)
shl_by_zero = (refl, refl)

shr_by_zero : TellsApart 17 (Binary Shr 8 x (byte 0)) (Binary Sar 8 x (byte 0))
shr_by_zero = (refl, refl)

sar_by_zero : TellsApart 18 (Binary Sar 8 x (byte 0)) (Binary Sar 8 x (byte 8))
sar_by_zero = (refl, refl)

negated_twice : TellsApart 19 (Unary Neg 8 (Unary Neg 8 x)) (Unary Neg 8 (Unary Not 8 x))
negated_twice = (refl, refl)

inverted_twice : TellsApart 20 (Unary Not 8 (Unary Not 8 x)) (Unary Not 8 (Unary Neg 8 x))
inverted_twice = (refl, refl)

sum_of_constants : TellsApart 21 (Binary Add 8 (byte 2) (byte 3)) (Binary Add 8 (byte 2) x)
sum_of_constants = (refl, refl)

difference_of_constants : TellsApart 22 (Binary Sub 8 (byte 2) (byte 3)) (Binary Sub 8 x (byte 3))
difference_of_constants = (refl, refl)

product_of_constants : TellsApart 23 (Binary Mul 8 (byte 2) (byte 3)) (Binary DivU 8 (byte 2) (byte 3))
product_of_constants = (refl, refl)

and_of_constants : TellsApart 24 (Binary And 8 (byte 2) (byte 3)) (Binary And 8 x (byte 3))
and_of_constants = (refl, refl)

or_of_constants : TellsApart 25 (Binary Or 8 (byte 2) (byte 3)) (Binary Or 8 (byte 2) x)
or_of_constants = (refl, refl)

xor_of_constants : TellsApart 26 (Binary Xor 8 (byte 2) (byte 3)) (Binary Or 8 (byte 2) (byte 3))
xor_of_constants = (refl, refl)

shift_of_constants : TellsApart 27 (Binary Sar 8 (byte 128) (byte 7)) (Binary Sar 8 x (byte 7))
shift_of_constants = (refl, refl)

comparison_of_constants : TellsApart 28 (Binary LtS 8 (byte 128) (byte 7)) (Binary LtS 8 x (byte 7))
comparison_of_constants = (refl, refl)

operator_on_a_constant : TellsApart 29 (Unary IsZero 8 (byte 7)) (Unary IsZero 8 x)
operator_on_a_constant = (refl, refl)

sum_of_a_sum : TellsApart 30 (Binary Add 8 (Binary Add 8 x (byte 2)) (byte 3)) (Binary Add 8 (Binary Add 8 (byte 2) x) (byte 3))
sum_of_a_sum = (refl, refl)

difference_of_a_difference : TellsApart 31 (Binary Sub 8 (Binary Sub 8 x (byte 2)) (byte 3)) (Binary Add 8 (Binary Sub 8 x (byte 2)) (byte 3))
difference_of_a_difference = (refl, refl)

difference_of_a_sum : TellsApart 32 (Binary Sub 8 (Binary Add 8 x (byte 2)) (byte 3)) (Binary Sub 8 (Binary Add 8 x y) (byte 3))
difference_of_a_sum = (refl, refl)

cut_of_a_constant : TellsApart 33 (Part 8 8 (word 0x1234)) (Part 8 8 w)
cut_of_a_constant = (refl, refl)

widening_of_a_constant : TellsApart 33 (Widen true 16 (byte 200)) (Widen true 16 x)
widening_of_a_constant = (refl, refl)

constants_joined : TellsApart 34 (Join (byte 1) (byte 2)) (Join (byte 1) x)
constants_joined = (refl, refl)

low_of_joined : TellsApart 35 (Part 8 0 (Join x y)) (Part 8 4 (Join x y))
low_of_joined = (refl, refl)

low_of_temporaries : TellsApart 35 (Part 8 0 (Join unknown x)) (Part 8 0 (Join unknown unknown))
low_of_temporaries = (refl, refl)

high_of_joined : TellsApart 36 (Part 8 8 (Join x y)) (Part 8 8 (Join w w))
high_of_joined = (refl, refl)

halves_joined : TellsApart 37 (Join (Part 8 8 w) (Part 8 0 w)) (Join (Part 8 0 w) (Part 8 8 w))
halves_joined = (refl, refl)

halves_of_two : TellsApart 37 (Join (Part 16 16 d) (Part 16 0 d)) (Join (Part 8 8 w) (Part 8 0 (Address 6)))
halves_of_two = (refl, refl)

whole_part : TellsApart 38 (Part 8 0 x) (Part 8 0 w)
whole_part = (refl, refl)

part_of_a_temporary : TellsApart 38 (Part 8 0 (Choose flag unknown x)) (Part 8 0 unknown)
part_of_a_temporary = (refl, refl)

part_of_widened : TellsApart 39 (Part 8 0 (Widen true 16 x)) (Part 8 0 (Widen true 32 w))
part_of_widened = (refl, refl)

chosen_by_a_constant : TellsApart 40 (Choose (Const 1 0) x y) (Choose flag (byte 1) (byte 1))
chosen_by_a_constant = (refl, refl)

-- there are forty forms
no_form : (has_form 0 x ≡ false) × (has_form 41 x ≡ false)
no_form = (refl, refl)

-- a rule that answers where its form is not
answers_too_much : ¬ RuleAnswers 1 (Binary Add 8 x (byte 1)) (Some x)
answers_too_much p = let none = (p.form (omega arith) (omega arith)).1 refl in cc

-- a part counts
not_normal : (is_normal (1 ∷ 10 ∷ []) (Unary Not 8 (Binary And 8 x x)) ≡ false) × (is_normal (1 ∷ 10 ∷ []) (Unary Not 8 x) ≡ true)
not_normal = (refl, refl)

-- Live locations: DL = 65; do { CL = CL - 1; ZF = CL == 0; BL = CL; } while (!ZF); a call that writes DL, and one BL.

abbrev loop : Graph
loop = record {
  entry = 5;
  params = [];
  local = 0;
  pushed = 0;
  blocks =
      record { at = 5; stmts = Set dl (byte 65) ∷ []; exit = Goto 1 }
      ∷ record {
        at = 7;
        stmts = Set cl (Binary Sub 8 (Get cl) (byte 1)) ∷ Set (Flag Zf) (Unary IsZero 8 (Get cl)) ∷ Set bl (Get cl) ∷ [];
        exit = If (Get (Flag Zf)) 2 1;
      }
      ∷ record { at = 9; stmts = Dos 2 None (Some (Get dl)) ∷ Dos 2 None (Some (Get bl)) ∷ []; exit = Stop } ∷ [];
  bits = [];
}

-- read only around the back edge
counter_is_live : IsLiveAfter loop 1 cl
counter_is_live = record { between = []; reader = 1; path = refl; read = refl }

-- read past a block that does not write it
byte_is_live : IsLiveAfter loop 0 dl
byte_is_live = record { between = 1 ∷ []; reader = 2; path = (refl, refl, refl); read = refl }

-- written before each read
test_is_not_live : (block : ℕ) → ¬ IsLiveAfter loop block (Flag Zf)
test_is_not_live block p = none p.reader p.read
  where
    none : (reader : ℕ) → reads_first (block_in loop reader).stmts (block_in loop reader).exit (Flag Zf) ≡ true → ⊥
    none zero e = cc
    none (suc zero) e = cc
    none (suc (suc zero)) e = cc
    none (suc (suc (suc n))) e = cc

-- written on the way to its read
copy_is_not_live : ¬ IsLiveAfter loop 0 bl
copy_is_not_live p = none p.between p.reader p.path p.read
  where
    none : (between : List ℕ) (reader : ℕ) → IsPath (follows loop) (Passes loop bl) 0 between reader
        → reads_first (block_in loop reader).stmts (block_in loop reader).exit bl ≡ true → ⊥
    none [] zero q e = cc
    none [] (suc zero) q e = cc
    none [] (suc (suc zero)) q e = cc
    none [] (suc (suc (suc n))) q e = cc
    none (zero ∷ bs) reader q e = let f = q.0 in cc
    none (suc zero ∷ bs) reader q e = let f = q.1 in cc
    none (suc (suc n) ∷ bs) reader q e = grind (arith, nat_tests, q.0)

-- Temporaries: t = AL + CL, a store, and then AL = t.

abbrev t : Loc
t = Temp 0

abbrev graph_of : List Stmt → Graph
graph_of stmts = record {
  entry = 5;
  params = [];
  local = 0;
  pushed = 0;
  blocks = record { at = 5; stmts = stmts; exit = Stop } ∷ [];
  bits = 8 ∷ [];
}

abbrev sum : Expr
sum = Binary Add 8 x y

abbrev stored : Stmt
stored = Store 8 (Address 4) y

one_reader : IsJoinable (graph_of (Set t sum ∷ stored ∷ Set al (Get t) ∷ [])) 0
one_reader = record {
  no_param = refl;
  written_once = refl;
  read_once = refl;
  block = record { at = 5; stmts = Set t sum ∷ stored ∷ Set al (Get t) ∷ []; exit = Stop };
  in_graph = (0, omega arith, refl);
  before = [];
  value = sum;
  between = stored ∷ [];
  after = Set al (Get t) ∷ [];
  stmts = refl;
  reader = Get t;
  read_next = (0, omega arith, refl);
  reads = refl;
  passes = refl;
  shallow = omega arith;
}

two_readers : ¬ IsJoinable (graph_of (Set t sum ∷ Set al (Get t) ∷ Set cl (Get t) ∷ [])) 0
two_readers p = let e = p.read_once in cc

two_writers : ¬ IsJoinable (graph_of (Set t sum ∷ Set t x ∷ Set al (Get t) ∷ [])) 0
two_writers p = let e = p.written_once in cc

-- a value may pass a store without a load, but nothing that writes what it reads, and no call
value_passes : lets_pass sum stored ≡ true
value_passes = refl

load_stays_before_store : lets_pass (Widen false 16 (Load 8 (Address 4))) stored ≡ false
load_stays_before_store = refl

value_stays_before_write : lets_pass sum (Set cl (byte 1)) ≡ false
value_stays_before_write = refl

value_stays_before_call : lets_pass (byte 1) (Dos 2 None (Some x)) ≡ false
value_stays_before_call = refl

-- A window: the halves of two longs added with the carry, and the same as one sum of 32 bits.

abbrev a : Loc
a = Temp 0

abbrev b : Loc
b = Temp 1

abbrev a' : Loc
a' = Temp 2

abbrev b' : Loc
b' = Temp 3

abbrev low : Loc
low = Temp 4

abbrev high : Loc
high = Temp 5

abbrev long : Loc
long = Temp 6

abbrev widths : List ℕ
widths = 16 ∷ 16 ∷ 16 ∷ 16 ∷ 16 ∷ 16 ∷ 32 ∷ []

abbrev by_halves : List Stmt
by_halves =
    Set low (Binary Add 16 (Get a) (Get a'))
    ∷ Set (Flag Cf) (Binary LtU 16 (Get low) (Get a))
    ∷ Set high (Binary Add 16 (Binary Add 16 (Get b) (Get b')) (Widen false 16 (Get (Flag Cf)))) ∷ []

abbrev as_long : List Stmt
as_long =
    Set long (Binary Add 32 (Join (Get b) (Get a)) (Join (Get b') (Get a')))
    ∷ Set low (Part 16 0 (Get long)) ∷ Set high (Part 16 16 (Get long)) ∷ []

sum_is_window : IsWindow widths by_halves (Flag Cf ∷ long ∷ [])
sum_is_window = record { widths = refl; formed = refl; no_calls = refl; long = refl }

-- the last location has to be the fresh one of 32 bits
window_needs_a_long : ¬ IsWindow widths by_halves (long ∷ Flag Cf ∷ [])
window_needs_a_long p = let e = p.long in cc

no_window_has_a_call : ¬ IsWindow widths (Call [] 9 [] 0 ∷ by_halves) (long ∷ [])
no_window_has_a_call p = let e = p.no_calls in cc

sum_is_shorter : (all_nodes by_halves ≡ 12) × (all_nodes as_long ≡ 11) × (all_truths by_halves ≡ 1) × (all_truths as_long ≡ 0)
sum_is_shorter = (refl, refl, refl, refl)

-- 0001FFFFh + 00020003h
abbrev begun : State
begun = setting b 1 (setting a 0xFFFF (setting b' 2 (setting a' 3 (record {
  running = activation (record (graph_of []) { bits = widths }) (filled widths 0) 0;
  waiting = [];
  memory = [];
  input = [];
  events = [];
  end = Running;
}))))

halves_carry : ((performed by_halves begun).running.values high ≡ 4) × ((performed by_halves begun).running.values low ≡ 2)
halves_carry = (refl, refl)

long_carries : ((performed as_long begun).running.values high ≡ 4) × ((performed as_long begun).running.values low ≡ 2)
long_carries = (refl, refl)

-- Simpler expressions: what the first rule makes of a sum with 0, and what just isn't simpler.

abbrev sum_with_zero : Expr
sum_with_zero = Binary Add 8 x (byte 0)

sum_with_zero_is_simpler : IsSimpler sum_with_zero x
sum_with_zero_is_simpler = record {
  formed = λ bits widths given. refl;
  width = λ bits widths given. refl;
  value = λ scene widths fits given.
      let few : scene.values al + 0 < 256 = omega (arith, fits.values al) in
      let same : scene.values al + 0 ≡ scene.values al = omega arith in
      sym (mod-eq_of_lt few ∙ same);
  nodes = omega arith;
  depth = omega arith;
  truths = omega arith;
  reads = All-contains_itself (al ∷ []);
  addresses = All-nil (Contains []);
}

first_rule_answers : RuleAnswers 1 sum_with_zero (Some x)
first_rule_answers = record {
  simpler = λ other e. let same : x ≡ other = cc in subst (λ it. IsSimpler sum_with_zero it) same sum_with_zero_is_simpler;
  form = λ _ _. ((λ e. cc), (λ e. cc));
}

-- a rule has to answer where the expression has its form, and may not where it hasn't
first_rule_answers_each : ¬ RuleAnswers 1 sum_with_zero None
first_rule_answers_each p = let e = (p.form (omega arith) (omega arith)).0 refl in cc

second_rule_is_silent : ¬ RuleAnswers 2 sum_with_zero (Some x)
second_rule_is_silent p = let e = (p.form (omega arith) (omega arith)).1 refl in cc

-- as many nodes, and another location
nothing_is_simpler_than_itself : ¬ IsSimpler x x
nothing_is_simpler_than_itself p = absurd (omega (arith, p.nodes))

only_at : (k : ℕ) → k < 1 → slice_index_or (al ∷ []) k cl ≡ cl → al ≡ cl
only_at zero few is = is
only_at (suc k) few is = absurd (omega (arith, few))

other_location_is_not_simpler : ¬ IsSimpler sum_with_zero y
other_location_is_not_simpler p =
    let has : Contains (al ∷ []) cl = p.reads 0 cl (omega arith) in
    let same = only_at has.0 has.1 has.2 in cc
