-- What a coupling allows, in the forms in which operations need it: statements on temporaries and flags, halves and
-- words of registers, operands that are taken, and results that are stored.
use Rattle.std.proofs.Common.{◌≡◌, ◌∙◌, sym, ap, refl, subst, ℕ, ◌+◌, ◌*◌, ◌/◌, ◌%◌, ◌^◌, ◌<◌, Bool, true, false, ◌&&◌, List, [], ◌∷◌, ◌++◌, arith, true≢false, eqb-true}
use Rattle.std.specs.Prelude.{if◌then◌else◌, get_or}
use Rattle.std.specs.List.{list_all}
use Rattle.std.proofs.lemmas.Bool.{and_parts}
use Rattle.dcc_run.specs.End.{Running, is_over}
use Rattle.dcc_num.specs.declared.Width.{Width}
use Rattle.dcc_num.specs.declared.Width.TheVariants.{Byte as byte_width, Word as word_width}
use Rattle.dcc_num.specs.declared.Reg.{Reg}
use Rattle.dcc_num.specs.declared.Half.{Half as HalfName}
use Rattle.dcc_num.specs.declared.Half.TheVariants.{Low, High}
use Rattle.dcc_num.specs.declared.FlagName.TheVariants.{Cf, Zf, Sf, Of}
use Rattle.dcc_num.specs.declared.Flags.{Flags}
use Rattle.dcc_num.specs.Numbers.{bits_of, limit_of}
use Rattle.dcc_machine.specs.declared.instr.Operand.{Operand}
use Rattle.dcc_machine.specs.declared.instr.Operand.TheVariants.{Word, Byte, Seg, Mem, Const as Constant}
use Rattle.dcc_machine.specs.Machine.{State as Machine, word_with_half, word_in, with_word_in, operand_value, operand_width, with_operand, is_general}
use Rattle.dcc_machine.specs.Operations.{with_flags, with_result}
use Rattle.dcc_machine.specs.WellFormed.{IsOperand}
use Rattle.dcc_ir.specs.declared.syntax.Loc.{Loc}
use Rattle.dcc_ir.specs.declared.syntax.Loc.TheVariants.{Half, Flag, Cell, Temp}
use Rattle.dcc_ir.specs.Location.{same_location, Values, with_value}
use Rattle.dcc_ir.specs.Tree.{Get, Stmt, Set, Fetch, Store, Div, Call, Dos}
use Rattle.dcc_ir.specs.Value.{Environment, value_of, Fits}
use Rattle.dcc_ir.specs.WellFormed.{is_stmt}
use Rattle.dcc_ir.specs.Run.{State, scene_of, value_in, setting, execute}
use Rattle.dcc_ir.proofs.ExecuteLaws.{execute-append}
use Rattle.dcc_ops.specs.Temporaries.{temporary_bits, left_place, right_place, result_place, is_temporary_of}
use Rattle.dcc_ops.specs.OperandPlace.{OperandPlace, constant, byte, word, memory, address, computed, place_width, place_value, taking, storing}
use Rattle.dcc_ops.specs.Registers.{is_register, is_source, register_place}
use Rattle.dcc_ops.specs.Expressions.{result}
use Rattle.dcc_ops.specs.Statements.{operands_taking, word_taking}
use Rattle.dcc_ops.specs.Executed.{executed}
use Rattle.dcc_ops.specs.Coupling.{Relation, HoldFlags, is_scratch, with_values, IsCoupling, IsRead, IsWritten}
use Rattle.dcc_ops.proofs.SceneLaws.{fits_taking, values_fit, again_low, again_high}

-- Statements.

-- the statement sets a location
abbrev pub is_set : Stmt → Bool
is_set (Set location e) = true
is_set stmt = false

-- statements that set locations change values alone
pub sets_run : (stmts : List Stmt) (t : State) → list_all is_set stmts ≡ true → t.end ≡ Running
    → execute stmts t ≡ with_values (executed stmts (scene_of t)).values t
sets_run [] t ok running = refl
sets_run (Set location e ∷ stmts) t ok running =
    ap (λ end. if is_over end then t else execute stmts (setting location (value_in t e) t)) running
    ∙ sets_run stmts (setting location (value_in t e) t) ok running
sets_run (Fetch location width at ∷ stmts) t ok running = absurd (true≢false (sym ok))
sets_run (Store width at e ∷ stmts) t ok running = absurd (true≢false (sym ok))
sets_run (Div location e ∷ stmts) t ok running = absurd (true≢false (sym ok))
sets_run (Call results entry arguments depth ∷ stmts) t ok running = absurd (true≢false (sym ok))
sets_run (Dos number place argument ∷ stmts) t ok running = absurd (true≢false (sym ok))

-- the statement sets a temporary or a flag, and is well formed
abbrev pub sets_scratch : Stmt → Bool
sets_scratch (Set location e) = is_scratch location && is_stmt temporary_bits (Set location e)
sets_scratch stmt = false

scratch_sets : (stmts : List Stmt) → list_all sets_scratch stmts ≡ true → list_all is_set stmts ≡ true
scratch_sets [] ok = refl
scratch_sets (Set location e ∷ stmts) ok =
    scratch_sets stmts (and_parts (sets_scratch (Set location e)) (list_all sets_scratch stmts) ok).1
scratch_sets (Fetch location width at ∷ stmts) ok = absurd (true≢false (sym ok))
scratch_sets (Store width at e ∷ stmts) ok = absurd (true≢false (sym ok))
scratch_sets (Div location e ∷ stmts) ok = absurd (true≢false (sym ok))
scratch_sets (Call results entry arguments depth ∷ stmts) ok = absurd (true≢false (sym ok))
scratch_sets (Dos number place argument ∷ stmts) ok = absurd (true≢false (sym ok))

both : (a b : Bool) → a ≡ true → b ≡ true → (a && b) ≡ true
both true b p q = q
both false b p q = p

scratch_formed : (stmts : List Stmt) → list_all sets_scratch stmts ≡ true
    → list_all (is_stmt temporary_bits) stmts ≡ true
scratch_formed [] ok = refl
scratch_formed (Set location e ∷ stmts) ok =
    let parts = and_parts (sets_scratch (Set location e)) (list_all sets_scratch stmts) ok in
    let one = and_parts (is_scratch location) (is_stmt temporary_bits (Set location e)) parts.0 in
    both (is_stmt temporary_bits (Set location e)) (list_all (is_stmt temporary_bits) stmts) one.1
    (scratch_formed stmts parts.1)
scratch_formed (Fetch location width at ∷ stmts) ok = absurd (true≢false (sym ok))
scratch_formed (Store width at e ∷ stmts) ok = absurd (true≢false (sym ok))
scratch_formed (Div location e ∷ stmts) ok = absurd (true≢false (sym ok))
scratch_formed (Call results entry arguments depth ∷ stmts) ok = absurd (true≢false (sym ok))
scratch_formed (Dos number place argument ∷ stmts) ok = absurd (true≢false (sym ok))

-- other locations are none of these
pub apart : (location to : Loc) → is_scratch location ≡ false → is_scratch to ≡ true → same_location location to ≡ false
apart (Half r h) (Flag f) own s = refl
apart (Half r h) (Temp n) own s = refl
apart (Half r h) (Half q k) own s = absurd (true≢false (sym s))
apart (Half r h) (Cell n k) own s = absurd (true≢false (sym s))
apart (Cell m h) (Flag f) own s = refl
apart (Cell m h) (Temp n) own s = refl
apart (Cell m h) (Half q k) own s = absurd (true≢false (sym s))
apart (Cell m h) (Cell n k) own s = absurd (true≢false (sym s))
apart (Flag f) to own s = absurd (true≢false own)
apart (Temp n) to own s = absurd (true≢false own)

scratch_kept : (stmts : List Stmt) (scene : Environment) → list_all sets_scratch stmts ≡ true → (location : Loc)
    → is_scratch location ≡ false
    → (executed stmts scene).values location ≡ scene.values location
scratch_kept [] scene ok location own = refl
scratch_kept (Set to e ∷ stmts) scene ok location own =
    let parts = and_parts (sets_scratch (Set to e)) (list_all sets_scratch stmts) ok in
    let one = and_parts (is_scratch to) (is_stmt temporary_bits (Set to e)) parts.0 in
    scratch_kept stmts (record scene { values = with_value scene.values to (value_of scene e) }) parts.1 location own
    ∙ ap (λ b. if b then value_of scene e else scene.values location) (apart location to own one.0)
scratch_kept (Fetch to width at ∷ stmts) scene ok location own = absurd (true≢false (sym ok))
scratch_kept (Store width at e ∷ stmts) scene ok location own = absurd (true≢false (sym ok))
scratch_kept (Div to e ∷ stmts) scene ok location own = absurd (true≢false (sym ok))
scratch_kept (Call results entry arguments depth ∷ stmts) scene ok location own = absurd (true≢false (sym ok))
scratch_kept (Dos number place argument ∷ stmts) scene ok location own = absurd (true≢false (sym ok))

scratch_fit : (stmts : List Stmt) (t : State) → list_all sets_scratch stmts ≡ true
    → t.running.graph.bits ≡ temporary_bits → Fits (scene_of t)
    → Fits (scene_of (with_values (executed stmts (scene_of t)).values t))
scratch_fit stmts t ok bits fits =
    values_fit stmts (scene_of t)
    (subst (λ xs. list_all (is_stmt xs) stmts ≡ true) (sym bits) (scratch_formed stmts ok)) fits

-- a temporary
abbrev pub is_temporary : Loc → Bool
is_temporary (Temp n) = true
is_temporary location = false

no_temporary : (location : Loc) → is_scratch location ≡ false → is_temporary location ≡ false
no_temporary (Half r h) own = refl
no_temporary (Cell n h) own = refl
no_temporary (Flag f) own = absurd (true≢false own)
no_temporary (Temp n) own = absurd (true≢false own)

pub left_is : (w : Width) → is_temporary_of w (left_place w) ≡ true
left_is byte_width = refl
left_is word_width = refl

pub right_is : (w : Width) → is_temporary_of w (right_place w) ≡ true
right_is byte_width = refl
right_is word_width = refl

pub result_is : (w : Width) → is_temporary_of w (result_place w) ≡ true
result_is byte_width = refl
result_is word_width = refl

pub left_stays : (w : Width) (values : Values) (a b : ℕ)
    → with_value (with_value values (left_place w) a) (right_place w) b (left_place w) ≡ a
left_stays byte_width values a b = refl
left_stays word_width values a b = refl

pub right_taken : (w : Width) (values : Values) (b : ℕ) → with_value values (right_place w) b (right_place w) ≡ b
right_taken byte_width values b = refl
right_taken word_width values b = refl

-- a place is taken by one statement
pub taking_is : (to : Loc) (p : OperandPlace) (t : State) → t.end ≡ Running
    → execute (taking to p ∷ []) t ≡ setting to (value_in t (place_value p)) t
taking_is to (constant w n) t running =
    ap (λ end. if is_over end then t else setting to (value_in t (place_value (constant w n))) t) running
taking_is to (byte location) t running =
    ap (λ end. if is_over end then t else setting to (value_in t (place_value (byte location))) t) running
taking_is to (word low high) t running =
    ap (λ end. if is_over end then t else setting to (value_in t (place_value (word low high))) t) running
taking_is to (memory w at) t running =
    ap (λ end. if is_over end then t else setting to (value_in t (place_value (memory w at))) t) running
taking_is to (address distance) t running =
    ap (λ end. if is_over end then t else setting to (value_in t (place_value (address distance))) t) running
taking_is to (computed e) t running =
    ap (λ end. if is_over end then t else setting to (value_in t (place_value (computed e))) t) running

-- Numbers.

pub byte_below : (n : ℕ) → n % 256 < 256
byte_below n = omega arith

-- the bytes of a word
pub word_bytes : (v : ℕ) → v < 65536 → v ≡ v / 2 ^ 8 % 2 ^ 8 * 256 + v / 2 ^ 0 % 2 ^ 8
word_bytes v small = omega arith

low_of : (w high low : ℕ) → low < 256 → w ≡ high * 256 + low → w % 256 ≡ low
low_of w high low small e = omega (arith, small, e)

high_of : (w high low : ℕ) → low < 256 → w ≡ high * 256 + low → w / 256 ≡ high
high_of w high low small e = omega (arith, small, e)

with_low : (w high low v : ℕ) → low < 256 → w ≡ high * 256 + low → w / 256 * 256 + v ≡ high * 256 + v
with_low w high low v small e = ap (λ k. k * 256 + v) (high_of w high low small e)

with_high : (w high low v : ℕ) → low < 256 → w ≡ high * 256 + low → v * 256 + w % 256 ≡ v * 256 + low
with_high w high low v small e = ap (λ k. v * 256 + k) (low_of w high low small e)

word_below : (w high low : ℕ) → low < 256 → high < 256 → w ≡ high * 256 + low → w < 65536
word_below w high low small less e = omega (arith, small, less, e)

-- What is made.

-- the result and the flags of an operation
pub record Working (w : Width) (outcome : ℕ × Flags) (after : Environment) : Type 0 where
  pub value : after.values (result_place w) ≡ outcome.0
  pub flags : HoldFlags outcome.1 after.values

-- an operand was taken
pub record Took (R : Relation) (s : Machine) (t u : State) (to : Loc) (v : ℕ) : Type 0 where
  pub stands : R s u
  pub values : u.running.values ≡ with_value t.running.values to v

-- the left and the right operand were taken
pub record Holding (R : Relation) (w : Width) (s : Machine) (u : State) (a b : ℕ) : Type 0 where
  pub stands : R s u
  pub left : u.running.values (left_place w) ≡ a
  pub right : u.running.values (right_place w) ≡ b

module _ (R : Relation) (coupling : IsCoupling R) where
  -- statements on temporaries and flags
  pub worked_on : (stmts : List Stmt) (s : Machine) (t : State) (f : Flags) → list_all sets_scratch stmts ≡ true
      → HoldFlags f (executed stmts (scene_of t)).values → R s t
      → R (with_flags f s) (execute stmts t)
  worked_on stmts s t f ok hold rel =
      subst (R (with_flags f s)) (sym (sets_run stmts t (scratch_sets stmts ok) (coupling.running s t rel)))
      (coupling.scratch s t f (executed stmts (scene_of t)).values rel (scratch_kept stmts (scene_of t) ok) hold
      (scratch_fit stmts t ok (coupling.bits s t rel) (coupling.fits s t rel)))

  pub sets_values : (stmts : List Stmt) (s : Machine) (t : State) → list_all is_set stmts ≡ true → R s t
      → (execute stmts t).running.values ≡ (executed stmts (scene_of t)).values
  sets_values stmts s t ok rel = ap (λ (u : State). u.running.values) (sets_run stmts t ok (coupling.running s t rel))

  pub scratch_values : (stmts : List Stmt) (s : Machine) (t : State) → list_all sets_scratch stmts ≡ true → R s t
      → (execute stmts t).running.values ≡ (executed stmts (scene_of t)).values
  scratch_values stmts s t ok rel = sets_values stmts s t (scratch_sets stmts ok) rel

  -- values that agree but for temporaries
  pub respects : (s : Machine) (t : State) (values : Values)
      → ((location : Loc) → is_temporary location ≡ false → values location ≡ t.running.values location)
      → Fits (scene_of (with_values values t)) → R s t → R s (with_values values t)
  respects s t values same fits rel =
      let h = coupling.flags s t rel in
      coupling.scratch s t s.flags values rel (λ location own. same location (no_temporary location own))
      (record {
        carry = same (Flag Cf) refl ∙ h.carry;
        zero = same (Flag Zf) refl ∙ h.zero;
        negative =
            same (Flag Sf) refl ∙ h.negative;
        overflow = same (Flag Of) refl ∙ h.overflow;
      }) fits

  -- a temporary takes a value of its width
  pub temporary_set : (s : Machine) (t : State) (w : Width) (to : Loc) (v : ℕ) → is_temporary_of w to ≡ true
      → v < limit_of w → R s t → R s (setting to v t)
  temporary_set s t w (Temp n) v is small rel =
      let h = coupling.flags s t rel in
      let width : get_or t.running.graph.bits n 0 ≡ bits_of w = ap (λ xs. get_or xs n 0) (coupling.bits s t rel)
      ∙ eqb-true (get_or temporary_bits n 0) (bits_of w) is in
      coupling.scratch s t s.flags (with_value t.running.values (Temp n) v) rel
      (λ location own. ap (λ b. if b then v else t.running.values location) (apart location (Temp n) own refl))
      (record { carry = h.carry; zero = h.zero; negative = h.negative; overflow = h.overflow })
      (fits_taking (scene_of t) (Temp n) v (subst (λ k. v < 2 ^ k) (sym width) small) (coupling.fits s t rel))
  temporary_set s t w (Half r h) v is small rel = absurd (true≢false (sym is))
  temporary_set s t w (Cell n h) v is small rel = absurd (true≢false (sym is))
  temporary_set s t w (Flag f) v is small rel = absurd (true≢false (sym is))

  -- what a temporary holds fits it
  pub held_below : (s : Machine) (t : State) (w : Width) (from : Loc) → is_temporary_of w from ≡ true → R s t
      → t.running.values from < limit_of w
  held_below s t w (Temp n) is rel =
      let width : get_or t.running.graph.bits n 0 ≡ bits_of w = ap (λ xs. get_or xs n 0) (coupling.bits s t rel)
      ∙ eqb-true (get_or temporary_bits n 0) (bits_of w) is in
      subst (λ k. t.running.values (Temp n) < 2 ^ k) width ((coupling.fits s t rel).values (Temp n))
  held_below s t w (Half r h) is rel = absurd (true≢false (sym is))
  held_below s t w (Cell n h) is rel = absurd (true≢false (sym is))
  held_below s t w (Flag f) is rel = absurd (true≢false (sym is))

  -- Registers.

  pub half_below : (s : Machine) (t : State) (r : Reg) (h : HalfName) → R s t → t.running.values (Half r h) < 256
  half_below s t r h rel = (coupling.fits s t rel).values (Half r h)

  -- a general register takes a word
  pub word_set : (s : Machine) (t : State) (r : Reg) (v low high : ℕ) → is_general r ≡ true → low < 256 → high < 256
      → v ≡ high * 256 + low → R s t
      → R (with_word_in s r v) (setting (Half r High) high (setting (Half r Low) low t))
  word_set s t r v low high g small less e rel =
      subst (λ n. R (with_word_in s r n) (setting (Half r High) high (setting (Half r Low) low t))) (sym e)
      (coupling.general s t r low high rel g small less)

  -- one of its halves takes a byte
  pub half_set : (s : Machine) (t : State) (r : Reg) (h : HalfName) (v : ℕ) → is_general r ≡ true → v < 256 → R s t
      → R (with_operand s (Byte r h) v) (setting (Half r h) v t)
  half_set s t r Low v g small rel =
      let values = t.running.values in
      let word = with_low (word_in s r) (values (Half r High)) (values (Half r Low)) v (half_below s t r Low rel)
      (coupling.words s t r rel g) in
      respects (with_word_in s r (word_with_half Low (word_in s r) v))
      (setting (Half r High) (values (Half r High)) (setting (Half r Low) v t)) (with_value values (Half r Low) v)
      (λ location _. sym (again_low values r v location))
      (fits_taking (scene_of t) (Half r Low) v small (coupling.fits s t rel))
      (word_set s t r (word_with_half Low (word_in s r) v) v (values (Half r High)) g small (half_below s t r High rel)
      word rel)
  half_set s t r High v g small rel =
      let values = t.running.values in
      let word = with_high (word_in s r) (values (Half r High)) (values (Half r Low)) v (half_below s t r Low rel)
      (coupling.words s t r rel g) in
      respects (with_word_in s r (word_with_half High (word_in s r) v))
      (setting (Half r High) v (setting (Half r Low) (values (Half r Low)) t)) (with_value values (Half r High) v)
      (λ location _. sym (again_high values r v location))
      (fits_taking (scene_of t) (Half r High) v small (coupling.fits s t rel))
      (word_set s t r (word_with_half High (word_in s r) v) (values (Half r Low)) v g (half_below s t r Low rel)
      small word rel)

  -- a general register takes two bytes of a temporary
  pub register_taken : (s : Machine) (t : State) (r : Reg) (first n v : ℕ) → is_general r ≡ true
      → v ≡ t.running.values (Temp n) / 2 ^ (8 + first) % 2 ^ 8 * 256 + t.running.values (Temp n) / 2 ^ first % 2 ^ 8
      → R s t
      → R (with_word_in s r v) (execute (word_taking r first (Get (Temp n))) t)
  register_taken s t r first n v g e rel =
      subst (R (with_word_in s r v))
      (sym (sets_run (word_taking r first (Get (Temp n))) t refl (coupling.running s t rel)))
      (word_set s t r v (t.running.values (Temp n) / 2 ^ first % 2 ^ 8)
      (t.running.values (Temp n) / 2 ^ (8 + first) % 2 ^ 8) g (byte_below (t.running.values (Temp n) / 2 ^ first))
      (byte_below (t.running.values (Temp n) / 2 ^ (8 + first))) e rel)

  -- a half takes a temporary
  half_taken : (s : Machine) (t : State) (r : Reg) (h : HalfName) (n : ℕ) → is_general r ≡ true
      → t.running.values (Temp n) < 256 → R s t
      → R (with_operand s (Byte r h) (t.running.values (Temp n))) (execute (storing (byte (Half r h)) (Get (Temp n))) t)
  half_taken s t r h n g small rel =
      subst (R (with_operand s (Byte r h) (t.running.values (Temp n))))
      (sym (sets_run (storing (byte (Half r h)) (Get (Temp n))) t refl (coupling.running s t rel)))
      (half_set s t r h (t.running.values (Temp n)) g small rel)

  -- what registers and constants hold
  pub register_value : (s : Machine) (t : State) (x : Operand) → is_source x ≡ true → R s t
      → value_in t (place_value (register_place x)) ≡ operand_value s x
  register_value s t (Word r) g rel = sym (coupling.words s t r rel g)
  register_value s t (Byte r Low) g rel =
      sym (low_of (word_in s r) (t.running.values (Half r High)) (t.running.values (Half r Low))
      (half_below s t r Low rel) (coupling.words s t r rel g))
  register_value s t (Byte r High) g rel =
      sym (high_of (word_in s r) (t.running.values (Half r High)) (t.running.values (Half r Low))
      (half_below s t r Low rel) (coupling.words s t r rel g))
  register_value s t (Constant w n) g rel = refl
  register_value s t (Seg number) g rel = absurd (true≢false (sym g))
  register_value s t (Mem w ea) g rel = absurd (true≢false (sym g))

  pub register_small : (s : Machine) (t : State) (x : Operand) → is_source x ≡ true → IsOperand x → R s t
      → operand_value s x < limit_of (operand_width x)
  register_small s t (Word r) g ok rel =
      word_below (word_in s r) (t.running.values (Half r High)) (t.running.values (Half r Low))
      (half_below s t r Low rel) (half_below s t r High rel) (coupling.words s t r rel g)
  register_small s t (Byte r Low) g ok rel =
      subst (λ n. n < 256) (register_value s t (Byte r Low) g rel) (half_below s t r Low rel)
  register_small s t (Byte r High) g ok rel =
      subst (λ n. n < 256) (register_value s t (Byte r High) g rel) (half_below s t r High rel)
  register_small s t (Constant w n) g ok rel = ok
  register_small s t (Seg number) g ok rel = absurd (true≢false (sym g))
  register_small s t (Mem w ea) g ok rel = absurd (true≢false (sym g))

  -- flags are no part of it
  flags_apart : (s : Machine) (flags : Flags) (x : Operand) → is_source x ≡ true
      → operand_value (with_flags flags s) x ≡ operand_value s x
  flags_apart s flags (Word r) g = refl
  flags_apart s flags (Byte r h) g = refl
  flags_apart s flags (Constant w n) g = refl
  flags_apart s flags (Seg number) g = absurd (true≢false (sym g))
  flags_apart s flags (Mem w ea) g = absurd (true≢false (sym g))

  source_width : (x : Operand) → is_source x ≡ true → place_width (register_place x) ≡ operand_width x
  source_width (Word r) g = refl
  source_width (Byte r h) g = refl
  source_width (Constant w n) g = refl
  source_width (Seg number) g = absurd (true≢false (sym g))
  source_width (Mem w ea) g = absurd (true≢false (sym g))

  pub register_read : (s : Machine) (x : Operand) → is_source x ≡ true → IsOperand x → IsRead R s x (register_place x)
  register_read s x g ok = record {
    width = source_width x g;
    value = λ flags t rel. register_value (with_flags flags s) t x g rel ∙ flags_apart s flags x g;
    small = λ flags t rel. subst (λ n. n < limit_of (operand_width x)) (flags_apart s flags x g)
        (register_small (with_flags flags s) t x g ok rel);
  }

  -- a word register takes a temporary of a word, whatever the flags are
  word_written : (s : Machine) (r : Reg) (flags : Flags) (t : State) (from : Loc) → is_general r ≡ true
      → R (with_flags flags s) t → is_temporary_of word_width from ≡ true
      → R (with_operand (with_flags flags s) (Word r) (t.running.values from))
      (execute (storing (register_place (Word r)) (Get from)) t)
  word_written s r flags t (Temp n) g rel is =
      register_taken (with_flags flags s) t r 0 n (t.running.values (Temp n)) g
      (word_bytes (t.running.values (Temp n)) (held_below (with_flags flags s) t word_width (Temp n) is rel)) rel
  word_written s r flags t (Half q h) g rel is = absurd (true≢false (sym is))
  word_written s r flags t (Cell n h) g rel is = absurd (true≢false (sym is))
  word_written s r flags t (Flag f) g rel is = absurd (true≢false (sym is))

  byte_written : (s : Machine) (r : Reg) (half : HalfName) (flags : Flags) (t : State) (from : Loc)
      → is_general r ≡ true → R (with_flags flags s) t
      → is_temporary_of byte_width from ≡ true
      → R (with_operand (with_flags flags s) (Byte r half) (t.running.values from))
      (execute (storing (register_place (Byte r half)) (Get from)) t)
  byte_written s r half flags t (Temp n) g rel is =
      half_taken (with_flags flags s) t r half n g (held_below (with_flags flags s) t byte_width (Temp n) is rel) rel
  byte_written s r half flags t (Half q h) g rel is = absurd (true≢false (sym is))
  byte_written s r half flags t (Cell n h) g rel is = absurd (true≢false (sym is))
  byte_written s r half flags t (Flag f) g rel is = absurd (true≢false (sym is))

  pub register_written : (s : Machine) (x : Operand) → is_register x ≡ true → IsWritten R R s x (register_place x)
  register_written s (Word r) g =
      record { width = refl; sound = refl; taken = λ flags t from rel is. word_written s r flags t from g rel is }
  register_written s (Byte r half) g =
      record { width = refl; sound = refl; taken = λ flags t from rel is. byte_written s r half flags t from g rel is }
  register_written s (Constant w n) g = absurd (true≢false (sym g))
  register_written s (Seg number) g = absurd (true≢false (sym g))
  register_written s (Mem w ea) g = absurd (true≢false (sym g))

  -- Operands.

  pub took : (s : Machine) (t : State) (w : Width) (x : Operand) (p : OperandPlace) (to : Loc) → IsRead R s x p
      → operand_width x ≡ w → is_temporary_of w to ≡ true → R s t
      → Took R s t (execute (taking to p ∷ []) t) to (operand_value s x)
  took s t w x p to read width is rel =
      let v = operand_value s x in
      let run : execute (taking to p ∷ []) t ≡ setting to v t = taking_is to p t (coupling.running s t rel)
      ∙ ap (λ n. setting to n t) (read.value s.flags t rel) in
      let small : v < limit_of w = subst (λ u. v < limit_of u) width (read.small s.flags t rel) in
      record {
        stands = subst (R s) (sym run) (temporary_set s t w to v is small rel);
        values =
            ap (λ (u : State). u.running.values) run;
      }

  pub both_took : (s : Machine) (t : State) (w : Width) (x y : Operand) (p q : OperandPlace) → IsRead R s x p
      → IsRead R s y q
      → operand_width x ≡ w → operand_width y ≡ w → R s t
      → Holding R w s (execute (operands_taking w p q) t) (operand_value s x) (operand_value s y)
  both_took s t w x y p q first second one other rel =
      let a = operand_value s x in
      let b = operand_value s y in
      let t1 = execute (taking (left_place w) p ∷ []) t in
      let t2 = execute (taking (right_place w) q ∷ []) t1 in
      let l = took s t w x p (left_place w) first one (left_is w) rel in
      let r = took s t1 w y q (right_place w) second other (right_is w) l.stands in
      subst (λ (u : State). Holding R w s u a b)
      (sym (execute-append (taking (left_place w) p ∷ []) (taking (right_place w) q ∷ []) t)) (record {
        stands = r.stands;
        left = ap (λ (f : Values). f (left_place w)) r.values
            ∙ ap (λ (f : Values). with_value f (right_place w) b (left_place w)) l.values
            ∙ left_stays w t.running.values a b;
        right = ap (λ (f : Values). f (right_place w)) r.values ∙ right_taken w t1.running.values b;
      })

  -- the destination takes the result
  pub finished : (After : Relation) (s : Machine) (u : State) (x : Operand) (p : OperandPlace) (stmts : List Stmt)
      (outcome : ℕ × Flags) → IsWritten R After s x p
      → list_all sets_scratch stmts ≡ true → Working (operand_width x) outcome (executed stmts (scene_of u)) → R s u
      → After (with_result x outcome s) (execute (stmts ++ storing p (result (operand_width x))) u)
  finished After s u x p stmts outcome written ok work rel =
      let w = operand_width x in
      let after = execute stmts u in
      let value : after.running.values (result_place w) ≡ outcome.0 =
      ap (λ (f : Values). f (result_place w)) (scratch_values stmts s u ok rel) ∙ work.value in
      let stored =
      written.taken outcome.1 after (result_place w) (worked_on stmts s u outcome.1 ok work.flags rel) (result_is w) in
      subst (After (with_result x outcome s)) (sym (execute-append stmts (storing p (result w)) u))
      (subst (λ n. After (with_operand (with_flags outcome.1 s) x n) (execute (storing p (Get (result_place w))) after))
      value stored)
