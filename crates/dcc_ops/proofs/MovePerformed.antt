-- MOV and XCHG: their statements do to the run what they do to the machine. Between halves they go half by half; that
-- leaves what going through temporaries leaves, but for temporaries.
use Rattle.std.proofs.Common.{◌≡◌, ◌∙◌, sym, ap, refl, subst, ℕ, ◌+◌, ◌*◌, ◌/◌, ◌%◌, ◌^◌, ◌<◌, Bool, true, false, ◌&&◌, ◌==◌, List, [], ◌∷◌, ◌++◌, arith, true≢false}
use Rattle.std.specs.Prelude.{if◌then◌else◌}
use Rattle.std.proofs.lemmas.Bool.{and_parts, and_right}
use Rattle.dcc_run.specs.End.{Running, is_over}
use Rattle.dcc_num.specs.declared.Width.{Width}
use Rattle.dcc_num.specs.declared.Width.TheVariants.{Byte as byte_width, Word as word_width}
use Rattle.dcc_num.specs.declared.Reg.{Reg}
use Rattle.dcc_num.specs.declared.Half.{Half as HalfName}
use Rattle.dcc_num.specs.declared.Half.TheVariants.{Low, High}
use Rattle.dcc_num.specs.Numbers.{bits_of, limit_of}
use Rattle.dcc_machine.specs.declared.instr.Operand.{Operand}
use Rattle.dcc_machine.specs.declared.instr.Operand.TheVariants.{Word, Byte, Seg, Mem, Const as Constant}
use Rattle.dcc_machine.specs.Machine.{State as Machine, operand_value, operand_width, with_operand, is_general}
use Rattle.dcc_machine.specs.Operations.{mov_step, xchg_step}
use Rattle.dcc_machine.specs.WellFormed.{AreOperands}
use Rattle.dcc_ir.specs.declared.syntax.Loc.{Loc}
use Rattle.dcc_ir.specs.declared.syntax.Loc.TheVariants.{Half, Flag, Cell, Temp}
use Rattle.dcc_ir.specs.Location.{register_number, half_number, flag_number, same_location, location_width, Values, with_value}
use Rattle.dcc_ir.specs.Tree.{Expr, Get, Part}
use Rattle.dcc_ir.specs.Value.{Fits}
use Rattle.dcc_ir.specs.Run.{State, scene_of, value_in, setting, storing as store, execute}
use Rattle.dcc_ir.proofs.ExecuteLaws.{execute-append}
use Rattle.dcc_ops.specs.Temporaries.{left_place, right_place, is_temporary_of}
use Rattle.dcc_ops.specs.OperandPlace.{OperandPlace, constant, byte, word, memory, address, computed, taking, storing, is_half, is_low, is_high, is_sound_place}
use Rattle.dcc_ops.specs.Registers.{is_register, is_source, register_place}
use Rattle.dcc_ops.specs.Expressions.{left, right}
use Rattle.dcc_ops.specs.Statements.{operands_taking, mov_stmts, exchanging, xchg_stmts}
use Rattle.dcc_ops.specs.Coupling.{Relation, with_values, IsCoupling, IsRead, IsWritten}
use Rattle.dcc_ir.proofs.LocationLaws.{location_same}
use Rattle.dcc_ops.proofs.SceneLaws.{fits_taking}
use Rattle.dcc_ops.proofs.CouplingLaws.{sets_run, is_temporary, left_is, right_is, Took, Holding, respects, temporary_set, half_set, word_set, half_below, register_value, register_read, register_written, took, both_took}

-- Locations.

number_itself : (n : ℕ) → (n == n) ≡ true
number_itself n = grind arith

both_true : (a b : Bool) → a ≡ true → b ≡ true → (a && b) ≡ true
both_true true b p q = q
both_true false b p q = p

location_itself : (l : Loc) → same_location l l ≡ true
location_itself (Half r h) =
    both_true (register_number r == register_number r) (half_number h == half_number h)
    (number_itself (register_number r)) (number_itself (half_number h))
location_itself (Cell n h) =
    both_true (n == n) (half_number h == half_number h) (number_itself n) (number_itself (half_number h))
location_itself (Flag f) = number_itself (flag_number f)
location_itself (Temp n) = number_itself n

-- two locations that are not one, the other way round
turned : (a b : Loc) → same_location a b ≡ false → same_location b a ≡ false
turned a b apart = elim (same_location b a) as (λ x. same_location b a ≡ x → x ≡ false) [
  | true ↦ λ e. absurd (true≢false (sym (location_itself a) ∙ sym (ap (same_location a) (location_same b a e)) ∙ apart))
  | false ↦ λ _. refl
] refl

-- no location is both
never_both : (l a b : Loc) → same_location a b ≡ false → (same_location l a && same_location l b) ≡ false
never_both l a b apart = elim (same_location l a) as (λ x. same_location l a ≡ x → (x && same_location l b) ≡ false) [
  | true ↦ λ e. ap (λ x. same_location x b) (location_same l a e) ∙ apart
  | false ↦ λ _. refl
] refl

-- a low half is no high one
low_high : (l h : Loc) → is_low l ≡ true → is_high h ≡ true → same_location l h ≡ false
low_high (Half r Low) (Half q High) a b = and_right (register_number r == register_number q) false refl
low_high (Half r Low) (Cell n High) a b = refl
low_high (Cell n Low) (Half q High) a b = refl
low_high (Cell n Low) (Cell m High) a b = and_right (n == m) false refl
low_high (Half r High) h a b = absurd (true≢false (sym a))
low_high (Cell n High) h a b = absurd (true≢false (sym a))
low_high (Flag f) h a b = absurd (true≢false (sym a))
low_high (Temp n) h a b = absurd (true≢false (sym a))
low_high (Half r Low) (Half q Low) a b = absurd (true≢false (sym b))
low_high (Half r Low) (Cell n Low) a b = absurd (true≢false (sym b))
low_high (Half r Low) (Flag f) a b = absurd (true≢false (sym b))
low_high (Half r Low) (Temp n) a b = absurd (true≢false (sym b))
low_high (Cell n Low) (Half q Low) a b = absurd (true≢false (sym b))
low_high (Cell n Low) (Cell m Low) a b = absurd (true≢false (sym b))
low_high (Cell n Low) (Flag f) a b = absurd (true≢false (sym b))
low_high (Cell n Low) (Temp m) a b = absurd (true≢false (sym b))

low_half : (l : Loc) → is_low l ≡ true → is_half l ≡ true
low_half (Half r Low) a = refl
low_half (Cell n Low) a = refl
low_half (Half r High) a = refl
low_half (Cell n High) a = refl
low_half (Flag f) a = a
low_half (Temp n) a = a

high_half : (l : Loc) → is_high l ≡ true → is_half l ≡ true
high_half (Half r Low) a = refl
high_half (Cell n Low) a = refl
high_half (Half r High) a = refl
high_half (Cell n High) a = refl
high_half (Flag f) a = a
high_half (Temp n) a = a

half_width : (bits : List ℕ) (l : Loc) → is_half l ≡ true → location_width bits l ≡ 8
half_width bits (Half r h) a = refl
half_width bits (Cell n h) a = refl
half_width bits (Flag f) a = absurd (true≢false (sym a))
half_width bits (Temp n) a = absurd (true≢false (sym a))

-- no temporary is a half, and what is none is not one
temporary_half : (n : ℕ) (l : Loc) → is_half l ≡ true → same_location (Temp n) l ≡ false
temporary_half n (Half r h) a = refl
temporary_half n (Cell m h) a = refl
temporary_half n (Flag f) a = absurd (true≢false (sym a))
temporary_half n (Temp m) a = absurd (true≢false (sym a))

not_temporary : (l : Loc) (n : ℕ) → is_temporary l ≡ false → same_location l (Temp n) ≡ false
not_temporary (Half r h) n own = refl
not_temporary (Cell m h) n own = refl
not_temporary (Flag f) n own = refl
not_temporary (Temp m) n own = absurd (true≢false own)

half_no_temporary : (l : Loc) → is_half l ≡ true → is_temporary l ≡ false
half_no_temporary (Half r h) a = refl
half_no_temporary (Cell n h) a = refl
half_no_temporary (Flag f) a = absurd (true≢false (sym a))
half_no_temporary (Temp n) a = absurd (true≢false (sym a))

left_taken : (w : Width) (values : Values) (a : ℕ) → with_value values (left_place w) a (left_place w) ≡ a
left_taken byte_width values a = refl
left_taken word_width values a = refl

pub register_source : (x : Operand) → is_register x ≡ true → is_source x ≡ true
register_source (Word r) g = g
register_source (Byte r half) g = g
register_source (Seg number) g = g
register_source (Mem w ea) g = g
register_source (Constant w n) g = refl

-- Values.

-- a value by a choice
abbrev pub put : Bool → ℕ → ℕ → ℕ
put b x y = if b then x else y

reordered : (a b : Bool) (x y z : ℕ) → (a && b) ≡ false → put a x (put b y z) ≡ put b y (put a x z)
reordered true true x y z never = absurd (true≢false never)
reordered true false x y z never = refl
reordered false true x y z never = refl
reordered false false x y z never = refl

-- a value besides a temporary
skipped : (values : Values) (n v : ℕ) (l : Loc) → is_temporary l ≡ false → with_value values (Temp n) v l ≡ values l
skipped values n v l own = ap (λ b. put b v (values l)) (not_temporary l n own)

held_stays : (values : Values) (n v : ℕ) (l : Loc) → is_half l ≡ true → with_value values l v (Temp n) ≡ values (Temp n)
held_stays values n v l half = ap (λ b. put b v (values (Temp n))) (temporary_half n l half)

low_byte : (high low : ℕ) → low < 256 → high < 256 → low ≡ (high * 256 + low) / 2 ^ 0 % 2 ^ 8
low_byte high low small less = omega (arith, small, less)

high_byte : (high low : ℕ) → low < 256 → high < 256 → high ≡ (high * 256 + low) / 2 ^ 8 % 2 ^ 8
high_byte high low small less = omega (arith, small, less)

word_small : (high low : ℕ) → low < 256 → high < 256 → high * 256 + low < 65536
word_small high low small less = omega (arith, small, less)

word_joined : (n : ℕ) → n / 256 * 256 + n % 256 ≡ n
word_joined n = omega arith

upper_small : (n : ℕ) → n < 65536 → n / 256 < 256
upper_small n small = omega (arith, small)

lower_small : (n : ℕ) → n % 256 < 256
lower_small n = omega arith

-- Storing leaves temporaries.

storing_keeps : (p : OperandPlace) (e : Expr) (t : State) (n : ℕ) → is_sound_place p ≡ true → t.end ≡ Running
    → (execute (storing p e) t).running.values (Temp n) ≡ t.running.values (Temp n)
storing_keeps (constant w k) e t n sound running = refl
storing_keeps (address distance) e t n sound running = refl
storing_keeps (computed sum) e t n sound running = refl
storing_keeps (memory w at) e t n sound running =
    ap (λ end. (if is_over end then t else store (bits_of w) (value_in t at) (value_in t e) t).running.values (Temp n))
    running
storing_keeps (byte l) e t n sound running =
    ap (λ (u : State). u.running.values (Temp n)) (sets_run (storing (byte l) e) t refl running)
    ∙ held_stays t.running.values n (value_in t e) l sound
storing_keeps (word low high) e t n sound running =
    let halves = and_parts (is_low low) (is_high high) sound in
    let first = with_value t.running.values low (value_in t (Part 8 0 e)) in
    ap (λ (u : State). u.running.values (Temp n)) (sets_run (storing (word low high) e) t refl running)
    ∙ held_stays first n (value_in (setting low (value_in t (Part 8 0 e)) t) (Part 8 8 e)) high
    (high_half high halves.1)
    ∙ held_stays t.running.values n (value_in t (Part 8 0 e)) low (low_half low halves.0)

left_kept : (w : Width) (p : OperandPlace) (e : Expr) (t : State) → is_sound_place p ≡ true → t.end ≡ Running
    → (execute (storing p e) t).running.values (left_place w) ≡ t.running.values (left_place w)
left_kept byte_width p e t sound running = storing_keeps p e t 0 sound running
left_kept word_width p e t sound running = storing_keeps p e t 3 sound running

module _ (R After : Relation) (coupling : IsCoupling R) (after : IsCoupling After) where
  half_small : (s : Machine) (t : State) (l : Loc) → is_half l ≡ true → R s t → t.running.values l < 256
  half_small s t l half rel =
      subst (λ k. t.running.values l < 2 ^ k) (half_width t.running.graph.bits l half)
      ((coupling.fits s t rel).values l)

  half_fits : (t : State) (values : Values) (l : Loc) (v : ℕ) → is_half l ≡ true → v < 256
      → Fits (scene_of (with_values values t)) → Fits (scene_of (with_values (with_value values l v) t))
  half_fits t values l v half small fits =
      fits_taking (scene_of (with_values values t)) l v
      (subst (λ k. v < 2 ^ k) (sym (half_width t.running.graph.bits l half)) small) fits

  byte_temporary : (s : Machine) (t : State) (values : Values) (v : ℕ) → v < 256
      → Fits (scene_of (with_values values t)) → R s t → Fits (scene_of (with_values (with_value values (Temp 0) v) t))
  byte_temporary s t values v small fits rel =
      fits_taking (scene_of (with_values values t)) (Temp 0) v
      (subst (λ xs. v < 2 ^ location_width xs (Temp 0)) (sym (coupling.bits s t rel)) small) fits

  -- an operand that stands at a half takes a byte
  direct_byte : (s : Machine) (t : State) (x : Operand) (l : Loc) (v : ℕ) → IsWritten R After s x (byte l) → v < 256
      → R s t → After (with_operand s x v) (setting l v t)
  direct_byte s t x l v written small rel =
      let held = setting (Temp 0) v t in
      let rel' : R s held = temporary_set R coupling s t byte_width (Temp 0) v refl small rel in
      let stored : After (with_operand s x v) (setting l v held)
      = subst (After (with_operand s x v))
      (sets_run (storing (byte l) (Get (Temp 0))) held refl (coupling.running s held rel'))
      (written.taken s.flags held (Temp 0) rel' (subst (λ w. is_temporary_of w (Temp 0) ≡ true) written.width refl)) in
      respects After after (with_operand s x v) (setting l v held) (with_value t.running.values l v)
      (λ location own. ap (put (same_location location l) v) (sym (skipped t.running.values 0 v location own)))
      (half_fits t t.running.values l v written.sound small (coupling.fits s t rel)) stored

  -- one that stands at two takes a word
  direct_word : (s : Machine) (t : State) (x : Operand) (l h : Loc) (low high : ℕ) → IsWritten R After s x (word l h)
      → low < 256 → high < 256 → R s t
      → After (with_operand s x (high * 256 + low)) (setting h high (setting l low t))
  direct_word s t x l h low high written small less rel =
      let v = high * 256 + low in
      let halves = and_parts (is_low l) (is_high h) written.sound in
      let values = t.running.values in
      let held = setting (Temp 3) v t in
      let rel' : R s held =
      temporary_set R coupling s t word_width (Temp 3) v refl (word_small high low small less) rel in
      let a = v / 2 ^ 0 % 2 ^ 8 in
      let b = with_value held.running.values l a (Temp 3) / 2 ^ 8 % 2 ^ 8 in
      let first : low ≡ a = low_byte high low small less in
      let second : high ≡ b = high_byte high low small less
      ∙ ap (λ n. n / 2 ^ 8 % 2 ^ 8) (sym (held_stays held.running.values 3 a l (low_half l halves.0))) in
      let stored : After (with_operand s x v) (setting h b (setting l a held))
      = subst (After (with_operand s x v))
      (sets_run (storing (word l h) (Get (Temp 3))) held refl (coupling.running s held rel'))
      (written.taken s.flags held (Temp 3) rel' (subst (λ w. is_temporary_of w (Temp 3) ≡ true) written.width refl)) in
      respects After after (with_operand s x v) (setting h b (setting l a held))
      (with_value (with_value values l low) h high)
      (λ location own. ap (λ n. put (same_location location h) n (put (same_location location l) low (values location)))
      second
      ∙ ap (λ n. put (same_location location h) b (put (same_location location l) n (values location))) first
      ∙ ap (λ n. put (same_location location h) b (put (same_location location l) a n))
      (sym (skipped values 3 v location own)))
      (half_fits t (with_value values l low) h high (high_half h halves.1) less
      (half_fits t values l low (low_half l halves.0) small (coupling.fits s t rel))) stored

  -- MOV

  module _ (to from : Operand) (s : Machine) (t : State) (are : AreOperands to from) (rel : R s t) where
    source_below : (q : OperandPlace) → IsRead R s from q → operand_value s from < limit_of (operand_width to)
    source_below q read = subst (λ w. operand_value s from < limit_of w) (sym are.widths) (read.small s.flags t rel)

    moved : (v : ℕ) (u : State) → v ≡ operand_value s from → After (with_operand s to v) u
        → After (mov_step to from s) u
    moved v u e done = subst (λ n. After (with_operand s to n) u) e done

    mov_bytes : (l m : Loc) → IsRead R s from (byte m) → is_half m ≡ true → IsWritten R After s to (byte l)
        → After (mov_step to from s) (execute (mov_stmts (operand_width to) (byte l) (byte m)) t)
    mov_bytes l m read half written =
        subst (After (mov_step to from s))
        (sym (sets_run (mov_stmts (operand_width to) (byte l) (byte m)) t refl (coupling.running s t rel)))
        (moved (t.running.values m) (setting l (t.running.values m) t) (read.value s.flags t rel)
        (direct_byte s t to l (t.running.values m) written (half_small s t m half rel) rel))

    mov_byte : (l : Loc) (w : Width) (n : ℕ) → IsRead R s from (constant w n) → IsWritten R After s to (byte l)
        → After (mov_step to from s) (execute (mov_stmts (operand_width to) (byte l) (constant w n)) t)
    mov_byte l w n read written =
        let e : n ≡ operand_value s from = read.value s.flags t rel in
        let small : n < 256 = subst (λ v. n < limit_of v) (sym written.width)
        (subst (λ k. k < limit_of (operand_width to)) (sym e) (source_below (constant w n) read)) in
        subst (After (mov_step to from s))
        (sym (sets_run (mov_stmts (operand_width to) (byte l) (constant w n)) t refl (coupling.running s t rel)))
        (moved n (setting l n t) e (direct_byte s t to l n written small rel))

    mov_words : (l h m k : Loc) → IsRead R s from (word m k) → (is_low m && is_high k) ≡ true
        → IsWritten R After s to (word l h)
        → After (mov_step to from s) (execute (mov_stmts (operand_width to) (word l h) (word m k)) t)
    mov_words l h m k read sound written =
        let values = t.running.values in
        let source = and_parts (is_low m) (is_high k) sound in
        let target = and_parts (is_low l) (is_high h) written.sound in
        let e : values k * 256 + values m ≡ operand_value s from
        = ap (λ n. values k * 2 ^ n + values m) (sym (half_width t.running.graph.bits m (low_half m source.0)))
        ∙ read.value s.flags t rel in
        let kept : with_value values l (values m) k ≡ values k =
        ap (λ b. put b (values m) (values k)) (turned l k (low_high l k target.0 source.1)) in
        subst (After (mov_step to from s))
        (sym (sets_run (mov_stmts (operand_width to) (word l h) (word m k)) t refl (coupling.running s t rel)
        ∙ ap (λ n. setting h n (setting l (values m) t)) kept))
        (moved (values k * 256 + values m) (setting h (values k) (setting l (values m) t)) e
        (direct_word s t to l h (values m) (values k) written (half_small s t m (low_half m source.0) rel)
        (half_small s t k (high_half k source.1) rel) rel))

    mov_word : (l h : Loc) (w : Width) (n : ℕ) → IsRead R s from (constant w n) → IsWritten R After s to (word l h)
        → After (mov_step to from s) (execute (mov_stmts (operand_width to) (word l h) (constant w n)) t)
    mov_word l h w n read written =
        let e : n ≡ operand_value s from = read.value s.flags t rel in
        let small : n < 65536 = subst (λ v. n < limit_of v) (sym written.width)
        (subst (λ k. k < limit_of (operand_width to)) (sym e) (source_below (constant w n) read)) in
        subst (After (mov_step to from s))
        (sym (sets_run (mov_stmts (operand_width to) (word l h) (constant w n)) t refl (coupling.running s t rel)))
        (moved (n / 256 * 256 + n % 256) (setting h (n / 256) (setting l (n % 256) t)) (word_joined n ∙ e)
        (direct_word s t to l h (n % 256) (n / 256) written (lower_small n) (upper_small n small) rel))

    mov_through : (p q : OperandPlace) → IsRead R s from q → IsWritten R After s to p
        → After (mov_step to from s)
        (execute (taking (left_place (operand_width to)) q ∷ storing p (left (operand_width to))) t)
    mov_through p q read written =
        let w = operand_width to in
        let u = execute (taking (left_place w) q ∷ []) t in
        let one : Took R s t u (left_place w) (operand_value s from) =
        took R coupling s t w from q (left_place w) read (sym are.widths) (left_is w) rel in
        let held : u.running.values (left_place w) ≡ operand_value s from =
        ap (λ (f : Values). f (left_place w)) one.values ∙ left_taken w t.running.values (operand_value s from) in
        subst (After (mov_step to from s)) (sym (execute-append (taking (left_place w) q ∷ []) (storing p (left w)) t))
        (moved (u.running.values (left_place w)) (execute (storing p (left w)) u) held
        (written.taken s.flags u (left_place w) one.stands (left_is w)))

    pub mov_performed : (p q : OperandPlace) → IsRead R s from q → is_sound_place q ≡ true → IsWritten R After s to p
        → After (mov_step to from s) (execute (mov_stmts (operand_width to) p q) t)
    mov_performed (byte l) (byte m) read sound written = mov_bytes l m read sound written
    mov_performed (byte l) (constant w n) read sound written = mov_byte l w n read written
    mov_performed (word l h) (word m k) read sound written = mov_words l h m k read sound written
    mov_performed (word l h) (constant w n) read sound written = mov_word l h w n read written
    mov_performed p q read sound written = mov_through p q read written

  -- XCHG

  module _ (a b : Operand) (s : Machine) (t : State) (are : AreOperands a b) (g : is_register b ≡ true) (rel : R s t)
    where
      xchg_through : (p : OperandPlace) → IsRead R s a p → IsWritten R After s a p
          → After (xchg_step a b s)
          (execute (operands_taking (operand_width a) p (register_place b)
          ++ (storing p (right (operand_width a)) ++ storing (register_place b) (left (operand_width a)))) t)
      xchg_through p read written =
          let w = operand_width a in
          let q = register_place b in
          let m = operand_value s a in
          let n = operand_value s b in
          let u = execute (operands_taking w p q) t in
          let hold : Holding R w s u m n =
          both_took R coupling s t w a b p q read (register_read R coupling s b (register_source b g) are.second) refl
          (sym are.widths) rel in
          let v = execute (storing p (right w)) u in
          let one : After (with_operand s a n) v =
          subst (λ k. After (with_operand s a k) v) hold.right
          (written.taken s.flags u (right_place w) hold.stands (right_is w)) in
          let held : v.running.values (left_place w) ≡ m =
          left_kept w p (right w) u written.sound (coupling.running s u hold.stands) ∙ hold.left in
          let first = with_operand s a n in
          let two : After (with_operand first b (v.running.values (left_place w))) (execute (storing q (left w)) v)
          = (register_written After after first b g).taken first.flags v (left_place w) one
          (subst (λ k. is_temporary_of k (left_place w) ≡ true) are.widths (left_is w)) in
          subst (After (xchg_step a b s))
          (sym (execute-append (operands_taking w p q) (storing p (right w) ++ storing q (left w)) t
          ∙ execute-append (storing p (right w)) (storing q (left w)) u))
          (subst (λ k. After (with_operand first b k) (execute (storing q (left w)) v)) held two)

  xchg_bytes : (a : Operand) (r : Reg) (half : HalfName) (l : Loc) (s : Machine) (t : State) → is_general r ≡ true
      → IsRead R s a (byte l) → IsWritten R After s a (byte l) → R s t
      → After (xchg_step a (Byte r half) s) (execute (exchanging l (Half r half)) t)
  xchg_bytes a r half l s t g read written rel =
      let values = t.running.values in
      let m = Half r half in
      let first : values m ≡ operand_value s (Byte r half) = register_value R coupling s t (Byte r half) g rel in
      let second : values l ≡ operand_value s a = read.value s.flags t rel in
      let small : values m < 256 = half_below R coupling s t r half rel in
      let less : values l < 256 = half_small s t l written.sound rel in
      let one : After (with_operand s a (values m)) (setting l (values m) t) =
      direct_byte s t a l (values m) written small rel in
      let two : After (with_operand (with_operand s a (values m)) (Byte r half) (values l))
      (setting m (values l) (setting l (values m) t))
      = half_set After after (with_operand s a (values m)) (setting l (values m) t) r half (values l) g less one in
      let both : After (xchg_step a (Byte r half) s) (setting m (values l) (setting l (values m) t))
      = subst (λ n. After (with_operand (with_operand s a n) (Byte r half) (operand_value s a))
      (setting m (values l) (setting l (values m) t))) first
      (subst (λ n. After (with_operand (with_operand s a (values m)) (Byte r half) n)
      (setting m (values l) (setting l (values m) t))) second two) in
      let held = with_value values (Temp 0) (values l) in
      let z = with_value held l (values m) (Temp 0) in
      let back : z ≡ values l = held_stays held 0 (values m) l written.sound in
      let kept : R s (setting (Temp 0) (values l) t) =
      temporary_set R coupling s t byte_width (Temp 0) (values l) refl less rel in
      subst (After (xchg_step a (Byte r half) s)) (sym (sets_run (exchanging l m) t refl (coupling.running s t rel)))
      (respects After after (xchg_step a (Byte r half) s) (setting m (values l) (setting l (values m) t))
      (with_value (with_value held l (values m)) m z)
      (λ location own. ap
      (λ n. put (same_location location m) n (put (same_location location l) (values m) (held location))) back
      ∙ ap (λ n. put (same_location location m) (values l) (put (same_location location l) (values m) n))
      (skipped values 0 (values l) location own))
      (half_fits t (with_value held l (values m)) m z refl (subst (λ n. n < 256) (sym back) less)
      (half_fits t held l (values m) written.sound small (coupling.fits s (setting (Temp 0) (values l) t) kept))) both)

  xchg_words : (a : Operand) (r : Reg) (l h : Loc) (s : Machine) (t : State) → is_general r ≡ true
      → IsRead R s a (word l h) → IsWritten R After s a (word l h) → R s t
      → After (xchg_step a (Word r) s) (execute (exchanging l (Half r Low) ++ exchanging h (Half r High)) t)
  xchg_words a r l h s t g read written rel =
      let values = t.running.values in
      let m = Half r Low in
      let k = Half r High in
      let halves = and_parts (is_low l) (is_high h) written.sound in
      let low = low_half l halves.0 in
      let high = high_half h halves.1 in
      let vl = values l in
      let vh = values h in
      let vm = values m in
      let vk = values k in
      let first : vk * 256 + vm ≡ operand_value s (Word r) = register_value R coupling s t (Word r) g rel in
      let second : vh * 256 + vl ≡ operand_value s a =
      ap (λ n. vh * 2 ^ n + vl) (sym (half_width t.running.graph.bits l low)) ∙ read.value s.flags t rel in
      let small : vl < 256 = half_small s t l low rel in
      let less : vh < 256 = half_small s t h high rel in
      let begun = with_operand s a (vk * 256 + vm) in
      let one : After begun (setting h vk (setting l vm t)) =
      direct_word s t a l h vm vk written (half_below R coupling s t r Low rel) (half_below R coupling s t r High rel)
      rel in
      let target = setting k vh (setting m vl (setting h vk (setting l vm t))) in
      let two : After (with_operand begun (Word r) (vh * 256 + vl)) target =
      word_set After after begun (setting h vk (setting l vm t)) r (vh * 256 + vl) vl vh g small less refl one in
      let both : After (xchg_step a (Word r) s) target =
      subst (λ n. After (with_operand (with_operand s a n) (Word r) (operand_value s a)) target) first
      (subst (λ n. After (with_operand begun (Word r) n) target) second two) in
      let w0 = with_value values (Temp 0) vl in
      let w1 = with_value w0 l vm in
      let z1 = w1 (Temp 0) in
      let w2 = with_value w1 m z1 in
      let z2 = w2 h in
      let w3 = with_value w2 (Temp 0) z2 in
      let z3 = w3 k in
      let w4 = with_value w3 h z3 in
      let z4 = w4 (Temp 0) in
      let w5 = with_value w4 k z4 in
      let h_m : same_location h m ≡ false = turned m h (low_high m h refl halves.1) in
      let h_l : same_location h l ≡ false = turned l h (low_high l h halves.0 halves.1) in
      let k_m : same_location k m ≡ false = turned m k (low_high m k refl refl) in
      let k_l : same_location k l ≡ false = turned l k (low_high l k halves.0 refl) in
      let e1 : z1 ≡ vl = held_stays w0 0 vm l low in
      let e2 : z2 ≡ vh = ap (λ x. put x z1 (w1 h)) h_m ∙ ap (λ x. put x vm (w0 h)) h_l
      ∙ skipped values 0 vl h (half_no_temporary h high) in
      let e3 : z3 ≡ vk = ap (λ x. put x z1 (w1 k)) k_m ∙ ap (λ x. put x vm (w0 k)) k_l in
      let e4 : z4 ≡ vh = held_stays w3 0 z3 h high ∙ e2 in
      let fits0 =
      coupling.fits s (setting (Temp 0) vl t) (temporary_set R coupling s t byte_width (Temp 0) vl refl small rel) in
      let fits2 : Fits (scene_of (with_values w2 t)) =
      half_fits t w1 m z1 refl (subst (λ n. n < 256) (sym e1) small)
      (half_fits t w0 l vm low (half_below R coupling s t r Low rel) fits0) in
      let fits3 : Fits (scene_of (with_values w3 t)) =
      byte_temporary s t w2 z2 (subst (λ n. n < 256) (sym e2) less) fits2 rel in
      let fits5 : Fits (scene_of (with_values w5 t)) = half_fits t w4 k z4 refl (subst (λ n. n < 256) (sym e4) less)
      (half_fits t w3 h z3 high (subst (λ n. n < 256) (sym e3) (half_below R coupling s t r High rel)) fits3) in
      subst (After (xchg_step a (Word r) s))
      (sym (sets_run (exchanging l m ++ exchanging h k) t refl (coupling.running s t rel)))
      (respects After after (xchg_step a (Word r) s) target w5 (λ x own.
      ap (λ n. put (same_location x k) n (w4 x)) e4
      ∙ ap (λ n. put (same_location x k) vh (put (same_location x h) n (w3 x))) e3
      ∙ ap (λ n. put (same_location x k) vh (put (same_location x h) vk n)) (skipped w2 0 z2 x own)
      ∙ ap (λ n. put (same_location x k) vh (put (same_location x h) vk (put (same_location x m) n (w1 x)))) e1
      ∙ ap (λ n. put (same_location x k) vh
      (put (same_location x h) vk (put (same_location x m) vl (put (same_location x l) vm n))))
      (skipped values 0 vl x own)
      ∙ ap (put (same_location x k) vh)
      (reordered (same_location x h) (same_location x m) vk vl (put (same_location x l) vm (values x))
      (never_both x h m h_m)))
      fits5 both)

  pub xchg_performed : (a b : Operand) (p : OperandPlace) (s : Machine) (t : State) → AreOperands a b → is_register b
      ≡ true
      → IsRead R s a p → IsWritten R After s a p → R s t
      → After (xchg_step a b s) (execute (xchg_stmts (operand_width a) p (register_place b)) t)
  xchg_performed a (Byte r half) (byte l) s t are g read written rel = xchg_bytes a r half l s t g read written rel
  xchg_performed a (Word r) (word l h) s t are g read written rel = xchg_words a r l h s t g read written rel
  xchg_performed a (Seg n) p s t are g read written rel = absurd (true≢false (sym g))
  xchg_performed a (Mem w ea) p s t are g read written rel = absurd (true≢false (sym g))
  xchg_performed a (Constant w n) p s t are g read written rel = absurd (true≢false (sym g))
  xchg_performed a b p s t are g read written rel = xchg_through a b s t are g rel p read written
