-- The statements that move a word to a place of the frame leave what the place takes, but for a temporary.
use Rattle.std.proofs.Common.{◌≡◌, ◌<◌, ℕ, ◌+◌, ◌*◌, ◌/◌, ◌%◌, ◌^◌, true, false, true≢false, ◌&&◌, ◌==◌, List, [], ◌∷◌, refl, sym, ap, ap₂, ◌∙◌, subst, arith}
use Rattle.std.specs.Prelude.{ℤ, if◌then◌else◌}
use Rattle.std.proofs.lemmas.Bool.{and_parts, and_right}
use Rattle.dcc_run.specs.End.{Running}
use Rattle.dcc_num.specs.declared.Width.TheVariants.{Word as word_width}
use Rattle.dcc_num.specs.declared.Half.TheVariants.{Low, High}
use Rattle.dcc_num.specs.Numbers.{limit_of}
use Rattle.dcc_machine.specs.declared.instr.Operand.{Operand}
use Rattle.dcc_machine.specs.Machine.{State as Machine, operand_value, operand_width}
use Rattle.dcc_ir.specs.declared.syntax.Loc.{Loc}
use Rattle.dcc_ir.specs.declared.syntax.Loc.TheVariants.{Half, Flag, Cell as CellHalf, Temp}
use Rattle.dcc_ir.specs.Location.{Values, location_width, with_value}
use Rattle.dcc_ir.specs.Run.{State, setting, execute}
use Rattle.dcc_ir.proofs.ExecuteLaws.{execute-append}
use Rattle.dcc_ops.specs.Temporaries.{left_place}
use Rattle.dcc_ops.specs.OperandPlace.{OperandPlace, constant, byte, word, memory, address, computed, taking, storing, is_low, is_high, is_sound_place}
use Rattle.dcc_ops.specs.Expressions.{left}
use Rattle.dcc_ops.specs.Statements.{mov_stmts}
use Rattle.dcc_ops.specs.Coupling.{Relation, IsCoupling, IsRead}
use Rattle.dcc_ops.proofs.CouplingLaws.{sets_run, left_is, Took, took}
use Rattle.dcc_simulation.specs.Coupled.{Setting}
use Rattle.dcc_simulation.specs.Places.{IsFramePlace, in_cell, in_memory, taken}
use Rattle.dcc_simulation.proofs.PlacesWritten.{frame-runs}

-- a high half stays where a low half of a cell is set
high-stays : (values : Values) (number v : ℕ) (l : Loc) → is_high l ≡ true
    → with_value values (CellHalf number Low) v l ≡ values l
high-stays values number v (Half r High) so = refl
high-stays values number v (CellHalf n High) so =
    ap (λ b. if b then v else values (CellHalf n High)) (and_right (n == number) false refl)
high-stays values number v (Half r Low) so = absurd (true≢false (sym so))
high-stays values number v (CellHalf n Low) so = absurd (true≢false (sym so))
high-stays values number v (Flag flag) so = absurd (true≢false (sym so))
high-stays values number v (Temp n) so = absurd (true≢false (sym so))

low-wide : (bits : List ℕ) (l : Loc) → is_low l ≡ true → location_width bits l ≡ 8
low-wide bits (Half r Low) so = refl
low-wide bits (CellHalf n Low) so = refl
low-wide bits (Half r High) so = absurd (true≢false (sym so))
low-wide bits (CellHalf n High) so = absurd (true≢false (sym so))
low-wide bits (Flag flag) so = absurd (true≢false (sym so))
low-wide bits (Temp n) so = absurd (true≢false (sym so))

low-byte : (high low v : ℕ) → low < 256 → high * 256 + low ≡ v → low ≡ v % 256
low-byte high low v small is = omega (arith, small, is)

high-byte : (high low v : ℕ) → low < 256 → high * 256 + low ≡ v → high ≡ v / 256
high-byte high low v small is = omega (arith, small, is)

-- the place takes a value in a state that the relation holds of too
pub record IsMoved (R : Relation) (s : Machine) (place : OperandPlace) (v : ℕ) (after : State) : Type 0 where
  pub from : State
  pub stands : R s from
  pub is : after ≡ taken place v from

module _ (R : Relation) (coupling : IsCoupling R) (s : Machine) (x : Operand) (wide : operand_width x ≡ word_width)
    (t : State) (rel : R s t) where
  abbrev v : ℕ
  v = operand_value s x

  running : t.end ≡ Running
  running = coupling.running s t rel

  halves-moved : (number : ℕ) (l h : Loc) → IsRead R s x (word l h) → (is_low l && is_high h) ≡ true
      → execute (mov_stmts word_width (word (CellHalf number Low) (CellHalf number High)) (word l h)) t
      ≡ taken (word (CellHalf number Low) (CellHalf number High)) (operand_value s x) t
  halves-moved number l h read sound =
      let values = t.running.values in
      let both = and_parts (is_low l) (is_high h) sound in
      let eight = low-wide t.running.graph.bits l both.0 in
      let small : values l < 256 = subst (λ n. values l < 2 ^ n) eight ((coupling.fits s t rel).values l) in
      let whole : values h * 256 + values l ≡ v =
      ap (λ n. values h * 2 ^ n + values l) (sym eight) ∙ read.value s.flags t rel in
      sets_run (mov_stmts word_width (word (CellHalf number Low) (CellHalf number High)) (word l h)) t refl running
      ∙ ap (λ n. setting (CellHalf number High) n (setting (CellHalf number Low) (values l) t))
      (high-stays values number (values l) h both.1)
      ∙ ap₂ (λ n m. setting (CellHalf number High) n (setting (CellHalf number Low) m t))
      (high-byte (values h) (values l) v small whole) (low-byte (values h) (values l) v small whole)

  module _ (e : Setting) (entry : ℕ) (k : ℤ) where
    through : (p q : OperandPlace) → IsFramePlace e entry k word_width p → IsRead R s x q
        → IsMoved R s p (operand_value s x)
        (execute (taking (left_place word_width) q ∷ storing p (left word_width)) t)
    through p q at read =
        let u = execute (taking (left_place word_width) q ∷ []) t in
        let one : Took R s t u (left_place word_width) v =
        took R coupling s t word_width x q (left_place word_width) read wide (left_is word_width) rel in
        let held : u.running.values (left_place word_width) ≡ v =
        ap (λ (f : Values). f (left_place word_width)) one.values in
        let small : v < 65536 =
        subst (λ w. operand_value s x < limit_of w) wide (read.small s.flags t rel) in
        record {
          from = u;
          stands = one.stands;
          is =
              execute-append (taking (left_place word_width) q ∷ []) (storing p (left word_width)) t
              ∙ frame-runs e entry k word_width p (left_place word_width) u at (left_is word_width)
              (coupling.running s u one.stands) (subst (λ n. n < 65536) (sym held) small)
              ∙ ap (λ n. taken p n u) held;
        }

    pub word-moved : (p q : OperandPlace) → IsFramePlace e entry k word_width p → IsRead R s x q → is_sound_place q
        ≡ true
        → IsMoved R s p (operand_value s x) (execute (mov_stmts word_width p q) t)
    word-moved _ (word l h) (in_cell {number = number} low high) read sound =
        record { from = t; stands = rel; is = halves-moved number l h read sound }
    word-moved _ (constant w n) (in_cell {number = number} low high) read sound = record {
      from = t;
      stands = rel;
      is =
          sets_run (mov_stmts word_width (word (CellHalf number Low) (CellHalf number High)) (constant w n)) t refl
          running
          ∙ ap (λ m. taken (word (CellHalf number Low) (CellHalf number High)) m t) (read.value s.flags t rel);
    }
    word-moved p (byte l) (in_cell low high) read sound = through p (byte l) (in_cell low high) read
    word-moved p (memory w at) (in_cell low high) read sound = through p (memory w at) (in_cell low high) read
    word-moved p (address distance) (in_cell low high) read sound =
        through p (address distance) (in_cell low high) read
    word-moved p (computed sum) (in_cell low high) read sound = through p (computed sum) (in_cell low high) read
    word-moved p q (in_memory placed) read sound = through p q (in_memory placed) read
