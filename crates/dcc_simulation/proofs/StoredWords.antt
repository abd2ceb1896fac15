-- A word that is stored below SP, byte by byte.
use Rattle.std.proofs.Common.{◌≡◌, ℕ, ◌+◌, ◌/◌, ◌%◌, refl, sym, ap, ap₂, ◌∙◌, arith}
use Rattle.std.specs.Prelude.{if◌then◌else◌, slice_set}
use Rattle.std.proofs.lemmas.Bool.{eq-eqb}
use Rattle.dcc_num.specs.declared.Width.TheVariants.{Word as word_width}
use Rattle.dcc_num.specs.declared.Reg.TheVariants.{Sp}
use Rattle.dcc_machine.specs.Machine.{State as Machine, word_in, with_word_in, with_word_at_offset, stack_segment, physical}
use Rattle.dcc_machine.specs.Operations.{after_push}
use Rattle.dcc_machine.specs.StateForm.{IsState}
use Rattle.dcc_machine.specs.Access.{stored}
use Rattle.dcc_machine.proofs.LocationKept.{word-taken}
use Rattle.dcc_stack.specs.SlotLaws.{stores_at}
use Rattle.dcc_simulation.specs.Places.{bytes_from, offsets_of}
use Rattle.dcc_simulation.proofs.FrameBytes.{not-equal}

-- a word is stored in two bytes
two-stored : (u : Machine) (segment offset v base first : ℕ) → physical segment offset ≡ base + (first + 0)
    → physical segment ((offset + 1) % 65536) ≡ base + (first + 1)
    → with_word_at_offset u segment offset v
    ≡ record u {
      memory =
          stored (stores_at (λ n. base + n) (offsets_of word_width (λ index. first + index)) (bytes_from first v))
          u.memory;
    }
two-stored u segment offset v base first low high =
    ap₂ (λ n m. record u { memory = slice_set (slice_set u.memory n (v % 256)) m (v / 256) }) low high
    ∙ ap₂ (λ x y. record u { memory = slice_set (slice_set u.memory (base + (first + 0)) x) (base + (first + 1)) y })
    (sym (ap (λ b. if b then v % 256 else v / 256) (eq-eqb (first + 0) first (omega arith))))
    (sym (ap (λ b. if b then v % 256 else v / 256) (not-equal (first + 1) first (λ same. omega (arith, same)))))

-- a push with SP and the offsets told
pub pushed-is : (s : Machine) (v sp base first : ℕ) → IsState s → (word_in s Sp + 65534) % 65536 ≡ sp
    → physical (stack_segment s) sp ≡ base + (first + 0)
    → physical (stack_segment s) ((sp + 1) % 65536) ≡ base + (first + 1)
    → after_push v s
    ≡ record (with_word_in s Sp sp) {
      memory =
          stored (stores_at (λ n. base + n) (offsets_of word_width (λ index. first + index)) (bytes_from first v))
          s.memory;
    }
pushed-is s v sp base first form falls low high =
    ap (λ n. with_word_at_offset (with_word_in s Sp n) (stack_segment s) (word_in (with_word_in s Sp n) Sp) v) falls
    ∙ ap (λ n. with_word_at_offset (with_word_in s Sp sp) (stack_segment s) n v)
    (word-taken s Sp Sp sp form.registers.count refl)
    ∙ two-stored (with_word_in s Sp sp) (stack_segment s) sp v base first low high
