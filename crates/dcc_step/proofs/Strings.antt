-- The string that call 09h writes.
use Rattle.std.proofs.Common.{◌≡◌, ℕ, List, refl, ap, ◌∙◌}
use Rattle.dcc_num.specs.declared.Reg.TheVariants.{Dx}
use Rattle.dcc_machine.specs.Machine.{State, data_segment, word_in}
use Rattle.dcc_machine.specs.Dos.{bytes_from, dos_string}
use Rattle.dcc_console.specs.Strings.{string_room, string_in}

string_is : (m : State) → string_in m.memory (data_segment m) (word_in m Dx) ≡ dos_string m
unfolding string_in string_room dos_string bytes_from
string_is m = refl

-- the string that call 09h writes is the one at DS:DX
pub string_at : (m : State) (memory : List ℕ) (segment start : ℕ) → memory ≡ m.memory → segment ≡ data_segment m
    → start ≡ word_in m Dx → string_in memory segment start ≡ dos_string m
string_at m memory segment start held in_data at =
    ap (λ (xs : List ℕ). string_in xs segment start) held ∙ ap (λ n. string_in m.memory n start) in_data
    ∙ ap (string_in m.memory (data_segment m)) at ∙ string_is m
