-- How many events the machine has at most.
use Rattle.std.proofs.Common.{◌≡◌, ◌≢◌, ℕ, zero, suc, ◌+◌, ◌*◌, ◌/◌, ◌%◌, ◌-◌, ◌≤◌, Bool, true, false, List, [], ◌∷◌, ◌++◌, length, map, drop, Option, Some, None, refl, sym, ap, ◌∙◌, subst, arith, length-append, length-drop}
use Rattle.std.specs.Prelude.{if◌then◌else◌, ◌==◌, min}
use Rattle.std.specs.List.{take_while, prefix_len, range_with_len}
use Rattle.std.proofs.lemmas.List.{length-take}
use Rattle.std.proofs.lemmas.List.FromFn.{length-map-range_with_len}
use Rattle.dcc_run.specs.End.{is_over}
use Rattle.dcc_run.specs.Event.{Event, Wrote, Took, MetEnd, writes}
use Rattle.dcc_num.specs.declared.Reg.TheVariants.{Ax, Dx}
use Rattle.dcc_num.specs.declared.dos.TheConstants.{GETCHE, PUTC, GETCH, PUTS, EXIT}
use Rattle.dcc_machine.specs.declared.cpu.Cpu.{Cpu}
use Rattle.dcc_machine.specs.declared.instr.Op.{Op}
use Rattle.dcc_machine.specs.declared.instr.Op.TheVariants.{Int21}
use Rattle.dcc_machine.specs.declared.instr.Instr.{Instr}
use Rattle.dcc_machine.specs.Table.{instruction_at}
use Rattle.dcc_machine.specs.Machine.{State, word_in, data_segment, byte_in}
use Rattle.dcc_machine.specs.Dos.{dos_step, dos_string, bytes_from, is_not_dollar, with_key}
use Rattle.dcc_machine.specs.Step.{code_bytes, op_step, instruction_step, step, machine_system}
use Rattle.dcc_machine.proofs.ConsoleLaws.{op-keeps_events}
use Rattle.dcc_map.specs.Placed.{Placed, placed_at, step_events, placed_events}

take_while-few : (p : ℕ → Bool) (xs : List ℕ) → length (take_while p xs) ≤ length xs
take_while-few p xs =
    let few : length (take_while p xs) ≡ min (prefix_len p xs) (length xs) = length-take (prefix_len p xs) xs in
    omega (arith, few)

from-long : (s : State) (segment offset count : ℕ) → length (bytes_from s segment offset count) ≡ count
unfolding bytes_from
from-long s segment offset count = length-map-range_with_len (λ k. byte_in s segment ((offset + k) % 65536)) 0 count

string-few : (s : State) → length (dos_string s) ≤ 65536
unfolding dos_string
string-few s =
    subst (λ n. length (take_while is_not_dollar (bytes_from s (data_segment s) (word_in s Dx) 65536)) ≤ n)
    (from-long s (data_segment s) (word_in s Dx) 65536)
    (take_while-few is_not_dollar (bytes_from s (data_segment s) (word_in s Dx) 65536))

length-writes : (bytes : List ℕ) → length (writes bytes) ≡ length bytes
length-writes [] = refl
length-writes (b ∷ bytes) = ap suc (length-writes bytes)

-- at most 65,536 events more
abbrev IsFew : State → State → Type 0
IsFew s t = length t.events ≤ length s.events + 65536

same_few : (s t : State) → t.events ≡ s.events → IsFew s t
same_few s t same = let e : length t.events ≡ length s.events = ap (λ (l : List Event). length l) same in omega (arith, e)

either_few : (b : Bool) (s t u : State) → IsFew s t → IsFew s u → IsFew s (if b then t else u)
either_few true s t u p q = p
either_few false s t u p q = q

key_few : (echo : Bool) (input : List ℕ) (s : State) → IsFew s (with_key echo input s)
key_few echo [] s = let long = length-append s.events (MetEnd ∷ []) in omega (arith, long)
key_few true (byte ∷ rest) s = let long = length-append s.events (Took byte ∷ Wrote byte ∷ []) in omega (arith, long)
key_few false (byte ∷ rest) s = let long = length-append s.events (Took byte ∷ []) in omega (arith, long)

dos_few : (number at : ℕ) (s : State) → IsFew s (dos_step number at s)
dos_few number at s =
    let long = length-append s.events (writes (dos_string s)) in
    let one = length-append s.events (writes (word_in s Dx % 256 ∷ [])) in
    let many = length-writes (dos_string s) in
    let few = string-few s in
    let none : length s.events ≤ length s.events + 65536 = omega arith in
    let putc : length (s.events ++ writes (word_in s Dx % 256 ∷ [])) ≤ length s.events + 65536 = omega (arith, one) in
    let puts : length (s.events ++ writes (dos_string s)) ≤ length s.events + 65536 = omega (arith, long, many, few) in
    either_few (number == PUTC) s _ _ putc
    (either_few (number == EXIT) s _ _ none
    (either_few (number == GETCHE) s _ _ (key_few true s.input s)
    (either_few (number == GETCH) s _ _ (key_few false s.input s)
    (either_few (number == PUTS) s _ _ puts none))))

op_few : (cpu : Cpu) (op : Op) (at : ℕ) (s : State) → IsFew s (op_step cpu op at s)
op_few cpu Int21 at s = dos_few (word_in s Ax / 256) at s
op_few cpu op at s = same_few s (op_step cpu op at s) (op-keeps_events cpu op at (λ e. cc) s)

instruction_few : (cpu : Cpu) (found : Option Instr) (s : State) → IsFew s (instruction_step cpu found s)
instruction_few cpu None s = omega arith
instruction_few cpu (Some instr) s = op_few cpu instr.op s.ip (record s { ip = (s.ip + instr.len) % 65536 })

step_few : (cpu : Cpu) (s : State) → IsFew s (step cpu s)
step_few cpu s =
    either_few (is_over s.end) s s (instruction_step cpu (instruction_at cpu s.ip (code_bytes s)) s) (omega arith)
    (instruction_few cpu (instruction_at cpu s.ip (code_bytes s)) s)

length-placed : (at : ℕ) (events : List Event) → length (placed_at at events) ≡ length events
length-placed at [] = refl
length-placed at (e ∷ events) = ap suc (length-placed at events)

-- at most 65,536 a step
pub few_events : (cpu : Cpu) (place : State → ℕ) (n : ℕ) (s : State) → length (placed_events (machine_system cpu) place n s) ≤ 65536 * n
few_events cpu place zero s = omega arith
few_events cpu place (suc n) s =
    let happened : List Event = step_events (machine_system cpu) s in
    let t : State = step cpu s in
    let later = few_events cpu place n t in
    let long = length-append (placed_at (place s) happened) (placed_events (machine_system cpu) place n t) in
    let here = length-placed (place s) happened in
    let dropped = length-drop (length s.events) t.events in
    let few = step_few cpu s in
    omega (arith, later, long, here, dropped, few)
