-- The calls of INT 21h (Microsoft MS-DOS Programmer's Reference, functions 01h, 02h, 08h, 09h and 4Ch). Registers and
-- flags of which nothing is said stay as they are.
use Rattle.std.specs.Prelude.{ℕ, ◌+◌, ◌/◌, ◌%◌, ◌==◌, Bool, true, false, not, if◌then◌else◌, List, [], ◌∷◌, ◌++◌, map}
use Rattle.std.specs.List.{range_with_len, take_while}
use Rattle.dcc_run.specs.End.{Exit, Outside}
use Rattle.dcc_run.specs.Event.{Event, Took, MetEnd, writes}
use Rattle.dcc_num.specs.declared.Reg.TheVariants.{Ax, Dx}
use Rattle.dcc_num.specs.declared.dos.TheConstants.{GETCHE, PUTC, GETCH, PUTS, EXIT, END_OF_INPUT, STRING_END}
use Rattle.dcc_num.specs.declared.dos.TheConstants.{STRING_MOST}
use Rattle.dcc_machine.specs.Machine.{State, word_in, data_segment, byte_in}
use Rattle.dcc_machine.specs.Operations.{with_end, with_al}

-- the bytes in a segment from an offset on, which wraps, `count` of them
unfoldable pub bytes_from : State → ℕ → ℕ → ℕ → List ℕ
bytes_from s segment offset count =
    map (λ k. byte_in s segment ((offset + k) % 65536)) (range_with_len 0 count)

-- whether a byte is another than the `$` that ends a string
abbrev pub is_not_dollar : ℕ → Bool
is_not_dollar byte = not (byte == STRING_END)

-- the bytes from DS:DX on up to the first `$`, which is not one of them, and at most 65,536
unfoldable pub dos_string : State → List ℕ
dos_string s = take_while is_not_dollar (bytes_from s (data_segment s) (word_in s Dx) STRING_MOST)

-- the state after these events at the console
abbrev pub after_events : List Event → State → State
after_events happened s = record s { events = s.events ++ happened }

-- the state after these bytes were written
abbrev pub after_write : List ℕ → State → State
after_write bytes s = after_events (writes bytes) s

-- a byte is taken, and where it is echoed, it is written after that
abbrev pub key_events : Bool → ℕ → List Event
key_events echo byte = Took byte ∷ writes (if echo then byte ∷ [] else [])

-- AL takes the next of the input bytes that are left; where there is none, the input's end is met, and AL takes 1Ah
abbrev pub with_key : Bool → List ℕ → State → State
with_key echo [] s = after_events (MetEnd ∷ []) (with_al END_OF_INPUT s)
with_key echo (byte ∷ rest) s = after_events (key_events echo byte) (with_al byte (record s { input = rest }))

abbrev pub key_step : Bool → State → State
key_step echo s = with_key echo s.input s

-- INT 21h with this number in AH: 02h writes DL, 4Ch ends the run with the exit code in AL, 01h takes a key and echoes
-- it, 08h takes a key, 09h writes the string at DS:DX. Another number ends the run too
abbrev pub dos_step : ℕ → ℕ → State → State
dos_step number at s =
    if number == PUTC then after_write (word_in s Dx % 256 ∷ []) s
    else if number == EXIT then with_end (Exit (word_in s Ax % 256)) at s
    else if number == GETCHE then key_step true s
    else if number == GETCH then key_step false s
    else if number == PUTS then after_write (dos_string s) s
    else with_end (Outside at) at s

-- INT 21h of the instruction at this offset
abbrev pub dos_call : ℕ → State → State
dos_call at s = dos_step (word_in s Ax / 256) at s
