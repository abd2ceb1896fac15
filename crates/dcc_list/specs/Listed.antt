-- The listing of a program's image: a line for each instruction of its prelude and its procedures, lines of the other
-- bytes, and lines for people.
use Rattle.std.specs.Prelude.{◌≡◌, ◌<◌, ◌≤◌, ◌⊎◌, ℕ, ◌+◌, ◌-◌, ◌*◌, ◌/◌, ◌%◌, ◌==◌, Bool, true, false, ◌&&◌, ◌||◌}
use Rattle.std.specs.Prelude.{nat_lt, nat_le, if◌then◌else◌, List, [], ◌∷◌, ◌++◌, length, take, drop, Option, Some}
use Rattle.std.specs.Prelude.{None}
use Rattle.std.specs.Prelude.{codes}
use Rattle.std.specs.List.{list_any}
use Rattle.std.specs.Fmt.{decimal, digit_glyph}
use Rattle.dcc_machine.specs.declared.image.Image.{Image}
use Rattle.dcc_machine.specs.declared.instr.Op.{Op}
use Rattle.dcc_machine.specs.declared.instr.Op.TheVariants.{Jump, Branch, Loop, LoopE, LoopNe, Jcxz, Table}
use Rattle.dcc_machine.specs.declared.instr.Instr.{Instr}
use Rattle.dcc_machine.specs.declared.cpu.Cpu.{Cpu}
use Rattle.dcc_machine.specs.Load.{load_segment}
use Rattle.dcc_machine.specs.Code.{code_of}
use Rattle.dcc_machine.specs.Table.{instruction_at}
use Rattle.dcc_prog.specs.declared.procedure.Layout.{Layout}
use Rattle.dcc_prog.specs.declared.procedure.Node.{Node}
use Rattle.dcc_prog.specs.declared.procedure.Proc.{Proc}
use Rattle.dcc_prog.specs.declared.frame.Frame.{Frame}
use Rattle.dcc_prog.specs.declared.frame.Program.{Program}
use Rattle.dcc_prog.specs.Layout.{IsPrelude}
use Rattle.dcc_encode.specs.Encoding.{IsStandard}
use Rattle.dcc_list.specs.Text.{comment_line, place_line, bytes_line, operation_line, odd_line, head_line, text_of}

-- What stands at an offset -------------------------------------------------------------------

-- the offsets at which instructions begin that stand one after another from an offset on
abbrev pub offsets_from : ℕ → List Instr → List ℕ
offsets_from at [] = []
offsets_from at (instr ∷ rest) = at ∷ offsets_from (at + instr.len) rest

abbrev pub is_among : ℕ → List ℕ → Bool
is_among at offsets = list_any (λ offset. offset == at) offsets

-- an instruction of the procedure begins at the offset
abbrev pub has_node : ℕ → Proc → Bool
has_node at proc = list_any (λ (node : ℕ × Node). node.0 == at) proc.nodes.entries

-- an instruction of the prelude or of a procedure begins at the offset
abbrev pub is_listed : Image → Program → List Instr → ℕ → Bool
is_listed image program prelude at =
    is_among at (offsets_from image.ip prelude) || list_any (has_node at) program.procs.items

-- the offsets to which an operation with these successors jumps
abbrev pub jump_targets : Op → List ℕ → List ℕ
jump_targets (Jump target) successors = target ∷ []
jump_targets (Branch condition target) successors = target ∷ []
jump_targets (Loop target) successors = target ∷ []
jump_targets (LoopE target) successors = target ∷ []
jump_targets (LoopNe target) successors = target ∷ []
jump_targets (Jcxz target) successors = target ∷ []
jump_targets (Table r offset) successors = successors
jump_targets op successors = []

-- an instruction of the procedure jumps to the offset
abbrev pub jumps_to : ℕ → Proc → Bool
jumps_to at proc =
    list_any (λ (node : ℕ × Node). is_among at (jump_targets node.1.instr.op node.1.succ.items)) proc.nodes.entries

-- some instruction jumps to the offset
abbrev pub is_target : Program → ℕ → Bool
is_target program at = list_any (jumps_to at) program.procs.items

-- the offset at which the data segment begins
abbrev pub data_offset : Image → Layout → ℕ
data_offset image layout = (layout.ds - image.cs) * 16

-- Lines for people ---------------------------------------------------------------------------

-- the name of the procedure with this entry, where the entry procedure's is the first number
abbrev pub procedure_name : ℕ → ℕ → List ℕ
procedure_name start entry =
    if entry == start then codes "start"
    else codes "f_" ++ (digit_glyph false (entry / 4096 % 16) ∷ digit_glyph false (entry / 256 % 16)
    ∷ digit_glyph false (entry / 16 % 16) ∷ digit_glyph false (entry % 16) ∷ [])

-- a procedure, how many instructions it has, how many argument words, and how many bytes its RET removes
abbrev pub procedure_line : ℕ → Proc → ℕ → ℕ → List ℕ
procedure_line start proc args removed =
    comment_line (codes " " ++ (procedure_name start proc.entry
    ++ (codes " nodes " ++ (decimal (length proc.nodes.entries)
    ++ (codes " args " ++ (decimal args ++ (codes " ret " ++ decimal removed)))))))

-- the line of the procedure that begins at the offset, if one does
abbrev pub procedure_lines : ℕ → ℕ → List Proc → List Frame → List ℕ → List (List ℕ)
procedure_lines start at (proc ∷ procs) (frame ∷ frames) (bytes ∷ removed) =
    (if proc.entry == at then procedure_line start proc frame.args bytes ∷ [] else [])
    ++ procedure_lines start at procs frames removed
procedure_lines start at _ _ _ = []

-- the lines that tell what begins at an offset: the prelude, a procedure, the data
abbrev pub headings : Image → Program → ℕ → List (List ℕ)
headings image program at =
    (if image.ip == at then comment_line (codes " prelude") ∷ [] else [])
    ++ (procedure_lines program.layout.start_ip at program.procs.items program.cells.frames.items
    program.heights.ret.items
    ++ (if data_offset image program.layout == at then comment_line (codes " data") ∷ [] else []))

-- there are lines for people at the offset: the prelude, a procedure or the data begins there, or a jump goes there
abbrev pub is_labelled : Image → Program → ℕ → Bool
is_labelled image program at =
    (image.ip == at)
    || (list_any (λ proc. proc.entry == at) program.procs.items
    || ((data_offset image program.layout == at) || is_target program at))

-- the lines for people at an offset: headings, and then the offset
abbrev pub lines_for_people : Image → Program → ℕ → List (List ℕ)
lines_for_people image program at =
    if is_labelled image program at then headings image program at ++ place_line at ∷ [] else []

-- What stands at a place of the image --------------------------------------------------------

-- the offset in the code segment of the image's byte of this place, where the segment has the byte
abbrev pub offset_of : ℕ → ℕ → Option ℕ
offset_of cs place =
    if nat_le (cs * 16) (place + load_segment * 16) && nat_lt (place + load_segment * 16) (cs * 16 + 65536)
    then Some (place + load_segment * 16 - cs * 16)
    else None

abbrev pub people_at : Image → Program → Option ℕ → List (List ℕ)
people_at image program None = []
people_at image program (Some at) = lines_for_people image program at

abbrev pub listed_at : Image → Program → List Instr → Option ℕ → Bool
listed_at image program prelude None = false
listed_at image program prelude (Some at) = is_listed image program prelude at

abbrev pub labelled_at : Image → Program → Option ℕ → Bool
labelled_at image program None = false
labelled_at image program (Some at) = is_labelled image program at

-- a line of its own begins at the place: that of an instruction, or lines for people
abbrev pub begins_line : Image → Program → List Instr → Option ℕ → Bool
begins_line image program prelude offset =
    listed_at image program prelude offset || labelled_at image program offset

-- The lines ----------------------------------------------------------------------------------

-- the line of an instruction with these bytes at an offset: an odd one, unless they are the standard encoding
pub data IsInstructionLine (cpu : Cpu) (at : ℕ) (op : Op) (bytes : List ℕ) : List ℕ → Type 0 where
  standard : IsStandard cpu at op bytes → IsInstructionLine cpu at op bytes (operation_line op)
  odd : ¬ IsStandard cpu at op bytes → IsInstructionLine cpu at op bytes (odd_line bytes op)

-- some bytes of the image from a place on: 1 to 16, up to the next place at which a line of its own begins
pub record AreBetween (image : Image) (program : Program) (prelude : List Instr) (place count : ℕ) : Type 0 where
  pub some : 0 < count
  pub at_most : count ≤ 16
  pub within : place + count ≤ length image.bytes.items
  pub inside :
      (k : ℕ) → 0 < k → k < count
      → begins_line image program prelude (offset_of image.cs (place + k)) ≡ false
  pub ends :
      (count ≡ 16) ⊎ ((place + count ≡ length image.bytes.items)
      ⊎ (begins_line image program prelude (offset_of image.cs (place + count)) ≡ true))

-- the lines of the image's bytes from a place on
pub data Lists (image : Image) (program : Program) (prelude : List Instr) : ℕ → List (List ℕ) → Type 0 where
  at_end : Lists image program prelude (length image.bytes.items) []
  instruction :
      {place at : ℕ} {instr : Instr} {line : List ℕ} {lines : List (List ℕ)}
      → offset_of image.cs place ≡ Some at
      → is_listed image program prelude at ≡ true
      → instruction_at program.layout.cpu at (drop at (code_of image)) ≡ Some instr
      → IsInstructionLine program.layout.cpu at instr.op (take instr.len (drop place image.bytes.items)) line
      → Lists image program prelude (place + instr.len) lines
      → Lists image program prelude place (lines_for_people image program at ++ line ∷ lines)
  bytes :
      {place count : ℕ} {lines : List (List ℕ)}
      → listed_at image program prelude (offset_of image.cs place) ≡ false
      → AreBetween image program prelude place count
      → Lists image program prelude (place + count) lines
      → Lists image program prelude place
      (people_at image program (offset_of image.cs place)
      ++ bytes_line (take count (drop place image.bytes.items)) ∷ lines)

-- the text is the listing of the program's image
pub record IsListing (image : Image) (program : Program) (text : List ℕ) : Type 0 where
  pub prelude : List Instr
  pub is_prelude : IsPrelude program.layout.cpu (code_of image) image.ip prelude
  pub lines : List (List ℕ)
  pub lists : Lists image program prelude 0 lines
  pub text_is : text ≡ text_of (head_line program.layout.cpu image.cs ∷ lines)
