-- Where DOS loads a program (Microsoft MS-DOS Programmer's Reference). Segments count paragraphs of 16 bytes.
use Rattle.std.specs.Prelude.{ℕ, ◌*◌}

-- the segment of the program prefix
abbrev pub prefix_segment : ℕ
prefix_segment = 0x0100

-- the segment of the load image, which lies above the 256 bytes of the prefix
abbrev pub load_segment : ℕ
load_segment = 0x0110

-- the physical address at which the load image begins
abbrev pub image_address : ℕ
image_address = load_segment * 16
