-- What a fault of the loader says of the file.
use Rattle.std.specs.Prelude.{ℕ, Option, Some, None, IfSome, IsSomeAnd, List}
use Rattle.std.specs.Option.{option_map_or}
use Rattle.dcc_machine.specs.MzImage.{FormatFault, too_large, short, not_mz, bad_pages, header_past_image}
use Rattle.dcc_machine.specs.MzImage.{bad_relocation, entry_outside, IsFirstFault, fault_number, fault_place}
use Rattle.dcc_mz.specs.declared.fault.MzFault.{MzFault}
use Rattle.dcc_mz.specs.declared.fault.MzFault.TheVariants.{Short, NotMz, Pages, HeaderPastImage, Reloc, EntryOutside}
use Rattle.dcc_mz.specs.declared.fault.MzFault.TheVariants.{TooLarge, Memory}

-- the check that the file fails, or none where memory ran out
abbrev pub fault_of : MzFault → Option FormatFault
fault_of (Short n) = Some (short n)
fault_of NotMz = Some not_mz
fault_of Pages = Some bad_pages
fault_of HeaderPastImage = Some header_past_image
fault_of (Reloc i) = Some (bad_relocation i)
fault_of EntryOutside = Some entry_outside
fault_of TooLarge = Some too_large
fault_of Memory = None

-- the number of the check that the file fails, or 0
abbrev pub number_of : MzFault → ℕ
number_of fault = option_map_or fault_number (fault_of fault) 0

-- the place that is told with the number, or 0
abbrev pub place_of : MzFault → ℕ
place_of fault = option_map_or fault_place (fault_of fault) 0

-- the fault is the first check that the file fails
abbrev pub IsRefusal : List ℕ → MzFault → Type 0
IsRefusal file fault = IsSomeAnd (fault_of fault) (IsFirstFault file)

-- the fault is the first check that the file fails, or memory ran out
abbrev pub IsRefusalOrMemory : List ℕ → MzFault → Type 0
IsRefusalOrMemory file fault = IfSome (fault_of fault) (IsFirstFault file)
