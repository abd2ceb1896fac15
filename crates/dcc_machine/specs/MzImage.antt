-- The load image of an MZ executable, the .EXE file of MS-DOS (Microsoft MS-DOS Programmer's Reference, "EXE
-- file header"). A file is a list of bytes, and offsets count bytes from its start. The words of the header
-- are little-endian. The extra paragraphs, the checksum, the overlay number and what follows the image are
-- passed over.
use Rattle.std.specs.Prelude.{◌≡◌, ◌≤◌, ◌<◌, ℕ, zero, suc, ◌+◌, ◌-◌, ◌*◌, ◌%◌, ◌==◌, if◌then◌else◌, min, List, length}
use Rattle.std.specs.Prelude.{slice_range, All}
use Rattle.dcc_machine.specs.declared.image.Image.{Image}
use Rattle.dcc_machine.specs.Bytes.{byte_at, word_at, with_word_at}
use Rattle.dcc_machine.specs.Load.{load_segment}

-- a segment that the file counts from the image's start, moved to where the image is loaded
abbrev pub loaded_segment : ℕ → ℕ
loaded_segment segment = (segment + load_segment) % 65536

-- the number of bytes in the last page, where 0 means that the page is full
abbrev pub last_page_bytes : List ℕ → ℕ
last_page_bytes file = word_at file 0x02

-- the number of pages of 512 bytes, up to the image's end
abbrev pub page_count : List ℕ → ℕ
page_count file = word_at file 0x04

-- the number of entries in the relocation table
abbrev pub relocation_count : List ℕ → ℕ
relocation_count file = word_at file 0x06

-- the length of the header, in paragraphs of 16 bytes
abbrev pub header_paragraphs : List ℕ → ℕ
header_paragraphs file = word_at file 0x08

-- the stack segment at the start, counted from the image's start
abbrev pub header_ss : List ℕ → ℕ
header_ss file = word_at file 0x0E

-- the stack pointer at the start
abbrev pub header_sp : List ℕ → ℕ
header_sp file = word_at file 0x10

-- the instruction pointer at the start
abbrev pub header_ip : List ℕ → ℕ
header_ip file = word_at file 0x14

-- the code segment at the start, counted from the image's start
abbrev pub header_cs : List ℕ → ℕ
header_cs file = word_at file 0x16

-- the offset of the relocation table
abbrev pub relocation_table : List ℕ → ℕ
relocation_table file = word_at file 0x18

-- the length of a number of pages, whose last one holds a number of bytes, or 512 where that is 0
unfoldable pub pages_length : ℕ → ℕ → ℕ
pages_length pages last = if last == 0 then pages * 512 else pages * 512 - (512 - last)

-- the offset at which the image begins
abbrev pub image_start : List ℕ → ℕ
image_start file = header_paragraphs file * 16

-- the offset at which the image ends
abbrev pub image_end : List ℕ → ℕ
image_end file = pages_length (page_count file) (last_page_bytes file)

-- the number of bytes in the image
abbrev pub image_length : List ℕ → ℕ
image_length file = image_end file - image_start file

-- the offset of entry i of the relocation table, which is an offset word and a segment word
abbrev pub relocation_entry : List ℕ → ℕ → ℕ
relocation_entry file i = relocation_table file + 4 * i

-- the image offset of the word that entry i moves
abbrev pub relocated_place : List ℕ → ℕ → ℕ
relocated_place file i =
    word_at file (relocation_entry file i + 2) * 16 + word_at file (relocation_entry file i)

-- the image after the first n relocations, each of which adds the load segment to a word
unfoldable pub relocated_image : List ℕ → ℕ → List ℕ
relocated_image file zero = slice_range file (image_start file) (image_end file)
relocated_image file (suc n) =
    let before = relocated_image file n in
    let place = relocated_place file n in
    with_word_at before place (loaded_segment (word_at before place))

-- The seven checks, in their order.

-- first: the file has at most 262,144 bytes
abbrev pub IsSmallEnough : List ℕ → Type 0
IsSmallEnough file = length file ≤ 262144

-- second: the file has room for the words of the header
abbrev pub HasHeader : List ℕ → Type 0
HasHeader file = 28 ≤ length file

-- third: the file begins with the letters MZ
abbrev pub HasSignature : List ℕ → Type 0
HasSignature file = (byte_at file 0 ≡ 0x4D) × (byte_at file 1 ≡ 0x5A)

-- fourth: the pages are well formed, and the image ends within the file
abbrev pub HasPages : List ℕ → Type 0
HasPages file = (0 < page_count file) × (last_page_bytes file ≤ 512) × (image_end file ≤ length file)

-- fifth: the image does not begin past its end
abbrev pub HasImageBytes : List ℕ → Type 0
HasImageBytes file = image_start file ≤ image_end file

-- entry i of the relocation table lies wholly in the file, and the word that it moves wholly in the image
abbrev pub RelocationFits : List ℕ → ℕ → Type 0
RelocationFits file i =
    (relocation_entry file i + 4 ≤ length file) × (relocated_place file i + 2 ≤ image_length file)

-- sixth: every relocation fits
abbrev pub RelocationsFit : List ℕ → Type 0
RelocationsFit file = (i : ℕ) → i < relocation_count file → RelocationFits file i

-- seventh: the first instruction lies in the image
abbrev pub HasEntry : List ℕ → Type 0
HasEntry file = header_cs file * 16 + header_ip file < image_length file

-- the file passes the first five checks, so that its header says where the image lies
pub record HasGoodHeader (file : List ℕ) : Type 0 where
  pub small_enough : IsSmallEnough file
  pub header : HasHeader file
  pub signature : HasSignature file
  pub pages : HasPages file
  pub image_bytes : HasImageBytes file

-- the image is that of the file
pub record IsImageOf (file : List ℕ) (image : Image) : Type 0 where
  pub good_header : HasGoodHeader file
  pub relocations_fit : RelocationsFit file
  pub has_entry : HasEntry file
  pub bytes : image.bytes.items ≡ relocated_image file (relocation_count file)
  pub code_len : image.code_len ≡ min 65536 (image_length file - header_cs file * 16)
  pub cs : image.cs ≡ loaded_segment (header_cs file)
  pub ip : image.ip ≡ header_ip file
  pub ss : image.ss ≡ loaded_segment (header_ss file)
  pub sp : image.sp ≡ header_sp file

-- the image is that of some file of bytes
pub record IsLoaded (image : Image) : Type 0 where
  pub file : List ℕ
  pub bytes : All (λ b. b < 256) file
  pub is_image : IsImageOf file image

-- why a file has no image: the check that it fails, and for the second and the sixth the number that tells more
pub data FormatFault : Type 0 where
  too_large : FormatFault
  short : ℕ → FormatFault
  not_mz : FormatFault
  bad_pages : FormatFault
  header_past_image : FormatFault
  bad_relocation : ℕ → FormatFault
  entry_outside : FormatFault

-- the fault is the first check that the file fails
abbrev pub IsFirstFault : List ℕ → FormatFault → Type 0
IsFirstFault file too_large = ¬ IsSmallEnough file
IsFirstFault file (short n) = IsSmallEnough file × ¬ HasHeader file × (n ≡ length file)
IsFirstFault file not_mz = IsSmallEnough file × HasHeader file × ¬ HasSignature file
IsFirstFault file bad_pages = IsSmallEnough file × HasHeader file × HasSignature file × ¬ HasPages file
IsFirstFault file header_past_image =
    IsSmallEnough file × HasHeader file × HasSignature file × HasPages file × ¬ HasImageBytes file
IsFirstFault file (bad_relocation i) =
    HasGoodHeader file × (i < relocation_count file) × ¬ RelocationFits file i
    × ((j : ℕ) → j < i → RelocationFits file j)
IsFirstFault file entry_outside = HasGoodHeader file × RelocationsFit file × ¬ HasEntry file

-- the number by which a fault is told
abbrev pub fault_number : FormatFault → ℕ
fault_number too_large = 7
fault_number (short n) = 1
fault_number not_mz = 2
fault_number bad_pages = 3
fault_number header_past_image = 4
fault_number (bad_relocation i) = 5
fault_number entry_outside = 6

-- the place that is told with a fault: the greatest length, the file's length, the offset of a word of the header, or
-- the number of the table's entry
abbrev pub fault_place : FormatFault → ℕ
fault_place too_large = 262144
fault_place (short n) = n
fault_place not_mz = 0
fault_place bad_pages = 0x02
fault_place header_past_image = 0x08
fault_place (bad_relocation i) = i
fault_place entry_outside = 0x14
