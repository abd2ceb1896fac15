-- A file that is made passes all checks of the format.
use Rattle.std.proofs.Common.{◌≡◌, ℕ, zero, suc, ◌+◌, ◌*◌, ◌/◌, ◌%◌, ◌<◌, ◌≤◌, List, [], ◌∷◌, ◌++◌, length, false, refl, sym, subst, arith, length-append}
use Rattle.std.specs.Prelude.{min, eqb}
use Rattle.std.proofs.lemmas.Bool.{ne_eqb}
use Rattle.std.specs.Int.{div_ceil}
use Rattle.dcc_machine.specs.Bytes.{word_at}
use Rattle.dcc_machine.specs.MzImage.{FormatFault, too_large, short, not_mz, bad_pages, header_past_image, bad_relocation, entry_outside, IsFirstFault, pages_length, page_count, last_page_bytes, image_end, image_start, image_length, relocation_count, relocation_entry, relocated_place, header_cs, header_ip, IsSmallEnough, HasHeader, HasSignature, HasPages, HasImageBytes, HasEntry, RelocationFits, RelocationsFit, HasGoodHeader}
use Rattle.dcc_mz.specs.declared.fault.MzFault.{MzFault}
use Rattle.dcc_mz.specs.declared.fault.MzFault.TheVariants.{Short, NotMz, Pages, HeaderPastImage, Reloc, EntryOutside, TooLarge, Memory}
use Rattle.dcc_mz.specs.Fault.{IsRefusalOrMemory}
use Rattle.dcc_gen.specs.declared.piece.Piece.{Piece}
use Rattle.dcc_gen.specs.Code.{calls_of_all, code_of, exit_code, pieces_code, procedures_code}
use Rattle.dcc_gen.specs.File.{paragraphs_of, image_of, header_of, file_with, file_of, IsMade}
use Rattle.dcc_gen.proofs.CodeLaws.{few-pieces, few-procedures}
use Rattle.dcc_gen.proofs.FileLaws.{length-image}

-- The length of a file, by its pages.

pages-at : (n q r : ℕ) → 512 * q + r ≡ n → r < 512 → pages_length (q + min 1 r) r ≡ n
unfolding pages_length
pages-at n q zero e small = omega (arith, e)
pages-at n q (suc r) e small =
    let other : eqb (suc r) 0 ≡ false = ne_eqb (suc r) 0 (λ h. omega (arith, h)) in
    rw other (omega (arith, e, small))

pages-of : (n : ℕ) → pages_length (div_ceil n 512) (n % 512) ≡ n
pages-of n = pages-at n (n / 512) (n % 512) (omega arith) (omega arith)

-- A file with a header as made files have, in front of an image of a length within bounds.

module _ (image : List ℕ) (paragraphs : ℕ) (some : 3 ≤ length image) (few : length image ≤ 65000) where
  abbrev file : List ℕ
  file = header_of (32 + length image) paragraphs ++ image

  last-is : last_page_bytes file ≡ (32 + length image) % 512
  unfolding word_at
  last-is = omega arith

  count-is : page_count file ≡ div_ceil (32 + length image) 512
  unfolding word_at
  count-is = omega arith

  end-is : image_end file ≡ 32 + length image
  end-is = rw (last-is, count-is) (pages-of (32 + length image))

  start-is : image_start file ≡ 32
  unfolding word_at
  start-is = refl

  length-is : length file ≡ 32 + length image
  length-is = omega arith

  image-is : image_length file ≡ length image
  image-is = omega (arith, end-is, start-is)

  some-pages : 0 < page_count file
  some-pages = rw count-is (omega arith)

  few-last : last_page_bytes file ≤ 512
  few-last = rw last-is (omega arith)

  good-header : HasGoodHeader file
  good-header = record {
    small_enough = omega (arith, length-is);
    header = omega (arith, length-is);
    signature = (refl, refl);
    pages = (some-pages, few-last, omega (arith, end-is, length-is));
    image_bytes = omega (arith, start-is, end-is);
  }

  entry-is : relocation_entry file 0 ≡ 28
  unfolding word_at
  entry-is = refl

  place-is : relocated_place file 0 ≡ 1
  unfolding word_at
  place-is = refl

  relocations-are : relocation_count file ≡ 1
  unfolding word_at
  relocations-are = refl

  first-fits : RelocationFits file 0
  first-fits = (omega (arith, entry-is, length-is), omega (arith, place-is, image-is))

  relocation-fits : (i : ℕ) → i < 1 → RelocationFits file i
  relocation-fits zero below = first-fits
  relocation-fits (suc i) below = absurd (omega (arith, below))

  all-fit : RelocationsFit file
  all-fit i below = relocation-fits i (omega (arith, below, relocations-are))

  place-of_entry : header_cs file * 16 + header_ip file ≡ 0
  unfolding word_at
  place-of_entry = refl

  has-entry : HasEntry file
  has-entry = omega (arith, place-of_entry, image-is)

  passes : (fault : FormatFault) → IsFirstFault file fault → ⊥
  passes too_large h = h good-header.small_enough
  passes (short n) h = h.1 good-header.header
  passes not_mz h = h.2 good-header.signature
  passes bad_pages h = h.3 good-header.pages
  passes header_past_image h = h.4 good-header.image_bytes
  passes (bad_relocation i) h = h.2 (all-fit i h.1)
  passes entry_outside h = h.2 has-entry

-- The image of a made file.

few-code : (start bodies : List Piece) (size : ℕ) → length start ≡ size → size ≤ 1000 → length (code_of start bodies) ≤ 8053
unfolding code_of
few-code start bodies size is few =
    let ahead = λ (procedure : ℕ). length (exit_code ++ procedures_code bodies procedure) in
    let pieces = calls_of_all ++ start in
    let back = exit_code ++ procedures_code bodies 8 in
    omega (arith, few-pieces ahead pieces, length-append calls_of_all start, few-procedures bodies 8, length-append exit_code (procedures_code bodies 8), length-append (pieces_code ahead pieces) back)

made-passes : (code words : List ℕ) (fault : FormatFault) → length words ≡ 64 → length code ≤ 8053 → IsFirstFault (file_with code words) fault → ⊥
unfolding file_with
made-passes code words fault many few h =
    let long = length-image code words many in
    passes (image_of code words) (paragraphs_of code) (omega (arith, long)) (omega (arith, long, few)) fault h

-- a file that is made has no fault of the format
pub made-not_refused : (seed size : ℕ) (file : List ℕ) (fault : FormatFault) → size ≤ 1000 → IsMade seed size file → IsFirstFault file fault → ⊥
made-not_refused seed size file fault few made h =
    let program = made.program in
    made-passes (code_of program.start program.bodies) program.words fault made.drawn.words (few-code program.start program.bodies size made.drawn.start few)
    (subst (λ f. IsFirstFault f fault) made.bytes h)

-- so it is refused for want of memory alone
pub made-memory_alone : (seed size : ℕ) (file : List ℕ) (fault : MzFault) → size ≤ 1000 → IsMade seed size file → IsRefusalOrMemory file fault → fault ≡ Memory
made-memory_alone seed size file Memory few made h = refl
made-memory_alone seed size file (Short n) few made h = absurd (made-not_refused seed size file (short n) few made h)
made-memory_alone seed size file NotMz few made h = absurd (made-not_refused seed size file not_mz few made h)
made-memory_alone seed size file Pages few made h = absurd (made-not_refused seed size file bad_pages few made h)
made-memory_alone seed size file HeaderPastImage few made h = absurd (made-not_refused seed size file header_past_image few made h)
made-memory_alone seed size file (Reloc i) few made h = absurd (made-not_refused seed size file (bad_relocation i) few made h)
made-memory_alone seed size file EntryOutside few made h = absurd (made-not_refused seed size file entry_outside few made h)
made-memory_alone seed size file TooLarge few made h = absurd (made-not_refused seed size file too_large few made h)
