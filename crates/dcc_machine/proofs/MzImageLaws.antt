-- Laws on the image of an MZ file and on its first fault.
use Rattle.std.proofs.Common.{[], ◌∷◌, ◌++◌, All, add-one, append_assoc, ◌≡◌, ◌≢◌, ◌≤◌, ◌<◌, ◌^◌, ℕ, zero, suc, ◌+◌, ◌-◌, ◌*◌, ◌/◌, ◌%◌, ◌⊎◌, inl, inr, min, List, length, slice_set, slice_range, take, drop, refl, sym, ap, subst, ◌∙◌, arith}
use Rattle.std.proofs.lemmas.List.{length-set, length-take-le, length-drop}
use Rattle.std.proofs.lemmas.List.Edits.{sets-eq}
use Rattle.std.proofs.lemmas.List.Elements.{All-get_or, All-set, All-take, All-drop}
use Rattle.std.proofs.Math.ListN.{get_or-eq_default}
use Rattle.std.proofs.Math.Nat.{mod-lt, mod-eq_of_lt}
use Rattle.std.proofs.lemmas.Bool.{cases_lt}
use denote.RawPtr.{null_ptr}
use Rattle.std.specs.declared.vec.Vec.{Vec}
use Rattle.std.specs.declared.alloc.Global.{Global}
use Rattle.dcc_machine.specs.declared.image.Image.{Image}
use Rattle.dcc_machine.specs.Bytes.{byte_at, word_at, with_word_at}
use Rattle.dcc_machine.specs.Load.{load_segment}
use Rattle.dcc_machine.specs.MzImage.{FormatFault, HasEntry, HasGoodHeader, HasPages, HasSignature, IsFirstFault, IsImageOf, IsLoaded, RelocationFits, RelocationsFit, bad_pages, bad_relocation, entry_outside, header_cs, header_ip, header_past_image, header_sp, header_ss, image_end, image_length, image_start, last_page_bytes, loaded_segment, not_mz, page_count, relocated_image, relocated_place, relocation_count, relocation_entry, short, too_large}

-- writing a word keeps the length
pub length-with_word_at : (bytes : List ℕ) (at word : ℕ) → length (with_word_at bytes at word) ≡ length bytes
unfolding with_word_at
length-with_word_at bytes at word = simp length-set

-- a word that is written inside stands between the bytes before and the bytes after
pub with_word_at-split : (bytes : List ℕ) (at word : ℕ) → at + 2 ≤ length bytes
    → with_word_at bytes at word ≡ take at bytes ++ (word % 256 ∷ word / 256 ∷ drop (at + 2) bytes)
unfolding with_word_at
with_word_at-split bytes at word inside =
    rw (add-one at) (sets-eq (word % 256 ∷ word / 256 ∷ []) bytes at inside)
    ∙ append_assoc (take at bytes) (word % 256 ∷ word / 256 ∷ []) (drop (at + 2) bytes)

-- a part of a list within it is as long as its range
length-slice_range : (xs : List ℕ) (a b : ℕ) → a ≤ b → b ≤ length xs → length (slice_range xs a b) ≡ b - a
length-slice_range xs a b low high =
    length-take-le (b - a) (drop a xs) (omega (arith, length-drop a xs))

-- the image is as long as the header says, whatever was moved
pub length-relocated_image : (file : List ℕ) (n : ℕ) → HasGoodHeader file → length (relocated_image file n) ≡ image_length file
unfolding relocated_image
length-relocated_image file zero good =
    length-slice_range file (image_start file) (image_end file) good.image_bytes good.pages.2
length-relocated_image file (suc n) good =
    length-with_word_at _ _ _ ∙ length-relocated_image file n good

-- one more relocation
pub relocated_image-more : (file : List ℕ) (n : ℕ) (before : List ℕ) (place : ℕ)
    → before ≡ relocated_image file n → place ≡ relocated_place file n
    → with_word_at before place (loaded_segment (word_at before place)) ≡ relocated_image file (n + 1)
unfolding relocated_image
relocated_image-more file n before place e p = rw (e, p, add-one n) refl

-- before any relocation the image is the part of the file that the header names
pub relocated_image-zero : (file : List ℕ) → relocated_image file 0 ≡ slice_range file (image_start file) (image_end file)
unfolding relocated_image
relocated_image-zero file = refl

-- the lowest entry of which something does not hold is one alone
lowest_alone : (P : ℕ → Type 0) (i j : ℕ)
    → ¬ P i → ((k : ℕ) → k < i → P k) → ¬ P j → ((k : ℕ) → k < j → P k) → i ≡ j
lowest_alone P i j fails below fails' below' =
    elim (cases_lt i j) [
      | inl lt ↦ absurd (fails (below' i lt))
      | inr ge ↦ elim (cases_lt j i) [
        | inl lt ↦ absurd (fails' (below j lt))
        | inr le ↦ omega arith
      ]
    ]

-- no file has two first faults
pub one_fault : (file : List ℕ) (one other : FormatFault) → IsFirstFault file one → IsFirstFault file other → one ≡ other
one_fault file too_large too_large h k = refl
one_fault file (short n) (short m) h k = ap short (h.2 ∙ sym k.2)
one_fault file not_mz not_mz h k = refl
one_fault file bad_pages bad_pages h k = refl
one_fault file header_past_image header_past_image h k = refl
one_fault file (bad_relocation i) (bad_relocation j) h k =
    ap bad_relocation (lowest_alone (RelocationFits file) i j h.2 h.3 k.2 k.3)
one_fault file entry_outside entry_outside h k = refl
one_fault file one other h k = absurd (grind arith)

-- no file has both an image and a first fault
pub not_both : (file : List ℕ) (image : Image) (fault : FormatFault) → IsImageOf file image → ¬ IsFirstFault file fault
not_both file image too_large is fault = fault is.good_header.small_enough
not_both file image (short n) is fault = fault.1 is.good_header.header
not_both file image not_mz is fault = fault.2 is.good_header.signature
not_both file image bad_pages is fault = fault.3 is.good_header.pages
not_both file image header_past_image is fault = fault.4 is.good_header.image_bytes
not_both file image (bad_relocation i) is fault = fault.2 (is.relocations_fit i fault.1)
not_both file image entry_outside is fault = fault.2 is.has_entry

-- an entry of the relocation table fits or not
relocation_fits_or_not : (file : List ℕ) (i : ℕ) → RelocationFits file i ⊎ ¬ RelocationFits file i
relocation_fits_or_not file i =
    elim (cases_lt (length file) (relocation_entry file i + 4)) [
      | inl past ↦ inr (λ fits. absurd (omega (arith, fits.0)))
      | inr entry ↦ elim (cases_lt (image_length file) (relocated_place file i + 2)) [
        | inl past ↦ inr (λ fits. absurd (omega (arith, fits.1)))
        | inr word ↦ inl (entry, word)
      ]
    ]

-- the first n entries fit, and the next one
fits_below : (file : List ℕ) (n : ℕ) → ((j : ℕ) → j < n → RelocationFits file j) → RelocationFits file n
    → (j : ℕ) → j < suc n → RelocationFits file j
fits_below file n fit here j h =
    elim (cases_lt j n) [
      | inl lt ↦ fit j lt
      | inr ge ↦ let e : n ≡ j = omega arith in subst (RelocationFits file) e here
    ]

-- the first n entries fit, or there is a lowest one that does not
lowest_misfit : (file : List ℕ) (n : ℕ)
    → ((j : ℕ) → j < n → RelocationFits file j)
    ⊎ ((i : ℕ) × (i < n) × ¬ RelocationFits file i × ((j : ℕ) → j < i → RelocationFits file j))
lowest_misfit file zero = inl (λ j h. absurd (omega arith))
lowest_misfit file (suc n) =
    elim (lowest_misfit file n) [
      | inr misfit ↦ inr (misfit.0, omega (arith, misfit.1), misfit.2, misfit.3)
      | inl fit ↦ elim (relocation_fits_or_not file n) [
        | inr misfit ↦ inr (n, omega arith, misfit, fit)
        | inl fits ↦ inl (λ j h. fits_below file n fit fits j h)
      ]
    ]

-- two numbers are equal or not
equal_or_not : (m n : ℕ) → (m ≡ n) ⊎ (m ≢ n)
equal_or_not m n =
    elim (cases_lt m n) [
      | inl lt ↦ inr (λ e. absurd (omega arith))
      | inr ge ↦ elim (cases_lt n m) [
        | inl lt ↦ inr (λ e. absurd (omega arith))
        | inr le ↦ inl (omega arith)
      ]
    ]

-- the file begins with MZ or not
signature_or_not : (file : List ℕ) → HasSignature file ⊎ ¬ HasSignature file
signature_or_not file =
    elim (equal_or_not (byte_at file 0) 0x4D) [
      | inr fails ↦ inr (λ h. fails h.0)
      | inl m ↦ elim (equal_or_not (byte_at file 1) 0x5A) [
        | inr fails ↦ inr (λ h. fails h.1)
        | inl z ↦ inl (m, z)
      ]
    ]

-- the pages are good or not
pages_or_not : (file : List ℕ) → HasPages file ⊎ ¬ HasPages file
pages_or_not file =
    elim (cases_lt 0 (page_count file)) [
      | inr fails ↦ inr (λ h. absurd (omega (arith, h.0)))
      | inl some ↦ elim (cases_lt 512 (last_page_bytes file)) [
        | inl fails ↦ inr (λ h. absurd (omega (arith, h.1)))
        | inr last ↦ elim (cases_lt (length file) (image_end file)) [
          | inl fails ↦ inr (λ h. absurd (omega (arith, h.2)))
          | inr end ↦ inl (some, last, end)
        ]
      ]
    ]

-- the header is good, or one of the first five checks fails
good_header_or_fault : (file : List ℕ) → HasGoodHeader file ⊎ ((fault : FormatFault) × IsFirstFault file fault)
good_header_or_fault file =
    elim (cases_lt 262144 (length file)) [
      | inl large ↦ inr (too_large, λ h. absurd (omega arith))
      | inr small ↦ elim (cases_lt (length file) 28) [
        | inl few ↦ inr (short (length file), (small, (λ h. absurd (omega arith)), refl))
        | inr header ↦ elim (signature_or_not file) [
          | inr fails ↦ inr (not_mz, (small, header, fails))
          | inl signature ↦ elim (pages_or_not file) [
            | inr fails ↦ inr (bad_pages, (small, header, signature, fails))
            | inl pages ↦ elim (cases_lt (image_end file) (image_start file)) [
              | inl past ↦ inr (header_past_image, (small, header, signature, pages, (λ h. absurd (omega arith))))
              | inr bytes ↦ inl (record { small_enough = small; header = header; signature = signature; pages = pages; image_bytes = bytes })
            ]
          ]
        ]
      ]
    ]

-- a `Vec` with given elements
unfoldable pub vec_of : (xs : List ℕ) → length xs < 2 ^ 63 → Vec ℕ Global
vec_of xs few = record { ptr = null_ptr; len = length xs; cap = length xs; alloc = record { memory = record { seal = tt } }; items = xs; ok = (refl, omega arith); small = few }

-- a file that passes the seven checks has an image, as long as memory can hold it
image_with : (file : List ℕ) → HasGoodHeader file → RelocationsFit file → HasEntry file
    → length (relocated_image file (relocation_count file)) < 2 ^ 63 → (image : Image) × IsImageOf file image
unfolding vec_of
image_with file good fit entry few = (
  record {
    bytes = vec_of (relocated_image file (relocation_count file)) few;
    code_len = min 65536 (image_length file - header_cs file * 16);
    cs = loaded_segment (header_cs file);
    ip = header_ip file;
    ss = loaded_segment (header_ss file);
    sp = header_sp file;
  },
  record {
    good_header = good;
    relocations_fit = fit;
    has_entry = entry;
    bytes = refl;
    code_len = refl;
    cs = refl;
    ip = refl;
    ss = refl;
    sp = refl;
  },
)

-- a file that passes the seven checks has an image
image_of : (file : List ℕ) → HasGoodHeader file → RelocationsFit file → HasEntry file → (image : Image) × IsImageOf file image
image_of file good fit entry =
    image_with file good fit entry
    (omega (arith, length-relocated_image file (relocation_count file) good, good.pages, good.small_enough))

-- each file has an image or a first fault
pub image_or_fault : (file : List ℕ) → ((image : Image) × IsImageOf file image) ⊎ ((fault : FormatFault) × IsFirstFault file fault)
image_or_fault file =
    elim (good_header_or_fault file) [
      | inr fault ↦ inr fault
      | inl good ↦ elim (lowest_misfit file (relocation_count file)) [
        | inr misfit ↦ inr (bad_relocation misfit.0, (good, misfit.1, misfit.2, misfit.3))
        | inl fit ↦ elim (cases_lt (header_cs file * 16 + header_ip file) (image_length file)) [
          | inl entry ↦ inl (image_of file good fit entry)
          | inr fails ↦ inr (entry_outside, (good, fit, (λ h. absurd (omega arith))))
        ]
      ]
    ]

-- a byte is below 256, and so is what is read past the end
pub byte_at-lt : (bytes : List ℕ) (at : ℕ) → All (λ b. b < 256) bytes → byte_at bytes at < 256
byte_at-lt bytes at all =
    elim (cases_lt at (length bytes)) [
      | inl inside ↦ All-get_or (λ b. b < 256) bytes at 0 inside all
      | inr past ↦ let e = get_or-eq_default bytes 0 past in omega arith
    ]

-- a word of bytes is below 65536
pub word_at-lt : (bytes : List ℕ) (at : ℕ) → All (λ b. b < 256) bytes → word_at bytes at < 65536
unfolding word_at
word_at-lt bytes at all =
    omega (arith, byte_at-lt bytes at all, byte_at-lt bytes (at + 1) all)

-- writing a word writes bytes
All-with_word_at : (bytes : List ℕ) (at word : ℕ) → word < 65536 → All (λ b. b < 256) bytes
    → All (λ b. b < 256) (with_word_at bytes at word)
unfolding with_word_at
All-with_word_at bytes at word h all =
    All-set (λ b. b < 256) (slice_set bytes at (word % 256)) (at + 1) (word / 256) (omega arith)
    (All-set (λ b. b < 256) bytes at (word % 256) (omega arith) all)

-- an image is made of bytes
All-relocated_image : (file : List ℕ) (n : ℕ) → All (λ b. b < 256) file → All (λ b. b < 256) (relocated_image file n)
unfolding relocated_image
All-relocated_image file zero all =
    All-take (λ b. b < 256) (image_end file - image_start file) (drop (image_start file) file) (All-drop (λ b. b < 256) (image_start file) file all)
All-relocated_image file (suc n) all =
    All-with_word_at _ _ _ (mod-lt _ (omega arith)) (All-relocated_image file n all)

-- What the analyses of a loaded image rest on.

-- the image of a file is as long as the header says
pub length-image : (file : List ℕ) (image : Image) → IsImageOf file image → length image.bytes.items ≡ image_length file
length-image file image is =
    ap length is.bytes ∙ length-relocated_image file (relocation_count file) is.good_header

-- an image has at most 262,144 bytes
pub length-loaded : (image : Image) → IsLoaded image → length image.bytes.items ≤ 262144
length-loaded image loaded =
    let is = loaded.is_image in
    let e = length-image loaded.file image is in
    omega (arith, is.good_header.pages, is.good_header.small_enough)

-- an image is made of bytes
pub All-loaded : (image : Image) → IsLoaded image → All (λ b. b < 256) image.bytes.items
All-loaded image loaded =
    let P : List ℕ → Type 0 = λ xs. All (λ b. b < 256) xs in
    subst P (sym loaded.is_image.bytes) (All-relocated_image loaded.file (relocation_count loaded.file) loaded.bytes)

-- the code segment lies at or past the load segment, and it does not wrap
cs-image : (file : List ℕ) (image : Image) → IsImageOf file image → image.cs ≡ header_cs file + load_segment
cs-image file image is =
    let entry = is.has_entry in
    let pages = is.good_header.pages in
    let small = is.good_header.small_enough in
    let cs = is.cs in
    cs ∙ mod-eq_of_lt (omega arith)

-- the code segment lies at or past the load segment
pub cs-loaded : (image : Image) → IsLoaded image → load_segment ≤ image.cs
cs-loaded image loaded =
    let e = cs-image loaded.file image loaded.is_image in omega arith

-- the first instruction lies in the image
pub entry-loaded : (image : Image) → IsLoaded image
    → (image.cs - load_segment) * 16 + image.ip < length image.bytes.items
entry-loaded image loaded =
    let is = loaded.is_image in
    let cs = cs-image loaded.file image is in
    let e = length-image loaded.file image is in
    omega (arith, is.ip, is.has_entry)

-- the length of the code is that of the image from the code segment on, up to 65,536
pub code_len-loaded : (image : Image) → IsLoaded image
    → image.code_len ≡ min 65536 (length image.bytes.items - (image.cs - load_segment) * 16)
code_len-loaded image loaded =
    let is = loaded.is_image in
    let cs = cs-image loaded.file image is in
    let e = length-image loaded.file image is in
    omega (arith, is.code_len)

-- the first instruction lies in the code
pub ip-loaded : (image : Image) → IsLoaded image → image.ip < image.code_len
ip-loaded image loaded =
    let is = loaded.is_image in
    let word = word_at-lt loaded.file 0x14 loaded.bytes in
    omega (arith, is.ip, is.code_len, is.has_entry)
