-- From what the shelf answers to the image, the unit or the bytes of a listing, or to why there is none.
use Rattle.std.proofs.Common.{◌≡◌, ℕ, ◌<◌, ◌≤◌, inl, inr, List, [], ◌∷◌, ◌++◌, length, Some, None, refl, sym, subst, arith, length-append}
use Rattle.std.specs.Prelude.{take, Result, Ok, Err, IfErr, IsErrAnd, IsErrOf}
use Rattle.dcc_io.specs.declared.outside.Fetched.{Fetched}
use Rattle.dcc_io.specs.declared.outside.ShelfFault.{ShelfFault}
use Rattle.dcc_io.specs.declared.outside.ShelfFault.TheVariants.{Absent, Failed, Memory as ShelfMemory}
use Rattle.dcc_io.specs.Fetch.{Fetches, Records}
use Rattle.dcc_io.specs.Told.{WhenTold}
use Rattle.dcc_mz.specs.declared.fault.MzFault.{MzFault}
use Rattle.dcc_mz.specs.declared.fault.MzFault.TheVariants.{TooLarge, Memory as NoMemory}
use Rattle.dcc_mz.specs.Fault.{IsRefusal, IsRefusalOrMemory}
use Rattle.dcc_c.specs.Refusals.{too_long}
use Rattle.dcc_reader.specs.declared.offence.ParseKind.TheVariants.{Length}
use Rattle.dcc_parse.specs.declared.fault.ParseFault.{ParseFault}
use Rattle.dcc_parse.specs.declared.fault.ParseFault.TheVariants.{At, Memory as ParseMemory}
use Rattle.dcc_parse.specs.Fault.{IsRefusal as IsTextRefusal, IsFaultOf}
use Rattle.dcc_asm.specs.declared.fault.ListKind.TheVariants.{Length as ListLength}
use Rattle.dcc_asm.specs.declared.fault.ListFault.{ListFault}
use Rattle.dcc_asm.specs.declared.fault.ListFault.TheVariants.{At as ListedAt, Memory as ListMemory}
use Rattle.dcc_asm.specs.Fault.{IsFirstFault, too_long as too_long_listed, IsFaultOf as IsListingFaultOf}
use Rattle.dcc_top.specs.declared.reply.Reply.{Reply}
use Rattle.dcc_top.specs.declared.reply.Reply.TheVariants.{NoFile, FileFault, Memory, Format, TextFault, ListingFault}
use Rattle.dcc_top.specs.Answer.{Files, OfFile, shelf_reply, fault_reply, parse_reply, listing_reply, HasNoFile, no_file, file_fault, no_memory, HasNoImage, no_executable, misshapen, HasNoUnit, no_text, offends, IsUnassembled, no_listing, misspelled}
use Rattle.dcc_top.specs.Call.{ShelfChange, Rises}
use Rattle.dcc_top.specs.Causes.{AsksOnce}

-- the shelf gave all of the file
abbrev pub GaveWhole : Files → List ℕ → ℕ → List ℕ → Type 0
GaveWhole told name most given = WhenTold told (λ files. (files name ≡ Some given) × (length given ≤ most))

-- the shelf gave the front of a longer file
abbrev pub GaveFront : Files → List ℕ → ℕ → List ℕ → Type 0
GaveFront told name most given =
    WhenTold told (λ files. (bytes : List ℕ) × (files name ≡ Some bytes) × (most < length bytes) × (given ≡ take most bytes))

pub of-whole : (told : Files) (name given : List ℕ) (most : ℕ) (P : List ℕ → Type 0) → GaveWhole told name most given → P given → OfFile told name P
of-whole told name given most P gave p = record { file = given; has = λ files e. (gave files e).0; holds = p }

-- what holds of every file that is longer holds of the file of the name
of-front : (told : Files) (name given : List ℕ) (most : ℕ) (P : List ℕ → Type 0) → GaveFront told name most given → length given ≡ most → ((bytes : List ℕ) → most < length bytes → P bytes) →
    OfFile told name P
of-front None name given most P gave len each = record {
  file = given ++ 0 ∷ [];
  has = λ files e. cc;
  holds = each (given ++ 0 ∷ []) (omega (arith, length-append given (0 ∷ []), len));
}
of-front (Some files) name given most P gave len each =
    let h = gave files refl in
    record {
      file = h.0;
      has = λ other e. let same : files ≡ other = cc in subst (λ o. o name ≡ Some h.0) same h.1;
      holds = each h.0 h.2;
    }

-- why the bytes that were given have no image is why the file of the name has none
pub no_image-of_fault : (told : Files) (name given : List ℕ) (most : ℕ) (fault : MzFault) → GaveWhole told name most given → IsRefusalOrMemory given fault → HasNoImage told name (fault_reply fault)
no_image-of_fault told name given most NoMemory gave h = no_executable no_memory
no_image-of_fault told name given most _ gave h = misshapen (of-whole told name given most _ gave h)

-- why the bytes that were given have no unit is why the file of the name has none
pub no_unit-of_fault : (told : Files) (name given : List ℕ) (most : ℕ) (fault : ParseFault) → GaveWhole told name most given → IsFaultOf given fault → HasNoUnit told name (parse_reply fault)
no_unit-of_fault told name given most (At line kind) gave h = offends (of-whole told name given most _ gave h)
no_unit-of_fault told name given most ParseMemory gave h = no_text no_memory

-- why the bytes that were given are not assembled is why the file of the name is not
pub unassembled-of_fault : (told : Files) (name given : List ℕ) (most : ℕ) (fault : ListFault) → GaveWhole told name most given → IsListingFaultOf given fault → IsUnassembled told name (listing_reply fault)
unassembled-of_fault told name given most (ListedAt line kind) gave h = misspelled (of-whole told name given most _ gave h)
unassembled-of_fault told name given most ListMemory gave h = no_listing no_memory

-- why the shelf gave no file
pub no_file-of_fault : (told : Files) (name given : List ℕ) (most : ℕ) (fault : ShelfFault) → WhenTold told (λ files. Fetches (files name) most (Err fault) given) → HasNoFile told name
    (shelf_reply fault)
no_file-of_fault told name given most Absent lacks = no_file lacks
no_file-of_fault told name given most Failed h = file_fault
no_file-of_fault told name given most ShelfMemory h = no_memory

pub no_image-of_front : (told : Files) (name given : List ℕ) → GaveFront told name 262144 given → length given ≡ 262144 → HasNoImage told name (Format TooLarge)
no_image-of_front told name given gave len =
    misshapen (of-front told name given 262144 (λ file. IsRefusal file TooLarge) gave len (λ bytes long small. omega (arith, long, small)))

pub no_unit-of_front : (told : Files) (name given : List ℕ) → GaveFront told name 67108864 given → length given ≡ 67108864 → HasNoUnit told name (TextFault 0 Length)
no_unit-of_front told name given gave len =
    offends (of-front told name given 67108864 (λ text. IsTextRefusal text 0 Length) gave len (λ bytes long. record { refused = too_long long; no_tree = λ short tree stands. omega (arith, long, short) }))

pub unassembled-of_front : (told : Files) (name given : List ℕ) → GaveFront told name 67108864 given → length given ≡ 67108864 → IsUnassembled told name (ListingFault 0 ListLength)
unassembled-of_front told name given gave len =
    misspelled (of-front told name given 67108864 (λ text. IsFirstFault text 0 ListLength) gave len (λ bytes long. too_long_listed long))

-- what holds of the answer that `?` makes holds of the error
pub by-error : {T : Type 0} (result : Result T Reply) (reply : Reply) (P : Reply → Type 0) → IsErrAnd result (λ r. r ≡ reply) → P reply → IfErr result P
by-error (Ok t) reply P is p = absurd is
by-error (Err r) reply P is p = subst P (sym is) p

-- What is asked of the shelf.

-- the shelf gave the file, or its front; what was done with it finds no fault of the shelf
asks-found : {T : Type 0} (name : List ℕ) (most : ℕ) (shelf : ShelfChange) (fetched : Fetched) (result : Result T Reply) → Records shelf.asked.before shelf.asked.after (name, most) (Ok fetched) →
    (IsErrOf result NoFile → ⊥) → (IsErrOf result FileFault → ⊥) → AsksOnce name most shelf result
asks-found name most shelf fetched result asked no_absence no_failure = record {
  asked = inr asked;
  asked_prefix = inl asked;
  absent = λ is. absurd (no_absence is);
  failed = λ is. absurd (no_failure is);
}

pub asks-loaded : {T : Type 0} (name : List ℕ) (most : ℕ) (shelf : ShelfChange) (fetched : Fetched) (x : T) → Records shelf.asked.before shelf.asked.after (name, most) (Ok fetched) →
    AsksOnce name most shelf (Ok x)
asks-loaded name most shelf fetched x asked = asks-found name most shelf fetched (Ok x) asked (λ bad. cc) (λ bad. cc)

pub asks-misshapen : {T : Type 0} (name : List ℕ) (most : ℕ) (shelf : ShelfChange) (fetched : Fetched) (fault : MzFault) → Records shelf.asked.before shelf.asked.after (name, most) (Ok fetched) →
    AsksOnce {T = T} name most shelf (Err (fault_reply fault))
asks-misshapen {T = T} name most shelf fetched NoMemory asked =
    asks-found {T = T} name most shelf fetched (Err Memory) asked (λ bad. cc) (λ bad. cc)
asks-misshapen {T = T} name most shelf fetched _ asked =
    asks-found {T = T} name most shelf fetched (Err (Format _)) asked (λ bad. cc) (λ bad. cc)

pub asks-offended : {T : Type 0} (name : List ℕ) (most : ℕ) (shelf : ShelfChange) (fetched : Fetched) (fault : ParseFault) → Records shelf.asked.before shelf.asked.after (name, most) (Ok fetched) →
    AsksOnce {T = T} name most shelf (Err (parse_reply fault))
asks-offended {T = T} name most shelf fetched (At line kind) asked =
    asks-found {T = T} name most shelf fetched (Err (TextFault line kind)) asked (λ bad. cc) (λ bad. cc)
asks-offended {T = T} name most shelf fetched ParseMemory asked =
    asks-found {T = T} name most shelf fetched (Err Memory) asked (λ bad. cc) (λ bad. cc)

pub asks-misspelled : {T : Type 0} (name : List ℕ) (most : ℕ) (shelf : ShelfChange) (fetched : Fetched) (fault : ListFault) → Records shelf.asked.before shelf.asked.after (name, most) (Ok fetched) →
    AsksOnce {T = T} name most shelf (Err (listing_reply fault))
asks-misspelled {T = T} name most shelf fetched (ListedAt line kind) asked =
    asks-found {T = T} name most shelf fetched (Err (ListingFault line kind)) asked (λ bad. cc) (λ bad. cc)
asks-misspelled {T = T} name most shelf fetched ListMemory asked =
    asks-found {T = T} name most shelf fetched (Err Memory) asked (λ bad. cc) (λ bad. cc)

-- the shelf gave nothing
pub asks-in_vain : {T : Type 0} (name : List ℕ) (most : ℕ) (shelf : ShelfChange) (fault : ShelfFault) → Records shelf.asked.before shelf.asked.after (name, most) (Err fault) →
    (IsErrOf {T = Fetched} (Err fault) Absent → Rises shelf.absences) → (IsErrOf {T = Fetched} (Err fault) Failed → Rises shelf.faults) → AsksOnce {T = T} name most shelf (Err (shelf_reply fault))
asks-in_vain name most shelf Absent asked absent failed =
    record { asked = inr asked; asked_prefix = inl asked; absent = λ is. absent refl; failed = λ bad. cc }
asks-in_vain name most shelf Failed asked absent failed =
    record { asked = inr asked; asked_prefix = inl asked; absent = λ bad. cc; failed = λ is. failed refl }
asks-in_vain name most shelf ShelfMemory asked absent failed =
    record { asked = inl refl; asked_prefix = asked; absent = λ bad. cc; failed = λ bad. cc }
