-- What is known of decoded instructions, as memory, marks and segments change.
use Rattle.std.proofs.Common.{◌≡◌, ◌≢◌, ℕ, ◌<◌, Bool, true, false, List, sym, ap, ◌∙◌, arith, slice_index, slice_set}
use Rattle.std.specs.List.{All}
use Rattle.std.proofs.lemmas.List.{get_or-set_other}
use Rattle.std.proofs.lemmas.List.Elements.{All-weaker}
use Rattle.dcc_step.specs.declared.cache.Decoded.{Decoded}
use Rattle.dcc_machine.specs.declared.cpu.Cpu.{Cpu}
use Rattle.dcc_machine.specs.declared.segment.TheConstants.{CS}
use Rattle.dcc_machine.specs.Table.{instruction_at}
use Rattle.dcc_step.specs.Cache.{code_address, bytes_at, is_marked, IsMarkedFrom, IsDecoded, IsFreshIfKnown}

-- a marked address is no other one
apart : (marks : List Bool) (a b : ℕ) → is_marked marks a ≡ true → is_marked marks b ≡ false → a ≢ b
apart marks a b here free is = let both : true ≡ false = sym here ∙ ap (is_marked marks) is ∙ free in cc

-- a byte is stored that is not marked
byte_stays : (memory : List ℕ) (marks : List Bool) (segment at address byte k : ℕ) → IsMarkedFrom marks segment at
    → is_marked marks address ≡ false → k < 6
    → slice_index (slice_set memory address byte) (code_address segment at k) ≡ slice_index memory (code_address segment at k)
byte_stays memory marks segment at address byte k marked free small =
    get_or-set_other memory address (code_address segment at k) byte 0 (apart marks (code_address segment at k) address (marked k small) free)

bytes_stay : (memory : List ℕ) (marks : List Bool) (segment at address byte : ℕ) → IsMarkedFrom marks segment at
    → is_marked marks address ≡ false → bytes_at memory segment at ≡ bytes_at (slice_set memory address byte) segment at
bytes_stay memory marks segment at address byte marked free =
    let a = byte_stays memory marks segment at address byte 0 marked free (omega arith) in
    let b = byte_stays memory marks segment at address byte 1 marked free (omega arith) in
    let c = byte_stays memory marks segment at address byte 2 marked free (omega arith) in
    let d = byte_stays memory marks segment at address byte 3 marked free (omega arith) in
    let e = byte_stays memory marks segment at address byte 4 marked free (omega arith) in
    let f = byte_stays memory marks segment at address byte 5 marked free (omega arith) in
    cc

pub fresh_stored : (memory : List ℕ) (segment : ℕ) (marks : List Bool) (address byte : ℕ) (cache : List Decoded)
    → is_marked marks address ≡ false → All (IsFreshIfKnown memory segment marks) cache
    → All (IsFreshIfKnown (slice_set memory address byte) segment marks) cache
fresh_stored memory segment marks address byte cache free all =
    All-weaker (IsFreshIfKnown memory segment marks) (IsFreshIfKnown (slice_set memory address byte) segment marks)
    (λ decoded fresh known. record {
      window = (fresh known).window ∙ bytes_stay memory marks segment decoded.at address byte (fresh known).marked free;
      marked = (fresh known).marked;
    })
    cache all

-- more is marked
pub fresh_more : (memory : List ℕ) (segment : ℕ) (marks now : List Bool) (cache : List Decoded)
    → ((a : ℕ) → is_marked marks a ≡ true → is_marked now a ≡ true) → All (IsFreshIfKnown memory segment marks) cache
    → All (IsFreshIfKnown memory segment now) cache
fresh_more memory segment marks now cache more all =
    All-weaker (IsFreshIfKnown memory segment marks) (IsFreshIfKnown memory segment now)
    (λ decoded fresh known. record {
      window = (fresh known).window;
      marked = λ k small. more (code_address segment decoded.at k) ((fresh known).marked k small);
    })
    cache all

not_both : false ≡ true → ⊥
not_both is = cc

-- nothing is known
pub fresh_none : (memory : List ℕ) (segment : ℕ) (marks : List Bool) (cache : List Decoded)
    → All (λ (decoded : Decoded). decoded.known ≡ false) cache → All (IsFreshIfKnown memory segment marks) cache
fresh_none memory segment marks cache unknown =
    All-weaker (λ (decoded : Decoded). decoded.known ≡ false) (IsFreshIfKnown memory segment marks)
    (λ decoded no known. let both : false ≡ true = sym no ∙ known in absurd (not_both both))
    cache unknown

-- what is known of the bytes at an offset is the instruction there
pub known_instruction : (cpu : Cpu) (memory : List ℕ) (segment : ℕ) (marks : List Bool) (decoded : Decoded) (ip : ℕ)
    → IsDecoded cpu decoded → IsFreshIfKnown memory segment marks decoded → decoded.known ≡ true → decoded.at ≡ ip
    → instruction_at cpu ip (bytes_at memory segment ip) ≡ decoded.instr
known_instruction cpu memory segment marks decoded ip is fresh known here =
    sym
    (is.is
    ∙ ap (instruction_at cpu decoded.at) (fresh known).window
    ∙ ap (λ at. instruction_at cpu at (bytes_at memory segment at)) here)

-- another segment register than CS takes a word
pub segment_stays : (segs : List ℕ) (number word : ℕ) → number ≢ CS → slice_index (slice_set segs number word) CS ≡ slice_index segs CS
segment_stays segs number word other = get_or-set_other segs number CS word 0 (λ is. other (sym is))
