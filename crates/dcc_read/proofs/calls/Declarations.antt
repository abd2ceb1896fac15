-- Declarations are the same with more calls than enough.
use Rattle.std.proofs.Common.{◌≡◌, ℕ, zero, suc, ◌<◌, ◌≤◌, ◌||◌, List, [], ◌∷◌, ◌++◌, None, refl, ap, arith}
use Rattle.std.specs.Prelude.{codes, if◌then◌else◌}
use Rattle.dcc_c.specs.Partial.{NumberAt}
use Rattle.dcc_c.specs.Reading.{Reader, Got, got, next_token, skip, is_the_mark, is_the_word, sees_mark, sees_word, take_mark, take_name, take_plain, begins_type, take_type}
use Rattle.dcc_c.specs.ReadingStatements.{read_size, list_of, more_values, read_values, read_init, read_local, read_locals}
use Rattle.dcc_c.specs.ReadingText.{Begun, read_global}
use Rattle.dcc_c.proofs.reading.Passing.{if-cases}
use Rattle.dcc_c.proofs.reading.Words.{type-sound}
use Rattle.dcc_c.proofs.reading.DeclSound.{size-sound, locals-sound}
use Rattle.dcc_reader.specs.Parts.{before_list}
use Rattle.dcc_read.proofs.TextLaws.{global_filled}
use Rattle.dcc_reader.proofs.calls.ToRead.{to_read, Enough, passed-reads, shorter-reads, skip-reads, sees-reads, sees-going, mark-reads, name-reads, plain-reads, type-reads, if-same}

-- Initial values.

more_values-same : (few many : ℕ) (r : Reader) → few ≤ many → Enough few 1 r → more_values few r ≡ more_values many r
more_values-same zero many r below enough = absurd (omega (arith, enough))
more_values-same (suc few) zero r below enough = absurd (omega (arith, below))
more_values-same (suc few) (suc many) r below enough =
    if-same (sees_mark (codes ",") r)
    (λ sees.
    let first = take_plain (skip r) in
    ap (before_list (list_of first.value)) (more_values-same few many first.following (omega (arith, below)) (omega (arith, enough, sees-reads (is_the_mark (codes ",")) r refl sees, plain-reads (skip r)))))
    (λ _. refl)

values-same : (few many : ℕ) (r : Reader) → few ≤ many → Enough few 1 r → read_values few r ≡ read_values many r
values-same few many r below enough =
    let first = take_plain (skip r) in
    if-same (sees_mark (codes "{") r)
    (λ _. ap (λ (others : Got (List NumberAt)). got (list_of first.value ++ others.value) (take_mark (codes "}") others.following))
    (more_values-same few many first.following below (omega (arith, enough, skip-reads r, plain-reads (skip r)))))
    (λ _. refl)

init-same : (few many : ℕ) (r : Reader) → few ≤ many → Enough few 1 r → read_init few r ≡ read_init many r
init-same few many r below enough =
    if-same (sees_mark (codes "=") r) (λ _. values-same few many (skip r) below (omega (arith, enough, skip-reads r))) (λ _. refl)

-- Variables.

size-reads : (r : Reader) → to_read (read_size r).following ≤ to_read r
size-reads r = passed-reads r (read_size r).following (λ going. (size-sound r going).steps.passed)

pub global-same : (few many address : ℕ) (begun : Got Begun) → few ≤ many → Enough few 1 begun.following → read_global few address begun ≡ read_global many address begun
global-same few many address begun below enough =
    let size = read_size begun.following in
    ap (global_filled begun.value address size.value) (init-same few many size.following below (omega (arith, enough, size-reads begun.following)))

-- a local variable that begins takes a piece, or reading stops
local-reads : (r : Reader) → r.stop ≡ None → to_read (read_local r).following < to_read r
local-reads r going =
    let here = if sees_word (codes "auto") r then skip r else r in
    let type = take_type here in
    let name = take_name type.following in
    let size = read_size name.following in
    let less : to_read type.following < to_read r = if-cases (λ from. to_read (take_type from).following < to_read r) (sees_word (codes "auto") r)
    (λ sees. omega (arith, sees-reads (is_the_word (codes "auto")) r refl sees, type-reads (skip r)))
    (λ _. shorter-reads r (take_type r).following going (λ on. (type-sound r on).shorter)) in
    omega (arith, less, name-reads type.following, size-reads name.following, mark-reads (codes ";") size.following)

pub locals-reads : (calls : ℕ) (r : Reader) → to_read (read_locals calls r).following ≤ to_read r
locals-reads calls r = passed-reads r (read_locals calls r).following (λ going. (locals-sound calls r going).steps.passed)

pub locals-same : (few many : ℕ) (r : Reader) → few ≤ many → Enough few 1 r → read_locals few r ≡ read_locals many r
locals-same zero many r below enough = absurd (omega (arith, enough))
locals-same (suc few) zero r below enough = absurd (omega (arith, below))
locals-same (suc few) (suc many) r below enough =
    if-same (sees_word (codes "auto") r || begins_type (next_token r))
    (λ sees.
    let first = read_local r in
    let going = sees-going (λ token. is_the_word (codes "auto") token || begins_type token) r refl sees in
    ap (before_list (first.value ∷ [])) (locals-same few many first.following (omega (arith, below)) (omega (arith, enough, local-reads r going))))
    (λ _. refl)
