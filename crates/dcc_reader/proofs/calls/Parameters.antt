-- The parameters of a function are the same with more calls than enough.
use Rattle.std.proofs.Common.{◌≡◌, ℕ, zero, suc, ◌+◌, ◌≤◌, List, [], ◌∷◌, refl, sym, ap, arith}
use Rattle.std.specs.Prelude.{codes}
use Rattle.dcc_c.specs.declared.syntax.Class.{Class}
use Rattle.dcc_c.specs.Pieces.{Piece}
use Rattle.dcc_c.specs.Reading.{Reader, Got, skip, is_the_mark, sees_mark, sees_word, take_mark, take_type}
use Rattle.dcc_c.specs.ReadingStatements.{read_class, read_param, more_params, read_params}
use Rattle.dcc_c.specs.ReadingText.{Begun, read_begun, head_with, read_head, reader_of, enough_calls}
use Rattle.dcc_c.proofs.reading.Passing.{if-cases}
use Rattle.dcc_c.proofs.reading.TextSound.{begun-sound}
use Rattle.dcc_reader.specs.Parts.{before_list}
use Rattle.dcc_reader.proofs.calls.ToRead.{to_read, Enough, going-reads, shorter-reads, skip-reads, sees-reads, mark-reads, name-reads, type-reads, if-same}

class-reads : (r : Reader) → to_read (read_class r).following ≤ to_read r
class-reads r =
    let less : Got Class → Type 0 = λ g. to_read g.following ≤ to_read r in
    if-cases less (sees_word (codes "register") r) (λ _. skip-reads r)
    (λ _. if-cases less (sees_word (codes "auto") r) (λ _. skip-reads r) (λ _. omega arith))

param-reads : (r : Reader) → to_read (read_param r).following ≤ to_read r
param-reads r =
    let class = read_class r in
    let type = take_type class.following in
    omega (arith, class-reads r, type-reads class.following, name-reads type.following)

more_params-same : (few many : ℕ) (r : Reader) → few ≤ many → Enough few 1 r → more_params few r ≡ more_params many r
more_params-same zero many r more enough = absurd (omega (arith, enough))
more_params-same (suc few) zero r more enough = absurd (omega (arith, more))
more_params-same (suc few) (suc many) r more enough =
    if-same (sees_mark (codes ",") r)
    (λ sees.
    let first = read_param (skip r) in
    ap (before_list (first.value ∷ [])) (more_params-same few many first.following (omega (arith, more)) (omega (arith, enough, sees-reads (is_the_mark (codes ",")) r refl sees, param-reads (skip r)))))
    (λ _. refl)

pub params-same : (few many : ℕ) (r : Reader) → few ≤ many → Enough few 1 r → read_params few r ≡ read_params many r
params-same few many r more enough =
    if-same (sees_word (codes "void") r) (λ _. refl)
    (λ _. let first = read_param r in ap (before_list (first.value ∷ [])) (more_params-same few many first.following more (omega (arith, enough, param-reads r))))

-- With calls that are enough for a function's head more calls read the same.
pub head-same : (few many : ℕ) (begun : Got Begun) → few ≤ many → Enough few 1 begun.following → read_head few begun ≡ read_head many begun
head-same few many begun more enough =
    let inside = take_mark (codes "(") begun.following in
    ap (head_with begun inside) (params-same few many inside more (omega (arith, enough, mark-reads (codes "(") begun.following)))

-- The head of the function that some pieces begin with is the same with each number of calls that is enough for them.
pub read-head-enough : (n : ℕ) (pieces : List Piece) → enough_calls pieces ≤ n →
    read_head n (read_begun (reader_of pieces)) ≡ read_head (enough_calls pieces) (read_begun (reader_of pieces))
read-head-enough n pieces more =
    let r = reader_of pieces in
    let begun = read_begun r in
    let less : to_read begun.following + 1 ≤ to_read r = omega (arith, shorter-reads r begun.following refl (λ going. (begun-sound r going).shorter)) in
    sym (head-same (enough_calls pieces) n begun more (omega (arith, less, going-reads r refl)))
